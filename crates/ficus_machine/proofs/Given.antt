-- What the world comes to where it is given a piece of an answer to its member.
use Rattle.std.proofs.Common.{◌≡◌, ◌≢◌, ◌⊎◌, ℕ, ◌-◌, List, [], ◌++◌, length, Option, Some, Result, Ok, Err, refl, sym, ap, subst, ◌∙◌, inl, inr}
use Rattle.std.specs.Prelude.{IsSome, slice_set}
use Rattle.std.proofs.lemmas.Bool.{cases_eq}
use Rattle.std.proofs.lemmas.List.{append-nil, length-set}
use Rattle.ficus_ids.specs.declared.refusal.Refusal.{Refusal}
use Rattle.ficus_ids.specs.declared.refusal.Refusal.TheVariants as refusal
use Rattle.ficus_ids.specs.Members.{IsMember}
use Rattle.ficus_model.specs.declared.event.Event.TheVariants as event
use Rattle.ficus_opening.specs.declared.member.Member.{Member}
use Rattle.ficus_runs.specs.Message.{IsSpelled, Reads}
use Rattle.ficus_runs.specs.Numbered.{IsNumbered}
use Rattle.ficus_runs.specs.Sequence.{Effect}
use Rattle.ficus_runs.specs.Sequence.ByRule.{Says}
use Rattle.ficus_runs.specs.Sequence.First.{Ends, Goes}
use Rattle.ficus_runs.proofs.Numbers.{number_exists, number_once}
use Rattle.ficus_script.specs.declared.answer.Answer.{Answer}
use Rattle.ficus_script.specs.declared.answer.Answer.TheVariants.{Done, Part, Refused}
use Rattle.ficus_script.specs.declared.command.Command.TheVariants as command
use Rattle.ficus_wire.specs.Message.{FitsMessage, message_bytes, piece_of}
use Rattle.ficus_wire.specs.Parts.{HasAllBut, HasPart, HeldParts, with_part}
use Rattle.ficus_wire.proofs.Holding.{part_elsewhere}
use Rattle.ficus_wire.specs.declared.message.Message.{Message}
use Rattle.ficus_wire.specs.declared.message.PieceHead.{PieceHead}
use Rattle.ficus_world.specs.Moves.{CarriesOut, HandlesMessage, TakesFitting, TakesPiece, TakesSpelled, gathered, parts_held, spelled_with, with_post}
use Rattle.ficus_world.specs.Moves.FetchesBytes.{NoMail, NotFetched, Fetched}
use Rattle.ficus_world.specs.Moves.FindsTaker.{AnswersNone, FindsIt, OfAnotherState, OfOtherPieces, TakerDown}
use Rattle.ficus_world.specs.Moves.TakesFitting.{IsHeld, IsOneMore, IsTheLast}
use Rattle.ficus_world.specs.Moves.TakesSpelled.{SpellsNone, SpellsTables}
use Rattle.ficus_world.specs.Moves.TakesTables.{Refuses, Takes, TakesNot}
use Rattle.ficus_world.specs.Post.{Outbox}
use Rattle.ficus_world.specs.World.{Whole}
use Rattle.ficus_world.proofs.Lifting.Spelling.{one_message}
use Rattle.ficus_world.proofs.machines.Parts.{number_put}
use Rattle.ficus_world.proofs.machines.Sends.{failed_posts}
use Rattle.ficus_machine.specs.Answers.{OnlyHolds}
use Rattle.ficus_machine.specs.Gathering.{CompletesWith, HoldsOneMore}

-- the state is taken, or the disks fail
abbrev pub Ending : Result Answer Refusal → Type 0
Ending result = (result ≡ Ok Done) ⊎ (result ≡ Err refusal.Store)

-- Nothing is posted; and unless the state is taken, or the disks fail, only what the member holds of an answer changes,
-- to which no other piece comes. The state is taken only where the member held all other pieces.
pub record GivesPiece (me : ℕ) (head : PieceHead) (old : Whole) (result : Result Answer Refusal) (after : Whole) :
    Type 0 where
  pub posts : after.post.posts ≡ old.post.posts ++ []
  pub count : length after.members ≡ length old.members
  pub holds : result ≢ Ok Done → result ≢ Err refusal.Store → OnlyHolds me old after
  pub more : result ≢ Ok Done → result ≢ Err refusal.Store → HoldsOneMore me head old after
  pub whole : Ending result → CompletesWith old me head
  pub no_refusal : (r : Refusal) → result ≡ Ok (Refused r) → ⊥

-- of the same members nothing differs
pub only_same : (me : ℕ) (old after : Whole) → after.members ≡ old.members → OnlyHolds me old after
only_same me old after same = record {
  count = ap (λ (list : List Member). length list) same;
  each = λ was now at at_too.
      let is : now ≡ was = number_once (subst (λ (list : List Member). IsNumbered list me now) same at_too) at in
      record {
        replica = ap (λ (m : Member). m.replica) is;
        state = ap (λ (m : Member). m.state) is;
        fused = ap (λ (m : Member). m.fused) is;
      };
}

-- what is held of an answer may differ by one change after the other
pub only_then : {me : ℕ} {old middle after : Whole} → OnlyHolds me old middle → OnlyHolds me middle after
    → OnlyHolds me old after
only_then {me} {old} {middle} {after} first then = record {
  count = then.count ∙ first.count;
  each = λ was now at at_too.
      let between = number_exists middle.members me (subst (λ n. IsMember n me) (sym first.count) at.member) in
      let one = first.each was between.0 at between.1 in
      let other = then.each between.0 now between.1 at_too in
      record {
        replica = other.replica ∙ one.replica;
        state = other.state ∙ one.state;
        fused = other.fused ∙ one.fused;
      };
}

-- of the same members none holds more
pub more_same : (me : ℕ) (head : PieceHead) (old after : Whole) → after.members ≡ old.members
    → HoldsOneMore me head old after
more_same me head old after same was now other at at_too has =
    let is : now ≡ was = number_once (subst (λ (list : List Member). IsNumbered list me now) same at_too) at in
    inl (subst (λ (m : Member). HasPart (parts_held m.parts head) other) is has)

-- nor does a member that holds one piece more
more_parts : (me : ℕ) (head : PieceHead) (old after : Whole) (was : Member) (bytes : List ℕ)
    → IsNumbered old.members me was
    → after.members ≡ slice_set old.members (me - 1)
    (record was { parts = Some (with_part (parts_held was.parts head) head.index bytes) })
    → HoldsOneMore me head old after
more_parts me head old after was bytes is members one now other at at_too has =
    let next : Member = record was { parts = Some (with_part (parts_held was.parts head) head.index bytes) } in
    let found : now ≡ next =
    number_once (subst (λ (list : List Member). IsNumbered list me now) members at_too)
    (number_put old.members me next is.member) in
    let same : was ≡ one = number_once is at in
    let here : HasPart (with_part (parts_held was.parts head) head.index bytes) other =
    subst (λ (m : Member). HasPart (parts_held m.parts head) other) found has in
    elim (cases_eq other head.index) [
      | inl equal ↦ inr equal
      | inr apart ↦
          inl (subst (λ (m : Member). HasPart (parts_held m.parts head) other) same
          (subst (λ (o : Option (List ℕ)). IsSome o)
          (part_elsewhere (parts_held was.parts head) head.index bytes other apart) here))
    ]

-- the member that held all other pieces is the one of its number
completes : (me : ℕ) (head : PieceHead) (old : Whole) (was : Member) → IsNumbered old.members me was
    → (parts_held was.parts head).pieces ≡ head.pieces → HasAllBut (parts_held was.parts head) head.index
    → CompletesWith old me head
completes me head old was is counts others member at =
    subst (λ (m : Member). ((parts_held m.parts head).pieces ≡ head.pieces)
    × HasAllBut (parts_held m.parts head) head.index) (number_once is at) (counts, others)

-- the world refuses it, and not for the disks
unstored : {A : Type 0} (r : Refusal) → r ≢ refusal.Store → Ending (Err r) → A
unstored r other (inl taken) = absurd (cc)
unstored r other (inr stored) = let same : r ≡ refusal.Store = cc in absurd (other same)

-- that so many pieces are held ends nothing
part_unended : {A : Type 0} (have pieces : ℕ) → Ending (Ok (Part have pieces)) → A
part_unended have pieces (inl taken) = absurd (cc)
part_unended have pieces (inr stored) = absurd (cc)

-- nothing has changed but that a fault was counted, and the answer is no refusal
idle : (me : ℕ) (head : PieceHead) (old : Whole) (result : Result Answer Refusal) (after : Whole)
    → after.members ≡ old.members → after.post.posts ≡ old.post.posts ++ []
    → (Ending result → CompletesWith old me head) → ((r : Refusal) → result ≡ Ok (Refused r) → ⊥)
    → GivesPiece me head old result after
idle me head old result after members posts whole none = record {
  posts = posts;
  count = ap (λ (list : List Member). length list) members;
  holds = λ done store. only_same me old after members;
  more = λ done store. more_same me head old after members;
  whole = whole;
  no_refusal = none;
}

refused : (me : ℕ) (head : PieceHead) (old : Whole) (r : Refusal) → (Ending (Err r) → CompletesWith old me head)
    → GivesPiece me head old (Err r) old
refused me head old r whole = idle me head old (Err r) old refl (sym (append-nil old.post.posts)) whole (λ again same. cc)

-- the member is another one now, which differs only where the state is taken, or the disks fail
moved : (me : ℕ) (head : PieceHead) (old : Whole) (result : Result Answer Refusal) (after : Whole) (next : Member)
    → after.members ≡ slice_set old.members (me - 1) next → after.post ≡ old.post
    → (result ≢ Ok Done → result ≢ Err refusal.Store → OnlyHolds me old after × HoldsOneMore me head old after)
    → (Ending result → CompletesWith old me head) → ((r : Refusal) → result ≡ Ok (Refused r) → ⊥)
    → GivesPiece me head old result after
moved me head old result after next members post holds whole none = record {
  posts = ap (λ (p : Outbox). p.posts) post ∙ sym (append-nil old.post.posts);
  count = ap (λ (list : List Member). length list) members ∙ length-set old.members (me - 1) next;
  holds = λ done store. let held = holds done store in held.0;
  more = λ done store. let held = holds done store in held.1;
  whole = whole;
  no_refusal = none;
}

-- the member holds other parts of an answer now
holds_parts : (me : ℕ) (old after : Whole) (was : Member) (parts : HeldParts) → IsNumbered old.members me was
    → after.members ≡ slice_set old.members (me - 1) (record was { parts = Some parts }) → OnlyHolds me old after
holds_parts me old after was parts is members =
    let next : Member = record was { parts = Some parts } in
    record {
      count = ap (λ (list : List Member). length list) members ∙ length-set old.members (me - 1) next;
      each = λ one now at at_too.
          let found : now ≡ next =
          number_once (subst (λ (list : List Member). IsNumbered list me now) members at_too)
          (number_put old.members me next is.member) in
          let same : one ≡ was = number_once at is in
          record {
            replica = ap (λ (m : Member). m.replica) found ∙ sym (ap (λ (m : Member). m.replica) same);
            state = ap (λ (m : Member). m.state) found ∙ sym (ap (λ (m : Member). m.state) same);
            fused = ap (λ (m : Member). m.fused) found ∙ sym (ap (λ (m : Member). m.fused) same);
          };
    }

-- that so many pieces are held is no refusal
part_unrefused : (have pieces : ℕ) (r : Refusal)
    → ◌≡◌ {A = Result Answer Refusal} (Ok (Part have pieces)) (Ok (Refused r)) → ⊥
part_unrefused have pieces r same = cc

-- a message came to member `me`
module _ (mail from me ask : ℕ) (old : Whole) (head : PieceHead) where
  tables : CompletesWith old me head → (index : ℕ) (bytes : List ℕ) (result : Result Answer Refusal)
      (left : Effect Whole)
      → TakesSpelled (record { mail = mail; from = from; to = me; ask = ask }) index bytes old result left
      → GivesPiece me head old result left.after
  tables whole index bytes result left (SpellsTables fits spells (Takes is up place gives)) =
      moved me head old (Ok Done) _ _ refl refl (λ done store. absurd (done refl)) (λ ends. whole) (λ r same. cc)
  tables whole index bytes result left (SpellsTables fits spells (TakesNot is up place gives)) =
      moved me head old (Err refusal.Store) _ _ refl refl (λ done store. absurd (store refl)) (λ ends. whole)
      (λ r same. cc)
  tables whole index bytes result left (SpellsTables fits spells (Refuses {r = r} is up no_memory gives)) =
      refused me head old r (λ ends. whole)
  tables whole index bytes result left (SpellsNone none) = refused me head old refusal.BadMessage (λ ends. whole)

  module _ (bytes : List ℕ) where
    fitting : (was : Member) → IsNumbered old.members me was → (parts_held was.parts head).pieces ≡ head.pieces
        → (result : Result Answer Refusal) (left : Effect Whole)
        → TakesFitting (record { mail = mail; from = from; to = me; ask = ask }) head bytes was old result left
        → GivesPiece me head old result left.after
    fitting was is counts result left (IsHeld has) =
        idle me head old _ old refl (sym (append-nil old.post.posts)) (part_unended _ _) (part_unrefused _ _)
    fitting was is counts result left (IsOneMore {place = place} lacks others lies) =
        let parts = with_part (parts_held was.parts head) head.index bytes in
        let after = gathered old me was parts (event.Take me place.position head.index) in
        moved me head old _ after (record was { parts = Some parts }) refl refl
        (λ done store. (holds_parts me old after was parts is refl, more_parts me head old after was bytes is refl))
        (part_unended _ _) (part_unrefused _ _)
    fitting was is counts result left (IsTheLast {result = given} {left = last} lacks others takes) =
        tables (completes me head old was is counts others) head.index (spelled_with was head bytes) given last takes

    takes : (result : Result Answer Refusal) (left : Effect Whole)
        → TakesPiece (record { mail = mail; from = from; to = me; ask = ask }) head bytes old result left
        → GivesPiece me head old result left.after
    takes result left (Ends (TakerDown is down)) = refused me head old refusal.Down (unstored refusal.Down (λ same. cc))
    takes result left (Ends (AnswersNone is up none)) =
        refused me head old refusal.Stale (unstored refusal.Stale (λ same. cc))
    takes result left (Ends (OfAnotherState waits differs)) =
        refused me head old refusal.Mixed (unstored refusal.Mixed (λ same. cc))
    takes result left (Ends (OfOtherPieces waits states differs)) =
        refused me head old refusal.BadMessage (unstored refusal.BadMessage (λ same. cc))
    takes result left (Goes {left = last} (FindsIt {was = was} waiting states counts) rest) =
        fitting was waiting.is counts result last rest

module _ (disks_tell : Type 0) (number : ℕ) (head : PieceHead) (bytes : List ℕ) (old : Whole)
    (fits : FitsMessage (length old.members) (piece_of head bytes))
    (is : IsNumbered old.post.posts number (message_bytes (piece_of head bytes))) where
  abbrev to : ℕ
  to = head.route.to

  -- the bytes of that number spell the piece, and nothing else
  is_piece : (found : List ℕ) (m : Message) → IsNumbered old.post.posts number found
      → IsSpelled (length old.members) found m → m ≡ piece_of head bytes
  is_piece found m at spelled =
      one_message (length old.members) m (piece_of head bytes) spelled.fits fits (sym spelled.is ∙ number_once at is)

  pub gives_piece_to : (result : Result Answer Refusal) (left : Effect Whole)
      → CarriesOut (Unit {0}) disks_tell (command.Give number) old result left
      → GivesPiece head.route.to head old result left.after
  gives_piece_to result left (Ends (Ends (NoMail none))) = absurd (none is.member)
  gives_piece_to result left (Ends (Ends (NotFetched {post = post} some failed))) =
      idle to head old (Err refusal.Link) (with_post old post) refl (failed_posts old.post post failed)
      (unstored refusal.Link (λ same. cc)) (λ r same. cc)
  gives_piece_to result left (Ends (Goes (Fetched {bytes = found} fetched) (Says {result = Err r} none))) =
      refused to head old r (unstored r (λ same.
      subst (λ (one : Refusal). Reads (length old.members) found (Err one)) same none))
  gives_piece_to result left
      (Goes {a = m} {left = last} (Goes (Fetched {bytes = found} fetched) (Says spelled)) handles) =
      takes number head.route.from to head.route.number old head bytes result last
      (subst (λ (one : Message). HandlesMessage (Unit {0}) number one old result last)
      (is_piece found m (fetched.told tt) spelled) handles)

-- the world is given a piece that goes to member `me`
pub gives_piece : (disks_tell : Type 0) {me number : ℕ} {head : PieceHead} {bytes : List ℕ} {old : Whole}
    → head.route.to ≡ me → FitsMessage (length old.members) (piece_of head bytes)
    → IsNumbered old.post.posts number (message_bytes (piece_of head bytes))
    → (result : Result Answer Refusal) (left : Effect Whole)
    → CarriesOut (Unit {0}) disks_tell (command.Give number) old result left → GivesPiece me head old result left.after
gives_piece disks_tell {me} {number} {head} {bytes} {old} own fits is result left does =
    subst (λ n. GivesPiece n head old result left.after) own
    (gives_piece_to disks_tell number head bytes old fits is result left does)
