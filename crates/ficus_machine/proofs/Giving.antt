-- What a machine has done that has given its world a piece of an answer.
use Rattle.std.proofs.Common.{◌≡◌, ◌≢◌, ◌⊎◌, ℕ, ◌+◌, List, [], ◌∷◌, ◌++◌, length, Option, None, true, false, Result, Ok, Err, refl, sym, ap, subst, ◌∙◌, inl, inr}
use Rattle.ficus_disk.specs.declared.disk.Disk.{Ghosts as Disk}
use Rattle.ficus_disk.specs.declared.pair.Pair.{Pair}
use Rattle.ficus_ids.specs.declared.refusal.Refusal.{Refusal}
use Rattle.ficus_ids.specs.declared.refusal.Refusal.TheVariants as refusal
use Rattle.ficus_keeper.specs.declared.keep.Keep.{Ghosts as Keep}
use Rattle.ficus_note.specs.declared.asked.Asked.{Asked as Noted}
use Rattle.ficus_opening.specs.declared.member.Member.{Member}
use Rattle.ficus_runs.specs.Answers.{answer_as}
use Rattle.ficus_runs.specs.Numbered.{IsNumbered}
use Rattle.ficus_runs.proofs.Numbers.{number_end}
use Rattle.ficus_script.specs.declared.answer.Answer.{Answer}
use Rattle.ficus_script.specs.declared.answer.Answer.TheVariants.{Done, Refused}
use Rattle.ficus_script.specs.declared.command.Command.TheVariants as command
use Rattle.ficus_wire.specs.Message.{FitsMessage, piece_of}
use Rattle.ficus_wire.specs.Parts.{HasAllBut, HasPart}
use Rattle.ficus_wire.specs.declared.message.PieceHead.{PieceHead}
use Rattle.ficus_world.specs.Hearing.{HearsNot}
use Rattle.ficus_world.specs.Kills.{IsDeedOf, Passes}
use Rattle.ficus_world.specs.Machines.Acting.{ActsAlone}
use Rattle.ficus_world.specs.Machines.Part.{Gives, IsOwnMail, goes_to}
use Rattle.ficus_world.specs.Machines.Together.Alone.{Acted, Ended, Heard}
use Rattle.ficus_world.specs.Moves.{parts_held, with_post}
use Rattle.ficus_world.specs.Post.{IsSent, Outbox, lies_behind}
use Rattle.ficus_world.specs.World.{Whole}
use Rattle.ficus_world.proofs.Lifting.Spelling.{one_message}
use Rattle.ficus_machine.specs.Acting.{MovesSomehow}
use Rattle.ficus_machine.specs.Answers.{OnlyHolds, SpellsPiece}
use Rattle.ficus_machine.specs.Gathering.{CompletesWith, EndsTaking, Giving, HoldsOneMore}
use Rattle.ficus_machine.specs.Gathering.Giving.{IsKept, IsRefused, IsTaken, IsUnheard, WantsMemory}
use Rattle.ficus_machine.specs.Halts.{halt_of}
use Rattle.ficus_machine.specs.Moments.{IsOpenIn, Works}
use Rattle.ficus_machine.specs.declared.fault.Halt.{Halt}
use Rattle.ficus_machine.specs.declared.fault.Halt.TheVariants as halt
use Rattle.ficus_machine.specs.declared.fault.LineFault.{LineFault}
use Rattle.ficus_machine.specs.declared.fault.LineFault.TheVariants as line
use Rattle.ficus_machine.proofs.Given.{Ending, GivesPiece, gives_piece, only_same, only_then}
use Rattle.ficus_machine.proofs.Opens.{works_heard}

-- what an answer says of the result that was answered so
result_refused : (result : Result Answer Refusal) (answer : Answer) (r : Refusal) → answer ≡ answer_as result
    → answer ≡ Refused r → (result ≡ Ok (Refused r) → ⊥) → result ≡ Err r
result_refused (Ok given) answer r is refused none = absurd (none (ap (λ (a : Answer). Ok a) (sym is ∙ refused)))
result_refused (Err fault) answer r is refused none =
    let same : fault ≡ r = cc in ap (λ (one : Refusal). Err one) same

result_fine : (result : Result Answer Refusal) (answer : Answer) → answer ≡ answer_as result
    → ((r : Refusal) → answer ≡ Refused r → ⊥) → result ≡ Ok answer
result_fine (Ok given) answer is none = ap (λ (a : Answer). Ok a) (sym is)
result_fine (Err r) answer is none = absurd (none r is)

module _ {disks_tell : Type 0} {me : ℕ} {spelled : List ℕ} {old : Whole} where
  -- the message isn't heard
  pub giving_unheard : {r : Refusal} {new : Whole} → HearsNot spelled old.post new.post r → r ≢ refusal.Memory
      → new ≡ with_post old new.post → Giving disks_tell me spelled old (Err (halt.Refused r)) new
  giving_unheard {r} {new} none other rest =
      subst (λ (w : Whole). Giving disks_tell me spelled old (Err (halt.Refused r)) w) (sym rest) (IsUnheard none other)

  pub giving_memory : {new : Whole} → new ≡ with_post old new.post → Giving disks_tell me spelled old (Err halt.Memory) new
  giving_memory {new} rest =
      subst (λ (w : Whole). Giving disks_tell me spelled old (Err halt.Memory) w) (sym rest) WantsMemory

  -- whatever is made of why it isn't heard
  pub giving_halted : {r : Refusal} {h : Halt} {new : Whole} → HearsNot spelled old.post new.post r
      → new ≡ with_post old new.post
      → ((r ≡ refusal.Memory) × (h ≡ halt.Memory)) ⊎ ((r ≢ refusal.Memory) × (h ≡ halt.Refused r))
      → Giving disks_tell me spelled old (Err h) new
  giving_halted {r} {h} {new} none rest (inl (memory, is)) =
      subst (λ (one : Halt). Giving disks_tell me spelled old (Err one) new) (sym is) (giving_memory rest)
  giving_halted {r} {h} {new} none rest (inr (other, is)) =
      subst (λ (one : Halt). Giving disks_tell me spelled old (Err one) new) (sym is) (giving_unheard none other rest)

  -- it is heard, but memory is refused for what is done with it
  pub giving_undone : (fault : LineFault) {h : Halt} {middle new : Whole} → h ≡ halt_of fault → (fault ≡ line.Note → ⊥)
      → middle ≡ with_post old middle.post → new ≡ middle → Giving disks_tell me spelled old (Err h) new
  giving_undone line.Memory {h} {middle} {new} is none rest same =
      subst (λ (one : Halt). Giving disks_tell me spelled old (Err one) new) (sym is)
      (giving_memory (subst (λ (w : Whole). w ≡ with_post old w.post) (sym same) rest))
  giving_undone line.Note is none rest same = absurd (none refl)

-- it is heard, and then given
module _ {disks_tell : Type 0} {me number : ℕ} {head : PieceHead} {spelled : List ℕ} (old : Whole) {middle after : Whole}
    {answer : Answer} (own : head.route.to ≡ me) (spells : SpellsPiece (length old.members) head spelled)
    (sent : IsSent (Unit {0}) old.post (lies_behind 0 0) spelled number middle.post)
    (rest : middle ≡ with_post old middle.post)
    (somehow : MovesSomehow disks_tell middle (command.Give number) answer after) where
  numbered : IsNumbered middle.post.posts number spelled
  numbered =
      subst (λ n. IsNumbered middle.post.posts n spelled) (sym sent.number_is)
      (subst (λ (posts : List (List ℕ)). IsNumbered posts (length old.post.posts + 1) spelled) (sym (sent.told tt))
      (number_end old.post.posts spelled))

  members : middle.members ≡ old.members
  members = ap (λ (w : Whole). w.members) rest

  count : length middle.members ≡ length old.members
  count = ap (λ (w : Whole). length w.members) rest

  fits : FitsMessage (length middle.members) (piece_of head spells.bytes)
  fits = subst (λ n. FitsMessage n (piece_of head spells.bytes)) (sym count) spells.fits

  given : GivesPiece me head middle somehow.moves.result after
  given =
      gives_piece disks_tell own fits (subst (λ (bytes : List ℕ). IsNumbered middle.post.posts number bytes) spells.is numbered)
      somehow.moves.result (record { outcomes = somehow.outcomes; after = after }) somehow.moves.does

  mail : IsOwnMail me middle number spelled
  mail = record {
    is = numbered;
    own = λ m reads.
        ap goes_to
        (one_message (length middle.members) m (piece_of head spells.bytes) reads.fits fits (sym reads.is ∙ spells.is))
        ∙ own;
  }

  acts : ActsAlone (Unit {0}) disks_tell me (spelled ∷ []) (Gives number spelled) answer old after
  acts = record {
    result = somehow.moves.result;
    answer_is = somehow.moves.answer_is;
    posted = [];
    alone =
        Heard middle (record { post = middle.post; posts = sent.told tt; is = rest })
        (Acted after somehow.outcomes [] mail somehow.moves.does given.posts Ended);
    sent =
        subst (λ (posts : List (List ℕ)). after.post.posts ≡ posts ++ []) (sent.told tt) given.posts;
  }

  pub giving_count : length after.members ≡ length old.members
  giving_count = given.count ∙ count

  holds : somehow.moves.result ≢ Ok Done → somehow.moves.result ≢ Err refusal.Store → OnlyHolds me old after
  holds done store = only_then (only_same me old middle members) (given.holds done store)

  ends_with : Ending somehow.moves.result → CompletesWith old me head
  ends_with ends =
      subst (λ (list : List Member). (member : Member) → IsNumbered list me member
      → ((parts_held member.parts head).pieces ≡ head.pieces) × HasAllBut (parts_held member.parts head) head.index)
      members (given.whole ends)

  -- the result is that the state was taken
  is_done : answer ≡ Done → somehow.moves.result ≡ Ok Done
  is_done done =
      result_fine somehow.moves.result answer somehow.moves.answer_is (λ r same. cc) ∙ ap (λ (a : Answer). Ok a) done

  -- that it wasn't
  is_err : (r : Refusal) → answer ≡ Refused r → somehow.moves.result ≡ Err r
  is_err r refused =
      result_refused somehow.moves.result answer r somehow.moves.answer_is refused (given.no_refusal r)

  -- or that it is to be
  is_fine : ((r : Refusal) → answer ≡ Refused r → ⊥) → somehow.moves.result ≡ Ok answer
  is_fine unrefused = result_fine somehow.moves.result answer somehow.moves.answer_is unrefused

  pub whole_done : answer ≡ Done → CompletesWith old me head
  whole_done done = ends_with (inl (is_done done))

  pub whole_refused : (r : Refusal) → answer ≡ Refused r → EndsTaking (Err (halt.Refused r)) → CompletesWith old me head
  whole_refused r refused (inl taken) = absurd (cc)
  whole_refused r refused (inr stored) =
      let so : r ≡ refusal.Store = cc in
      ends_with (inr (is_err r refused ∙ ap (λ (one : Refusal). Err one) so))

  pub more_kept : answer ≢ Done → ((r : Refusal) → answer ≡ Refused r → ⊥) → HoldsOneMore me head old after
  more_kept partly unrefused =
      let is = is_fine unrefused in
      subst (λ (list : List Member). (was now : Member) (other : ℕ) → IsNumbered list me was
      → IsNumbered after.members me now → HasPart (parts_held now.parts head) other
      → HasPart (parts_held was.parts head) other ⊎ (other ≡ head.index)) members
      (given.more (λ done. let same : answer ≡ Done = cc in partly same) (λ store. absurd (cc)))

  -- so much is noted, which isn't where the state is taken
  module _ {K D : Type 0} (keep : Keep K) (disk : Disk D) (disks new : List (Pair D)) (noted : Option Noted)
      (opened : IsOpenIn old me noted)
      (passes : Passes (Unit {0}) keep disk (IsDeedOf (command.Give number)) middle after disks new
      ⊎ ((after ≡ middle) × (new ≡ disks))) where
    works : (noted ≢ None → OnlyHolds me middle after) → Works keep disk me noted old after disks new
    works holds =
        works_heard keep disk me noted (command.Give number) old middle after disks new members opened passes holds

    pub works_done : answer ≡ Done → (EndsTaking (Ok true) → noted ≡ None) → Works keep disk me noted old after disks new
    works_done done ends = works (λ some. absurd (some (ends (inl refl))))

    pub works_refused : (r : Refusal) → answer ≡ Refused r → (EndsTaking (Err (halt.Refused r)) → noted ≡ None)
        → Works keep disk me noted old after disks new
    works_refused r refused ends =
        let is = is_err r refused in
        works (λ some. given.holds (λ done. absurd (cc)) (λ store.
        let same : r ≡ refusal.Store = cc in
        some (ends (inr (ap (λ (one : Refusal). Err (halt.Refused one)) same)))))

    pub works_kept : answer ≢ Done → ((r : Refusal) → answer ≡ Refused r → ⊥)
        → Works keep disk me noted old after disks new
    works_kept partly unrefused =
        let is = is_fine unrefused in
        works (λ some. given.holds (λ done. let same : answer ≡ Done = cc in partly same) (λ store. absurd (cc)))

  pub giving_done : answer ≡ Done → Giving disks_tell me spelled old (Ok true) after
  unfolding acts
  giving_done done =
      IsTaken acts
      (result_fine somehow.moves.result answer somehow.moves.answer_is (λ r same. cc) ∙ ap (λ (a : Answer). Ok a) done)

  pub giving_refused : (r : Refusal) → answer ≡ Refused r → Giving disks_tell me spelled old (Err (halt.Refused r)) after
  unfolding acts
  giving_refused r refused =
      let is = result_refused somehow.moves.result answer r somehow.moves.answer_is refused (given.no_refusal r) in
      IsRefused acts is
      (λ other. holds (λ done. absurd (cc)) (λ store. let same : r ≡ refusal.Store = cc in other same))

  pub giving_kept : answer ≢ Done → ((r : Refusal) → answer ≡ Refused r → ⊥)
      → Giving disks_tell me spelled old (Ok false) after
  unfolding acts
  giving_kept partly unrefused =
      let is = result_fine somehow.moves.result answer somehow.moves.answer_is unrefused in
      IsKept acts is partly
      (holds (λ done. let same : answer ≡ Done = cc in partly same)
      (λ store. absurd (cc)))

-- it isn't for the member's disks that a message isn't heard
pub unheard_unstored : {spelled : List ℕ} {old new : Outbox} {r : Refusal} → HearsNot spelled old new r → r ≡ refusal.Store → ⊥
unheard_unstored {r = r} none is = go none.one
  where
    go : (r ≡ refusal.BadMessage) ⊎ ((r ≡ refusal.LinkFull) ⊎ ((r ≡ refusal.Link) ⊎ (r ≡ refusal.Memory))) → ⊥
    go (inl bad) = cc
    go (inr (inl full)) = cc
    go (inr (inr (inl link))) = cc
    go (inr (inr (inr memory))) = cc

-- it ends for no disk that a message isn't heard
pub ends_unheard : {spelled : List ℕ} {old new : Outbox} {r : Refusal} {h : Halt} {A : Type 0}
    → HearsNot spelled old new r
    → ((r ≡ refusal.Memory) × (h ≡ halt.Memory)) ⊎ ((r ≢ refusal.Memory) × (h ≡ halt.Refused r)) → EndsTaking (Err h)
    → A
ends_unheard none why (inl taken) = absurd (cc)
ends_unheard {r = r} {h = h} none (inl (memory, is)) (inr stored) = absurd (cc)
ends_unheard {r = r} {h = h} none (inr (other, is)) (inr stored) =
    let same : r ≡ refusal.Store = cc in absurd (unheard_unstored none same)

-- nor that memory is refused
pub ends_undone : (fault : LineFault) {h : Halt} {A : Type 0} → h ≡ halt_of fault → EndsTaking (Err h) → A
ends_undone fault is (inl taken) = absurd (cc)
ends_undone line.Memory {h} is (inr stored) = absurd (cc)
ends_undone line.Note {h} is (inr stored) = absurd (cc)

-- what is done after a message was heard, where memory is refused for it
pub works_undone : {K D : Type 0} (keep : Keep K) (disk : Disk D) (me : ℕ) (noted : Option Noted) (number : ℕ)
    (old middle after : Whole) (disks new : List (Pair D)) → middle ≡ with_post old middle.post → after ≡ middle
    → IsOpenIn old me noted
    → (Passes (Unit {0}) keep disk (IsDeedOf (command.Give number)) middle after disks new
    ⊎ ((after ≡ middle) × (new ≡ disks))) → Works keep disk me noted old after disks new
works_undone keep disk me noted number old middle after disks new rest same opened passes =
    works_heard keep disk me noted (command.Give number) old middle after disks new
    (ap (λ (w : Whole). w.members) rest) opened passes
    (λ some. only_same me middle after (ap (λ (w : Whole). w.members) same))
