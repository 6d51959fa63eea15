-- Every piece that is posted, or held, along a chain of links was served in it, and equal generations are equal lists.
use Rattle.std.proofs.Common.{◌≡◌, ◌≢◌, ℕ, ◌-◌, List, [], length, map, Option, Some, None, Contains, refl, sym, ap, subst, ◌∙◌, inl, inr, ◌⊎◌, arith}
use Rattle.std.specs.List.{range_with_len}
use Rattle.std.proofs.lemmas.Bool.{cases_eq}
use Rattle.std.proofs.lemmas.List.{length-set}
use Rattle.std.proofs.lemmas.Option.{same_Some}
use Rattle.std.proofs.lemmas.List.FromFn.{get_or-map-range_with_len, length-map-range_with_len}
use Rattle.ficus_codec.specs.Formats.{tables_bytes}
use Rattle.ficus_durable_state.specs.Tables.{FitsTables}
use Rattle.ficus_durable_state.specs.declared.saved.Saved.{Saved}
use Rattle.ficus_formats.specs.Pieces.{piece_at, piece_count}
use Rattle.ficus_replica.specs.Accept.{IsOpen}
use Rattle.ficus_replica.specs.declared.replica.Asked.{Asked}
use Rattle.ficus_wire.specs.Message.{FitsMessage, IsPiece, message_bytes, piece_message, piece_of}
use Rattle.ficus_wire.specs.Parts.{HeldParts, part_at, with_part}
use Rattle.ficus_wire.specs.declared.message.Message.{Message}
use Rattle.ficus_wire.specs.declared.message.Message.TheVariants as message
use Rattle.ficus_wire.specs.declared.message.PieceHead.{PieceHead}
use Rattle.ficus_wire.proofs.Holding.{part_elsewhere, part_here}
use Rattle.ficus_runs.specs.Message.{IsSpelled}
use Rattle.ficus_runs.specs.Numbered.{IsNumbered}
use Rattle.ficus_runs.proofs.Replaced.{replaced}
use Rattle.ficus_opening.specs.declared.member.Member.{Member}
use Rattle.ficus_world.specs.Generations.{AreCutFromOne, Chain, HasSaved, IsCutFrom, IsFresh, IsServed, SomeLink}
use Rattle.ficus_world.specs.Generations.Chain.{NoLink, OneLink}
use Rattle.ficus_world.specs.Moves.{parts_held, tables_in}
use Rattle.ficus_world.specs.World.{IsWorld, Whole}
use Rattle.ficus_world.proofs.Ages.{all_pend, link_of, moment_of, same_at_both}
use Rattle.ficus_world.proofs.Lifting.Spelling.{one_message}
use Rattle.ficus_world.proofs.Links.{HasCome, IsSentIn, Linked, Turned, Turns}
use Rattle.ficus_world.proofs.Links.Turned.{NoneTurned, OneTurned}
use Rattle.ficus_world.proofs.Links.Turns.{HasGathered, HasPending, HasRestarted, HasSaved as HasSavedNext, IsDown}

-- the bytes spell a message, of which S holds where it is a piece
pub record SpellServed (S : Message → Type 0) (count : ℕ) (bytes : List ℕ) : Type 0 where
  pub message : Message
  pub fits : FitsMessage count message
  pub is : bytes ≡ message_bytes message
  pub served : IsPiece message → S message

-- S holds of each piece that was posted, and of each that a member holds of the answer for which it waits
abbrev pub ArePostsServed : (Message → Type 0) → Whole → Type 0
ArePostsServed S world =
    (number : ℕ) (bytes : List ℕ) → IsNumbered world.post.posts number bytes
    → SpellServed S (length world.members) bytes

abbrev pub HoldsServed : (Message → Type 0) → ℕ → Member → Type 0
HoldsServed S r member =
    (parts : HeldParts) (index : ℕ) (bytes : List ℕ) (from number : ℕ) → member.parts ≡ Some parts
    → part_at parts index ≡ Some bytes → IsOpen member.replica from number
    → S (message.Piece from r number parts.state parts.pieces index bytes)

abbrev pub ArePartsServed : (Message → Type 0) → Whole → Type 0
ArePartsServed S world = (r : ℕ) (member : Member) → IsNumbered world.members r member → HoldsServed S r member

-- what was served in this link
abbrev Now : Whole → Whole → Message → Type 0
Now old new m = (saved : Saved) × IsServed m saved old new

-- what was served in some link
abbrev pub Ever : {tells disks_tell : Type 0} {old new : Whole} → Chain tells disks_tell old new → Message → Type 0
Ever chain m = (saved : Saved) × SomeLink (IsServed m saved) chain

turned_count : {tells disks_tell : Type 0} {old : Whole} {members : List Member}
    → Turned tells disks_tell old members → length members ≡ length old.members
turned_count NoneTurned = refl
turned_count {old = old} (OneTurned {r = r} {now = now} is turns) = length-set old.members (r - 1) now

served_wider : {S R : Message → Type 0} {count again : ℕ} {bytes : List ℕ} → ((m : Message) → S m → R m)
    → again ≡ count → SpellServed S count bytes → SpellServed R again bytes
served_wider wider same one = record {
  message = one.message;
  fits = subst (λ n. FitsMessage n one.message) (sym same) one.fits;
  is = one.is;
  served = λ piece. wider one.message (one.served piece);
}

-- bytes that spell a piece spell that one
piece_spelled : (S : Message → Type 0) (count : ℕ) (bytes : List ℕ) (m : Message) → SpellServed S count bytes
    → IsSpelled count bytes m → IsPiece m → S m
piece_spelled S count bytes m one spelled piece =
    let same : one.message ≡ m =
    one_message count one.message m one.fits spelled.fits (sym one.is ∙ spelled.is) in
    subst S same (one.served (subst IsPiece (sym same) piece))

-- what was held before a piece
pub held_served : (S : Message → Type 0) (r : ℕ) (was : Member) (head : PieceHead) (parts : Option HeldParts)
    → was.parts ≡ parts → HoldsServed S r was → (index : ℕ) (bytes : List ℕ) (from number : ℕ)
    → part_at (parts_held parts head) index ≡ Some bytes → IsOpen was.replica from number
    → S (message.Piece from r number (parts_held parts head).state (parts_held parts head).pieces index bytes)
held_served S r was head None is holds index bytes from number at open_ask = absurd (cc)
held_served S r was head (Some parts) is holds index bytes from number at open_ask =
    holds parts index bytes from number is at open_ask

module _ {tells : Type 0} (told : tells) (S : Message → Type 0) {old : Whole} (posts : ArePostsServed S old) {r : ℕ}
    {was : Member} (holds : HoldsServed S r was) {head : PieceHead} {bytes : List ℕ}
    (come : HasCome tells old r was head bytes) where
  abbrev held : HeldParts
  held = parts_held was.parts head

  -- the piece that came was served
  come_served : S (piece_of head bytes)
  come_served =
      piece_spelled S (length old.members) come.fetched (piece_of head bytes)
      (posts come.number come.fetched (come.are.told told)) come.spelled tt

  -- so are all that are held with it
  with_served : (index : ℕ) (part : List ℕ) (from number : ℕ)
      → part_at (with_part held head.index bytes) index ≡ Some part → IsOpen was.replica from number
      → S (message.Piece from r number held.state held.pieces index part)
  with_served index part from number at open_ask = go (cases_eq index head.index)
    where
      go : (index ≡ head.index) ⊎ (index ≢ head.index)
          → S (message.Piece from r number held.state held.pieces index part)
      go (inl same) =
          let found : part_at (with_part held head.index bytes) head.index ≡ Some part =
          subst (λ n. part_at (with_part held head.index bytes) n ≡ Some part) same at in
          let part_is = same_Some bytes part (sym (part_here held head.index bytes) ∙ found) in
          let asks = same_Some _ _ (sym come.open_ask ∙ open_ask) in
          let from_is : head.route.from ≡ from = ap (λ (a : Asked). a.to) asks in
          let number_is : head.route.number ≡ number = ap (λ (a : Asked). a.number) asks in
          subst S (λ i. message.Piece (from_is i) (come.own i) (number_is i) (sym come.state i) (sym come.pieces i) (sym same i) (part_is i))
          come_served
      go (inr differs) =
          held_served S r was head was.parts refl holds index part from number
          (sym (part_elsewhere held head.index bytes index differs) ∙ at) open_ask

module _ {tells disks_tell : Type 0} (told : tells) where
  posts_later : (S : Message → Type 0) {old new : Whole} → Linked tells disks_tell old new → ArePostsServed S old
      → ArePostsServed (λ m. S m ⊎ Now old new m) new
  posts_later S {old} {new} linked served number bytes is = go (linked.posts told number bytes is)
    where
      go : IsNumbered old.post.posts number bytes ⊎ IsSentIn old new bytes
          → SpellServed (λ m. S m ⊎ Now old new m) (length new.members) bytes
      go (inl was) = served_wider (λ m so. inl so) (turned_count linked.members) (served number bytes was)
      go (inr sent) = record {
        message = sent.message;
        fits = subst (λ n. FitsMessage n sent.message) (sym (turned_count linked.members)) sent.fits;
        is = sent.is;
        served = λ piece. inr (sent.piece piece);
      }

  module _ (S : Message → Type 0) {old : Whole} (posts : ArePostsServed S old) {r : ℕ} {was : Member}
      (holds : HoldsServed S r was) where
    holds_later : {now : Member} → Turns tells disks_tell old r was now → HoldsServed S r now
    holds_later (HasSavedNext up above (inl none)) parts index bytes from number is at open_ask =
        let never = sym none ∙ is in absurd (cc)
    holds_later (HasSavedNext up above (inr (same, ask))) parts index bytes from number is at open_ask =
        holds parts index bytes from number (sym same ∙ is) at (sym ask ∙ open_ask)
    holds_later (HasPending above) parts index bytes from number is at open_ask =
        holds parts index bytes from number is at open_ask
    holds_later (HasGathered {head = head} {bytes = came} come) parts index bytes from number is at open_ask =
        let held : with_part (parts_held was.parts head) head.index came ≡ parts = cc in
        subst (λ (p : HeldParts). S (message.Piece from r number p.state p.pieces index bytes)) held
        (with_served told S posts holds come index bytes from number
        (subst (λ (p : HeldParts). part_at p index ≡ Some bytes) (sym held) at) open_ask)
    holds_later (HasRestarted read) parts index bytes from number is at open_ask = absurd (cc)
    holds_later IsDown parts index bytes from number is at open_ask =
        holds parts index bytes from number is at open_ask

  turned_served : (S : Message → Type 0) {old : Whole} {members : List Member} → ArePostsServed S old
      → ArePartsServed S old → Turned tells disks_tell old members → (q : ℕ) (member : Member)
      → IsNumbered members q member → HoldsServed S q member
  turned_served S posts served NoneTurned q member is = served q member is
  turned_served S {old} posts served (OneTurned {r = r} {was = was} {now = now} at turns) q member is =
      go (replaced old.members r q now member at.member.at_least is)
    where
      go : ((q ≡ r) × (member ≡ now)) ⊎ ((r ≢ q) × IsNumbered old.members q member) → HoldsServed S q member
      go (inl (here, found)) =
          subst (λ n. HoldsServed S n member) (sym here)
          (subst (λ m. HoldsServed S r m) (sym found) (holds_later S posts (served r was at) turns))
      go (inr (differs, before)) = served q member before

  parts_later : (S : Message → Type 0) {old new : Whole} → Linked tells disks_tell old new → ArePostsServed S old
      → ArePartsServed S old → ArePartsServed (λ m. S m ⊎ Now old new m) new
  parts_later S linked posts served r member is parts index bytes from number held at open_ask =
      inl (turned_served S posts served linked.members r member is parts index bytes from number held at open_ask)

  chain_posts : (S : Message → Type 0) {old new : Whole} (chain : Chain tells disks_tell old new)
      → ArePostsServed S old → ArePostsServed (λ m. S m ⊎ Ever chain m) new
  chain_posts S NoLink served number bytes is =
      served_wider (λ m so. inl so) refl (served number bytes is)
  chain_posts S {old} (OneLink {middle = middle} single moves more) served number bytes is =
      served_wider go refl
      (chain_posts (λ m. S m ⊎ Now old middle m) more (posts_later S (link_of single moves) served) number bytes is)
    where
      go : (m : Message) → (S m ⊎ Now old middle m) ⊎ Ever more m → S m ⊎ Ever (OneLink single moves more) m
      go m (inl (inl so)) = inl so
      go m (inl (inr now)) = inr (now.0, inl now.1)
      go m (inr later) = inr (later.0, inr later.1)

  chain_parts : (S : Message → Type 0) {old new : Whole} (chain : Chain tells disks_tell old new)
      → ArePostsServed S old → ArePartsServed S old → ArePartsServed (λ m. S m ⊎ Ever chain m) new
  chain_parts S NoLink posts served r member is parts index bytes from number held at open_ask =
      inl (served r member is parts index bytes from number held at open_ask)
  chain_parts S {old} (OneLink {middle = middle} single moves more) posts served r member is parts index bytes from
      number held at open_ask =
      go _ (chain_parts (λ m. S m ⊎ Now old middle m) more (posts_later S (link_of single moves) posts)
      (parts_later S (link_of single moves) posts served) r member is parts index bytes from number held at open_ask)
    where
      go : (m : Message) → (S m ⊎ Now old middle m) ⊎ Ever more m → S m ⊎ Ever (OneLink single moves more) m
      go m (inl (inl so)) = inl so
      go m (inl (inr now)) = inr (now.0, inl now.1)
      go m (inr later) = inr (later.0, inr later.1)

  -- a piece that is posted was served since nothing was
  pub posted_served : {start now : Whole} (chain : Chain tells disks_tell start now) → start.post.posts ≡ []
      → ArePostsServed (Ever chain) now
  posted_served {start} {now} chain none number bytes is =
      served_wider (λ m so. go m so) refl (chain_posts (λ m. ⊥) chain nothing number bytes is)
    where
      go : (m : Message) → ⊥ ⊎ Ever chain m → Ever chain m
      go m (inl never) = absurd never
      go m (inr so) = so

      nothing : ArePostsServed (λ m. ⊥) start
      nothing number bytes is =
          let at = subst (λ posts. IsNumbered posts number bytes) none is in
          absurd (omega (arith, at.member.at_least, at.member.at_most))

  pub held_was_served : {start now : Whole} (chain : Chain tells disks_tell start now) → IsFresh start
      → ArePartsServed (Ever chain) now
  held_was_served {start} {now} chain fresh r member is parts index bytes from number held at open_ask =
      go _ (chain_parts (λ m. ⊥) chain nothing none r member is parts index bytes from number held at open_ask)
    where
      go : (m : Message) → ⊥ ⊎ Ever chain m → Ever chain m
      go m (inl never) = absurd never
      go m (inr so) = so

      nothing : ArePostsServed (λ m. ⊥) start
      nothing number bytes is =
          let at = subst (λ posts. IsNumbered posts number bytes) fresh.posts is in
          absurd (omega (arith, at.member.at_least, at.member.at_most))

      none : ArePartsServed (λ m. ⊥) start
      none r member is parts index bytes from number held at open_ask =
          let never = sym (fresh.parts r member is) ∙ held in absurd (cc)

-- what a piece is that was served
pub record IsPieceServed (from state pieces index : ℕ) (bytes : List ℕ) (saved : Saved) (world : Whole) : Type 0 where
  pub saves : HasSaved world from saved
  pub generation : state ≡ saved.generation
  pub cut : IsCutFrom (tables_bytes (length world.members) saved.entries saved.files) pieces index bytes
  pub fits : FitsTables (length world.members) saved.entries saved.files

made_at : {X : Type 0} (f : ℕ → X) (count : ℕ) (x : X) → Contains (map f (range_with_len 0 count)) x
    → (index : ℕ) × (x ≡ f index)
made_at f count x (k, below, is) =
    (k, sym is ∙ get_or-map-range_with_len f 0 count k k x (omega (arith, below, length-map-range_with_len f 0 count)) (omega arith))

pub piece_served : (from to number state pieces index : ℕ) (bytes : List ℕ) (saved : Saved) (old new : Whole)
    → IsServed (message.Piece from to number state pieces index bytes) saved old new
    → IsPieceServed from state pieces index bytes saved old
piece_served from to number state pieces index bytes saved old new served =
    let list = tables_in old served.server in
    let found = made_at
    (piece_message served.came.to served.came.from served.came.ask served.server.replica.saved.generation list)
    (piece_count list) (message.Piece from to number state pieces index bytes) served.is in
    let same = found.1 in
    let from_is : from ≡ served.came.to = cc in
    let state_is : state ≡ served.server.replica.saved.generation = cc in
    let count_is : pieces ≡ piece_count list = cc in
    let index_is : index ≡ found.0 = cc in
    let bytes_are : bytes ≡ piece_at list found.0 = cc in
    let lists : tables_bytes (length old.members) saved.entries saved.files ≡ list =
    ap (λ (s : Saved). tables_bytes (length old.members) s.entries s.files) served.saves in
    record {
      saves = record {
        member = served.server;
        is = subst (λ n. IsNumbered old.members n served.server) (sym from_is) served.serving.is;
        saves = served.saves;
      };
      generation = state_is ∙ sym (ap (λ (s : Saved). s.generation) served.saves);
      cut = record {
        count = count_is ∙ ap piece_count (sym lists);
        piece = bytes_are ∙ ap (λ n. piece_at list n) (sym index_is) ∙ ap (λ l. piece_at l index) (sym lists);
      };
      fits =
          subst (λ (s : Saved). FitsTables (length old.members) s.entries s.files) (sym served.saves)
          served.serving.fits;
    }

module _ {tells disks_tell : Type 0} (told : disks_tell) {start now : Whole} (chain : Chain tells disks_tell start now)
    (sound : IsWorld start) where
  -- a piece was cut from what its server saved
  pub cut_in_chain : (from to number state pieces index : ℕ) (bytes : List ℕ) (saved : Saved)
      → SomeLink (IsServed (message.Piece from to number state pieces index bytes) saved) chain
      → (state ≡ saved.generation)
      × IsCutFrom (tables_bytes (length now.members) saved.entries saved.files) pieces index bytes
      × FitsTables (length now.members) saved.entries saved.files
  cut_in_chain from to number state pieces index bytes saved served =
      let at = moment_of told (IsServed (message.Piece from to number state pieces index bytes) saved) chain served in
      let is = piece_served from to number state pieces index bytes saved at.before at.after at.holds in (
        is.generation,
        subst (λ n. IsCutFrom (tables_bytes n saved.entries saved.files) pieces index bytes) (sym at.until.count) is.cut,
        subst (λ n. FitsTables n saved.entries saved.files) (sym at.until.count) is.fits,
      )

  -- what a member saved when it served two pieces of one state is the same
  pub served_same : (from state to number pieces index : ℕ) (bytes : List ℕ) (saved : Saved)
      (other_to other_number others other : ℕ) (other_bytes : List ℕ) (again : Saved)
      → SomeLink (IsServed (message.Piece from to number state pieces index bytes) saved) chain
      → SomeLink (IsServed (message.Piece from other_to other_number state others other other_bytes) again) chain
      → saved ≡ again
  served_same from state to number pieces index bytes saved other_to other_number others other other_bytes again one two =
      same_at_both told (IsServed (message.Piece from to number state pieces index bytes) saved)
      (IsServed (message.Piece from other_to other_number state others other other_bytes) again) from saved again
      (λ old new served. (piece_served from to number state pieces index bytes saved old new served).saves)
      (λ old new served.
      (piece_served from other_to other_number state others other other_bytes again old new served).saves)
      (sym (cut_in_chain from to number state pieces index bytes saved one).0
      ∙ (cut_in_chain from other_to other_number state others other other_bytes again two).0)
      chain (all_pend start sound) one two

  pub cut_from_one : (from state to number pieces index : ℕ) (bytes : List ℕ)
      (other_to other_number others other : ℕ) (other_bytes : List ℕ)
      → Ever chain (message.Piece from to number state pieces index bytes)
      → Ever chain (message.Piece from other_to other_number state others other other_bytes)
      → AreCutFromOne pieces index bytes others other other_bytes
  cut_from_one from state to number pieces index bytes other_to other_number others other other_bytes one two =
      let same = served_same from state to number pieces index bytes one.0 other_to other_number others other other_bytes
      two.0 one.1 two.1 in
      record {
        list = tables_bytes (length now.members) one.0.entries one.0.files;
        one = (cut_in_chain from to number state pieces index bytes one.0 one.1).1;
        two =
            subst (λ (s : Saved). IsCutFrom (tables_bytes (length now.members) s.entries s.files) others other other_bytes)
            (sym same) (cut_in_chain from other_to other_number state others other other_bytes two.0 two.1).1;
      }

pub equal_lists : {tells disks_tell : Type 0} → tells → disks_tell → {start now : Whole}
    → Chain tells disks_tell start now → IsWorld start → start.post.posts ≡ []
    → (from state to ask pieces index number : ℕ) (bytes one : List ℕ)
    (other_to other_ask others other other_number : ℕ) (other_bytes two : List ℕ)
    → IsNumbered now.post.posts number one
    → IsSpelled (length now.members) one (message.Piece from to ask state pieces index bytes)
    → IsNumbered now.post.posts other_number two
    → IsSpelled (length now.members) two (message.Piece from other_to other_ask state others other other_bytes)
    → AreCutFromOne pieces index bytes others other other_bytes
equal_lists told disks_told {start} {now} chain sound none from state to ask pieces index number bytes one other_to
    other_ask others other other_number other_bytes two is spelled is_too spelled_too =
    cut_from_one disks_told chain sound from state to ask pieces index bytes other_to other_ask others other other_bytes
    (piece_spelled (Ever chain) (length now.members) one (message.Piece from to ask state pieces index bytes)
    (posted_served told chain none number one is) spelled tt)
    (piece_spelled (Ever chain) (length now.members) two
    (message.Piece from other_to other_ask state others other other_bytes)
    (posted_served told chain none other_number two is_too) spelled_too tt)

pub posted_ever : {tells disks_tell : Type 0} → tells → {start now : Whole} (chain : Chain tells disks_tell start now)
    (number : ℕ) (bytes : List ℕ) (m : Message) → start.post.posts ≡ [] → IsNumbered now.post.posts number bytes
    → IsSpelled (length now.members) bytes m → IsPiece m → Ever chain m
posted_ever told {now = now} chain number bytes m none is spelled piece =
    piece_spelled (Ever chain) (length now.members) bytes m (posted_served told chain none number bytes is) spelled piece
