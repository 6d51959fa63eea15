-- What becomes of a machine while a piece of an answer is given behind those before it: what its member holds, and what
-- is noted.
use Rattle.std.proofs.Common.{◌≡◌, ◌≢◌, ℕ, ◌+◌, ◌<◌, List, length, Bool, false, Option, Some, None, Result, Ok, Err, refl, sym, ap, subst, ◌∙◌, inl, inr, arith}
use Rattle.std.specs.Prelude.{IsErrOf}
use Rattle.std.proofs.lemmas.Bool.{cases_eq}
use Rattle.std.proofs.lemmas.Result.{IfOk-at_ok}
use Rattle.ficus_disk.specs.declared.disk.Disk.{Ghosts as Disk}
use Rattle.ficus_disk.specs.declared.pair.Pair.{Pair}
use Rattle.ficus_ids.specs.Members.{IsMember}
use Rattle.ficus_keeper.specs.declared.keep.Keep.{Ghosts as Keep}
use Rattle.ficus_mailbox.specs.declared.mailbox.Mailbox.{Ghosts as Mailbox}
use Rattle.ficus_note.specs.declared.asked.Asked.{Asked as Noted}
use Rattle.ficus_note.specs.declared.note.Note.{Note}
use Rattle.ficus_runs.proofs.Numbers.{number_exists}
use Rattle.ficus_wire.specs.Parts.{HasPart, HeldParts}
use Rattle.ficus_wire.specs.declared.message.PieceHead.{PieceHead}
use Rattle.ficus_world.specs.Moves.{parts_held}
use Rattle.ficus_world.specs.World.{Backed, Whole}
use Rattle.ficus_machine.specs.Answers.{sibling}
use Rattle.ficus_machine.specs.Gathering.{ClearsNote, CompletesWith, EndsTaking, GivesAt, HoldsFirst, HoldsOneMore, IsPiece}
use Rattle.ficus_machine.specs.Halts.{halt_of}
use Rattle.ficus_machine.specs.Machine.{MachineState}
use Rattle.ficus_machine.specs.Moments.{IsOpenIn, LivesTo, NotesTo, Works}
use Rattle.ficus_machine.specs.declared.fault.Halt.{Halt}
use Rattle.ficus_machine.specs.declared.fault.Halt.TheVariants as halt
use Rattle.ficus_machine.specs.declared.fault.LineFault.{LineFault}
use Rattle.ficus_machine.specs.declared.fault.LineFault.TheVariants as line
use Rattle.ficus_machine.specs.declared.gathering.CamePiece.{CamePiece}
use Rattle.ficus_machine.proofs.Lived.{lives_notes, lives_then, lives_where, lives_works}
use Rattle.ficus_machine.proofs.Opens.{open_holds}

-- what is held of an answer is the same for each of its pieces
held_sibling : (parts : Option HeldParts) (head : PieceHead) (index : ℕ)
    → parts_held parts (sibling head index) ≡ parts_held parts head
held_sibling None head index = refl
held_sibling (Some parts) head index = refl

-- one piece more is held, behind those before it
pub first_more : (me : ℕ) (head : PieceHead) (index : ℕ) (old new : Whole) → length new.members ≡ length old.members
    → HoldsFirst old me head index → HoldsOneMore me (sibling head index) old new
    → HoldsFirst new me head (index + 1)
first_more me head index old new count first more now other at has =
    let was = number_exists old.members me (subst (λ n. IsMember n me) count at.member) in
    let has_too : HasPart (parts_held now.parts (sibling head index)) other =
    subst (λ (p : HeldParts). HasPart p other) (sym (held_sibling now.parts head index)) has in
    elim (more was.0 now other was.1 at has_too) [
      | inl before ↦
          let less : other < index =
          first was.0 other was.1
          (subst (λ (p : HeldParts). HasPart p other) (held_sibling was.0.parts head index) before) in
          omega arith
      | inr here ↦ (let same : other ≡ index = here in omega arith)
    ]

-- all pieces but one were held, and none behind it: it is the last
pub first_last : (me : ℕ) (head : PieceHead) (index : ℕ) (world : Whole) → IsMember (length world.members) me
    → index < head.pieces → HoldsFirst world me head index → CompletesWith world me (sibling head index)
    → index + 1 ≡ head.pieces
first_last me head index world member below first completes =
    elim (cases_eq (index + 1) head.pieces) [
      | inl last ↦ last
      | inr before ↦
          let was = number_exists world.members me member in
          let whole = completes was.0 was.1 in
          let counts : (parts_held was.0.parts (sibling head index)).pieces ≡ head.pieces = whole.0 in
          let more : index + 1 < head.pieces = omega (arith, below, before) in
          let has : HasPart (parts_held was.0.parts (sibling head index)) (index + 1) =
          whole.1 (index + 1) (subst (λ n. index + 1 < n) (sym counts) more)
          (λ same. let same_too : index + 1 ≡ index = same in omega arith) in
          let less : index + 1 < index =
          first was.0 (index + 1) was.1
          (subst (λ (p : HeldParts). HasPart p (index + 1)) (held_sibling was.0.parts head index) has) in
          absurd (omega (arith, less))
    ]

-- the member to whom the piece goes is one
pub piece_member : {members me : ℕ} {piece : CamePiece} → IsPiece members me piece → IsMember members me
piece_member {members} is = subst (λ n. IsMember members n) is.own is.fits.head.route.to

module _ {K N A : Type 0} {slot : Disk N} {head : PieceHead} {index : ℕ} {cleared : Result A LineFault}
    {old middle : MachineState K} {slots mid_slots : Pair N} (value : A) (is : cleared ≡ Ok value)
    (clears : ClearsNote slot head index cleared old middle slots mid_slots) where
  -- what is noted is open still, whether or not the note was cleared
  pub open_cleared : IsOpenIn old.world.whole old.me old.note.asked
      → IsOpenIn old.world.whole old.me middle.note.asked
  open_cleared opened =
      elim (cases_eq (index + 1) head.pieces) [
        | inl last ↦
            subst (λ (o : Option Noted). IsOpenIn old.world.whole old.me o)
            (sym (IfOk-at_ok (λ (a : A). index + 1 ≡ head.pieces → middle.note.asked ≡ None) is clears.cleared last)) tt
        | inr before ↦
            subst (λ (o : Option Noted). IsOpenIn old.world.whole old.me o)
            (sym (IfOk-at_ok (λ (a : A). index + 1 ≢ head.pieces → middle.note.asked ≡ old.note.asked) is clears.stays
            before)) opened
      ]

  -- it is in the world to which the piece is given
  open_here : IsOpenIn old.world.whole old.me old.note.asked
      → IsOpenIn middle.world.whole middle.me middle.note.asked
  open_here opened =
      subst (λ (w : Backed K). IsOpenIn w.whole middle.me middle.note.asked) (sym clears.world)
      (subst (λ n. IsOpenIn old.world.whole n middle.note.asked) (sym clears.same.me) (open_cleared opened))

  -- with the piece the state is taken: nothing is noted then
  ends_cleared : {result : Result Bool Halt} → IsMember (length old.world.whole.members) old.me → index < head.pieces
      → HoldsFirst old.world.whole old.me head index
      → (EndsTaking result → CompletesWith middle.world.whole middle.me (sibling head index)) → EndsTaking result
      → middle.note.asked ≡ None
  ends_cleared member below first whole ends =
      let completes : CompletesWith old.world.whole old.me (sibling head index) =
      subst (λ (w : Backed K). CompletesWith w.whole old.me (sibling head index)) clears.world
      (subst (λ n. CompletesWith middle.world.whole n (sibling head index)) clears.same.me (whole ends)) in
      IfOk-at_ok (λ (a : A). index + 1 ≡ head.pieces → middle.note.asked ≡ None) is clears.cleared
      (first_last old.me head index old.world.whole member below first completes)

  -- the member holds no piece but this one and those before
  pub at_held : (new : MachineState K) → HoldsFirst old.world.whole old.me head index
      → length new.world.whole.members ≡ length middle.world.whole.members
      → HoldsOneMore middle.me (sibling head index) middle.world.whole new.world.whole
      → HoldsFirst new.world.whole old.me head (index + 1)
  at_held new first count more =
      first_more old.me head index old.world.whole new.world.whole
      (count ∙ ap (λ (w : Backed K). length w.whole.members) clears.world) first
      (subst (λ (w : Backed K). HoldsOneMore old.me (sibling head index) w.whole new.world.whole) clears.world
      (subst (λ n. HoldsOneMore n (sibling head index) middle.world.whole new.world.whole) clears.same.me more))

  -- what is noted is open behind the give, too
  pub at_open : {D M : Type 0} {keep : Keep K} {disk : Disk D} {mailbox : Mailbox M} {result : Result Bool Halt}
      {new : MachineState K} {disks new_disks : List (Pair D)} {was there : M}
      → GivesAt keep disk slot mailbox head index result old new disks new_disks slots mid_slots was there
      → new.note ≡ middle.note → IsOpenIn old.world.whole old.me old.note.asked → result ≡ Ok false
      → IsOpenIn new.world.whole old.me new.note.asked
  at_open {new = new} gives note opened kept =
      subst (λ (n : Note). IsOpenIn new.world.whole old.me n.asked) (sym note)
      (open_holds old.me middle.note.asked old.world.whole new.world.whole
      (gives.holds (λ done. absurd (cc)) (λ stored. absurd (cc))) (open_cleared opened))

  -- and so it lives through the give
  pub at_lives : {D : Type 0} (keep : Keep K) (disk : Disk D) (result : Result Bool Halt) (new : MachineState K)
      (disks new_disks : List (Pair D)) → NotesTo slot cleared old.note middle.note slots mid_slots
      → new.note ≡ middle.note → IsMember (length old.world.whole.members) old.me → index < head.pieces
      → HoldsFirst old.world.whole old.me head index → IsOpenIn old.world.whole old.me old.note.asked
      → (EndsTaking result → CompletesWith middle.world.whole middle.me (sibling head index))
      → ((noted : Option Noted) → IsOpenIn middle.world.whole middle.me noted → (EndsTaking result → noted ≡ None)
      → Works keep disk middle.me noted middle.world.whole new.world.whole disks new_disks)
      → LivesTo keep disk slot (result ≡ Err halt.Note → ⊥) old new disks new_disks slots mid_slots
  at_lives keep disk result new disks new_disks notes note member below first opened whole works =
      lives_then keep disk slot (IsErrOf cleared line.Note → ⊥) (result ≡ Err halt.Note → ⊥) old middle new disks disks
      new_disks slots mid_slots mid_slots (λ noted. absurd (cc)) clears.same.me
      (lives_notes keep disk slot cleared old middle disks slots mid_slots
      (ap (λ (w : Backed K). w.whole) clears.world) notes)
      (lives_works keep disk slot (result ≡ Err halt.Note → ⊥) middle new disks new_disks mid_slots
      (works middle.note.asked (open_here opened) (ends_cleared member below first whole)) note)

-- the note wasn't saved
pub lives_uncleared : {K D N A : Type 0} (keep : Keep K) (disk : Disk D) {slot : Disk N} {head : PieceHead} {index : ℕ}
    {cleared : Result A LineFault} {old middle : MachineState K} (disks : List (Pair D)) {slots mid_slots : Pair N}
    (fault : LineFault) → cleared ≡ Err fault → ClearsNote slot head index cleared old middle slots mid_slots
    → NotesTo slot cleared old.note middle.note slots mid_slots
    → LivesTo keep disk slot (◌≡◌ {A = Result Bool Halt} (Err (halt_of fault)) (Err halt.Note) → ⊥) old middle disks
    disks slots mid_slots
lives_uncleared {K = K} keep disk {slot = slot} {cleared = cleared} {old = old} {middle = middle} disks {slots = slots}
    {mid_slots = mid_slots} fault is clears notes =
    lives_where keep disk slot (IsErrOf cleared line.Note → ⊥)
    (◌≡◌ {A = Result Bool Halt} (Err (halt_of fault)) (Err halt.Note) → ⊥) old middle disks disks slots mid_slots
    (λ never noted.
    let same : fault ≡ line.Note = cc in
    never (ap (λ (f : LineFault). Err (halt_of f)) same))
    (lives_notes keep disk slot cleared old middle disks slots mid_slots
    (ap (λ (w : Backed K). w.whole) clears.world) notes)
