-- What becomes of an answer of which a piece came.
use Rattle.std.proofs.Common.{◌≡◌, ◌≢◌, ◌⊎◌, List, [], Option, Result, Ok, Err, refl, sym, subst, inl, inr}
use Rattle.std.specs.Prelude.{IsErrOf}
use Rattle.ficus_disk.specs.declared.disk.Disk.{Ghosts as Disk}
use Rattle.ficus_disk.specs.declared.pair.Pair.{Pair}
use Rattle.ficus_ids.specs.declared.refusal.Refusal.{Refusal}
use Rattle.ficus_ids.specs.declared.refusal.Refusal.TheVariants as refusal
use Rattle.ficus_keeper.specs.declared.keep.Keep.{Ghosts as Keep}
use Rattle.ficus_mailbox.specs.declared.mailbox.Mailbox.{Ghosts as Mailbox}
use Rattle.ficus_member_script.specs.declared.member_answer.MemberAnswer.{MemberAnswer}
use Rattle.ficus_member_script.specs.declared.member_answer.MemberAnswer.TheVariants.{Plain}
use Rattle.ficus_note.specs.declared.asked.Asked.{Asked as Noted}
use Rattle.ficus_note.specs.declared.note.Note.{Note as NoteOf}
use Rattle.ficus_replica.specs.declared.replica.Asked.{Asked}
use Rattle.ficus_script.specs.declared.answer.Answer.TheVariants.{Done}
use Rattle.ficus_wire.specs.declared.message.PieceHead.{PieceHead}
use Rattle.ficus_world.specs.Hearing.{Awaits}
use Rattle.ficus_world.specs.World.{IsUpIn}
use Rattle.ficus_machine.specs.Answers.{PieceAnswers, answered, refused}
use Rattle.ficus_machine.specs.Answers.PieceAnswers.{IsDown, IsHindered, IsStale, Takes, TakesNot}
use Rattle.ficus_machine.specs.Gathering.{Gathers}
use Rattle.ficus_machine.specs.Line.{Goes}
use Rattle.ficus_machine.specs.Machine.{IsAtRest, MachineState}
use Rattle.ficus_machine.specs.Moments.{LivesTo, NotesTo}
use Rattle.ficus_machine.specs.Taking.{Finishes, Undoes}
use Rattle.ficus_machine.specs.declared.fault.Halt.{Halt}
use Rattle.ficus_machine.specs.declared.fault.Halt.TheVariants as halt
use Rattle.ficus_machine.specs.declared.fault.LineFault.{LineFault}
use Rattle.ficus_machine.specs.declared.fault.LineFault.TheVariants.{Memory, Note}
use Rattle.ficus_machine.proofs.Going.{grows_none}
use Rattle.ficus_machine.proofs.Lived.{lives_as}
use Rattle.ficus_machine.proofs.Slots.{asks_fine, asks_memory}
use Rattle.ficus_machine.proofs.Taken.{goes_answered, goes_finished, goes_undone, goes_undone_fault, lives_undone, undone}

-- how calls end
abbrev pub halted : Halt → Result (Unit {0}) Halt
halted halt = Err halt

abbrev pub gathered : Result (Unit {0}) Halt
gathered = Ok tt

abbrev settled : Result (Unit {0}) LineFault
settled = Ok tt

abbrev unsettled : LineFault → Result (Unit {0}) LineFault
unsettled fault = Err fault

abbrev fine : MemberAnswer → Result MemberAnswer LineFault
fine answer = Ok answer

abbrev ended : LineFault → Result MemberAnswer LineFault
ended fault = Err fault

-- the same of a result that is another one
pub gathers_at : {K D N M : Type 0} {keep : Keep K} {disk : Disk D} {slot : Disk N} {mailbox : Mailbox M}
    {head : PieceHead} {result again : Result (Unit {0}) Halt} {old new : MachineState K}
    {disks new_disks : List (Pair D)} {slots new_slots : Pair N} {was now : M} → result ≡ again
    → Gathers keep disk slot mailbox head result old new disks new_disks slots new_slots was now
    → Gathers keep disk slot mailbox head again old new disks new_disks slots new_slots was now
gathers_at {keep = keep} {disk} {slot} {mailbox} {head} {result} {again} {old} {new} {disks} {new_disks} {slots}
    {new_slots} {was} {now} same gathers =
    subst (λ (r : Result (Unit {0}) Halt). Gathers keep disk slot mailbox head r old new disks new_disks slots new_slots
    was now) same gathers

pub gathered_at : {K D N : Type 0} {keep : Keep K} {disk : Disk D} {slot : Disk N}
    {result again : Result (Unit {0}) Halt} {old new : MachineState K} {disks new_disks : List (Pair D)}
    {slots new_slots : Pair N} → result ≡ again
    → LivesTo keep disk slot (result ≡ Err halt.Note → ⊥) old new disks new_disks slots new_slots
    → LivesTo keep disk slot (again ≡ Err halt.Note → ⊥) old new disks new_disks slots new_slots
gathered_at {keep = keep} {disk} {slot} {result} {again} {old} {new} {disks} {new_disks} {slots} {new_slots} same lives =
    subst (λ (r : Result (Unit {0}) Halt). LivesTo keep disk slot (r ≡ Err halt.Note → ⊥) old new disks new_disks slots
    new_slots) same lives

pub undone_at : {N A : Type 0} {slot : Disk N} {result again : Result A LineFault} {was now : NoteOf}
    {old new : Pair N} → result ≡ again → NotesTo slot result was now old new → NotesTo slot again was now old new
undone_at {A = A} {slot} {result} {again} {was} {now} {old} {new} same notes =
    subst (λ (r : Result A LineFault). NotesTo slot r was now old new) same notes

pub undoes_at : {K N A : Type 0} {slot : Disk N} {asked : Asked} {one other : Option Noted}
    {result again : Result A LineFault} {was now : MachineState K} {old new : Pair N} → one ≡ other → result ≡ again
    → Undoes slot asked one result was now old new → Undoes slot asked other again was now old new
undoes_at {A = A} {slot} {asked} {one} {other} {result} {again} {was} {now} {old} {new} noted same undoes =
    subst (λ (n : Option Noted). Undoes slot asked n again was now old new) noted
    (subst (λ (r : Result A LineFault). Undoes slot asked one r was now old new) same undoes)

module _ {K D N M : Type 0} (keep : Keep K) (disk : Disk D) (slot : Disk N) (mailbox : Mailbox M) (head : PieceHead)
    (machine : MachineState K) (disks : List (Pair D)) (slots : Pair N) (was : M)
    (rest : IsAtRest keep disk slot machine disks slots) where
  -- no answer is awaited, or another one
  pub take_refused : (r : Refusal) → (r ≡ refusal.Down) ⊎ (r ≡ refusal.Stale)
      → (r ≡ refusal.Down → IsUpIn machine.world.whole machine.me → ⊥)
      → (r ≡ refusal.Stale → IsUpIn machine.world.whole machine.me
      × (Awaits machine.world.whole machine.me (answered head) → ⊥)) → (answer : MemberAnswer) → answer ≡ refused r
      → Goes keep disk slot mailbox (PieceAnswers mailbox disk.tells machine.me machine.tag head machine.world.whole
      machine.world.whole was was) (Ok answer) machine machine disks disks slots slots was was
  take_refused r (inl is) down stale answer same =
      goes_answered rest (λ tells. grows_none (mailbox.given was)) (λ tells. refl) answer
      (subst (PieceAnswers mailbox disk.tells machine.me machine.tag head machine.world.whole machine.world.whole was was
      []) (sym same)
      (subst (λ q. PieceAnswers mailbox disk.tells machine.me machine.tag head machine.world.whole machine.world.whole
      was was [] (refused q)) (sym is) (IsDown (down is) refl)))
  take_refused r (inr is) down stale answer same =
      goes_answered rest (λ tells. grows_none (mailbox.given was)) (λ tells. refl) answer
      (subst (PieceAnswers mailbox disk.tells machine.me machine.tag head machine.world.whole machine.world.whole was was
      []) (sym same)
      (subst (λ q. PieceAnswers mailbox disk.tells machine.me machine.tag head machine.world.whole machine.world.whole
      was was [] (refused q)) (sym is) (IsStale (stale is).0 (stale is).1 refl)))

  module _ (awaits : Awaits machine.world.whole machine.me (answered head)) (middle new : MachineState K)
      (new_disks : List (Pair D)) (mid_slots new_slots : Pair N) (now : M) (result : Result MemberAnswer LineFault)
    where
      -- the state is taken
      pub take_taken : Gathers keep disk slot mailbox head (Ok tt) machine middle disks new_disks slots mid_slots was now
          → Finishes slot (Ok (Plain Done)) result middle new mid_slots new_slots
          → Goes keep disk slot mailbox (PieceAnswers mailbox disk.tells machine.me machine.tag head machine.world.whole
          new.world.whole was now) result machine new disks new_disks slots new_slots was now
      take_taken gathers finishes =
          goes_finished rest.held.member gathers.goes gathers.is (Takes awaits gathers.taken) gathers.backed gathers.same
          (asks_fine (gathers.steady (λ never. cc))) finishes

      -- its disks have failed
      pub take_unsaved : (answer : MemberAnswer) → answer ≡ refused refusal.Store
          → Gathers keep disk slot mailbox head (Err (halt.Refused refusal.Store)) machine middle disks new_disks slots
          mid_slots was now
          → Finishes slot (Ok answer) result middle new mid_slots new_slots
          → Goes keep disk slot mailbox (PieceAnswers mailbox disk.tells machine.me machine.tag head machine.world.whole
          new.world.whole was now) result machine new disks new_disks slots new_slots was now
      take_unsaved answer is gathers finishes =
          goes_finished rest.held.member gathers.goes gathers.is
          (subst (PieceAnswers mailbox disk.tells machine.me machine.tag head machine.world.whole new.world.whole was now
          gathers.told) (sym is) (TakesNot awaits (gathers.store refl))) gathers.backed gathers.same
          (asks_fine (gathers.steady (λ never. cc))) finishes

      -- memory is refused, or the note isn't saved
      pub take_memory : Gathers keep disk slot mailbox head (Err halt.Memory) machine middle disks new_disks slots
          mid_slots was now
          → Finishes slot (Err Memory) result middle new mid_slots new_slots
          → Goes keep disk slot mailbox (PieceAnswers mailbox disk.tells machine.me machine.tag head machine.world.whole
          new.world.whole was now) result machine new disks new_disks slots new_slots was now
      take_memory gathers finishes =
          goes_finished rest.held.member gathers.goes gathers.is tt gathers.backed gathers.same
          (asks_memory (gathers.steady (λ never. cc))) finishes

      pub take_unnoted : Gathers keep disk slot mailbox head (Err halt.Note) machine middle disks new_disks slots
          mid_slots was now
          → Finishes slot (Err Note) result middle new mid_slots new_slots
          → Goes keep disk slot mailbox (PieceAnswers mailbox disk.tells machine.me machine.tag head machine.world.whole
          new.world.whole was now) result machine new disks new_disks slots new_slots was now
      take_unnoted gathers finishes =
          goes_finished rest.held.member gathers.goes gathers.is tt gathers.backed gathers.same
          (record {
            failed = λ same. gathers.failed refl;
            steady = tt;
            spared = λ never. absurd (cc);
            risen = gathers.risen;
          }) finishes

  -- something hinders it
  module _ (asked : Asked) (of : asked ≡ answered head) (awaits : Awaits machine.world.whole machine.me asked)
      (middle new : MachineState K) (new_disks : List (Pair D)) (mid_slots new_slots : Pair N) (now : M) (r : Refusal)
      (gathers : Gathers keep disk slot mailbox head (Err (halt.Refused r)) machine middle disks new_disks slots mid_slots
      was now) (other : r ≢ refusal.Store) where
    pub take_hindered : (answer : MemberAnswer) → answer ≡ refused r
        → Undoes {A = Unit {0}} slot asked machine.note.asked (Ok tt) middle new mid_slots new_slots
        → Goes keep disk slot mailbox (PieceAnswers mailbox disk.tells machine.me machine.tag head machine.world.whole
        new.world.whole was now) (Ok answer) machine new disks new_disks slots new_slots was now
    take_hindered answer is undoes =
        goes_undone keep disk slot mailbox machine middle new disks new_disks slots mid_slots new_slots was now asked
        (Ok tt) rest awaits (gathers.holds r refl other) gathers.goes.given gathers.posted gathers.backed
        (gathers.steady (λ never. cc)) gathers.same undoes answer tt refl
        (subst (PieceAnswers mailbox disk.tells machine.me machine.tag head machine.world.whole new.world.whole was now
        []) (sym is)
        (IsHindered (subst (Awaits machine.world.whole machine.me) of awaits) (gathers.hinders r refl other)
        (undone keep disk slot mailbox machine middle new disks new_disks slots mid_slots new_slots was now asked (Ok tt)
        rest awaits (gathers.holds r refl other) gathers.goes.given gathers.posted gathers.backed
        (gathers.steady (λ never. cc)) gathers.same undoes)))

    pub take_hindered_fault : (fault : LineFault)
        → Undoes {A = Unit {0}} slot asked machine.note.asked (Err fault) middle new mid_slots new_slots
        → Goes keep disk slot mailbox (PieceAnswers mailbox disk.tells machine.me machine.tag head machine.world.whole
        new.world.whole was now) (Err fault) machine new disks new_disks slots new_slots was now
    take_hindered_fault fault undoes =
        goes_undone_fault keep disk slot mailbox machine middle new disks new_disks slots mid_slots new_slots was now
        asked (Err fault) rest awaits (gathers.holds r refl other) gathers.goes.given gathers.posted gathers.backed
        (gathers.steady (λ never. cc)) gathers.same undoes fault refl

    pub lives_hindered : (answer : MemberAnswer)
        → Undoes {A = Unit {0}} slot asked machine.note.asked (Ok tt) middle new mid_slots new_slots
        → LivesTo keep disk slot (halted (halt.Refused r) ≡ Err halt.Note → ⊥) machine middle disks
        new_disks slots mid_slots
        → NotesTo {A = Unit {0}} slot (Ok tt) middle.note new.note mid_slots new_slots
        → LivesTo keep disk slot (IsErrOf (fine answer) Note → ⊥) machine new disks new_disks slots
        new_slots
    lives_hindered answer undoes first notes =
        lives_as keep disk slot settled (fine answer) machine new disks new_disks slots new_slots
        (λ never. absurd (cc))
        (lives_undone keep disk slot mailbox machine middle new disks new_disks slots mid_slots new_slots was now asked
        (Ok tt) rest awaits (gathers.holds r refl other) gathers.goes.given gathers.posted gathers.backed
        (gathers.steady (λ never. cc)) gathers.same undoes
        (halted (halt.Refused r) ≡ Err halt.Note → ⊥) (λ never. cc) first notes)

    pub lives_hindered_fault : (fault : LineFault)
        → Undoes {A = Unit {0}} slot asked machine.note.asked (Err fault) middle new mid_slots new_slots
        → LivesTo keep disk slot (halted (halt.Refused r) ≡ Err halt.Note → ⊥) machine middle disks
        new_disks slots mid_slots
        → NotesTo {A = Unit {0}} slot (Err fault) middle.note new.note mid_slots new_slots
        → LivesTo keep disk slot (IsErrOf (ended fault) Note → ⊥) machine new disks new_disks slots
        new_slots
    lives_hindered_fault fault undoes first notes =
        lives_as keep disk slot (unsettled fault) (ended fault) machine new disks new_disks
        slots new_slots (λ is. cc)
        (lives_undone keep disk slot mailbox machine middle new disks new_disks slots mid_slots new_slots was now asked
        (Err fault) rest awaits (gathers.holds r refl other) gathers.goes.given gathers.posted gathers.backed
        (gathers.steady (λ never. cc)) gathers.same undoes
        (halted (halt.Refused r) ≡ Err halt.Note → ⊥) (λ never. cc) first notes)
