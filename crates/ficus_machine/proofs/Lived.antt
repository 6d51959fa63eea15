-- What becomes of a machine from one moment to a later one: a call that does one thing, and several calls, one behind
-- the other.
use Rattle.std.proofs.Common.{◌≡◌, ◌⊎◌, ℕ, List, length, Option, None, Result, Err, Ok, inl, inr, sym, ap, subst, ◌∙◌}
use Rattle.std.specs.Prelude.{IsErrOf}
use Rattle.ficus_disk.specs.declared.disk.Disk.{Ghosts as Disk}
use Rattle.ficus_disk.specs.declared.pair.Pair.{Pair}
use Rattle.ficus_keeper.specs.declared.keep.Keep.{Ghosts as Keep}
use Rattle.ficus_note.specs.Calls.{Saves}
use Rattle.ficus_note.specs.declared.asked.Asked.{Asked as Noted}
use Rattle.ficus_note.specs.declared.note.Note.{Note}
use Rattle.ficus_opening.specs.declared.member.Member.{Member}
use Rattle.ficus_runs.proofs.Numbers.{number_once}
use Rattle.ficus_runs.specs.Numbered.{IsNumbered}
use Rattle.ficus_script.specs.declared.command.Command.{Command}
use Rattle.ficus_world.specs.Kills.{IsDeedOf, Passes}
use Rattle.ficus_world.specs.Moves.{with_post}
use Rattle.ficus_world.specs.Post.{Outbox}
use Rattle.ficus_world.specs.World.{Whole}
use Rattle.ficus_machine.specs.Answers.{OnlyHolds}
use Rattle.ficus_machine.specs.Machine.{MachineState}
use Rattle.ficus_machine.specs.Moments.{IsOpenIn, LeavesNoted, Lives, LivesTo, NotesTo, Noting, Works, moment_of}
use Rattle.ficus_machine.specs.Moments.Lives.{Notes, Then, Working}
use Rattle.ficus_machine.specs.Moments.Noting.{Follows, Rests, Saves as NotesSaves}
use Rattle.ficus_machine.specs.Moments.Works.{Does, Holds}
use Rattle.ficus_machine.specs.declared.fault.LineFault.{LineFault}
use Rattle.ficus_machine.specs.declared.fault.LineFault.TheVariants.{Note as NoteFault}

-- where no member changes, nothing changes of what one holds
pub holds_same : (me : ℕ) (old new : Whole) → new.members ≡ old.members → OnlyHolds me old new
holds_same me old new same = record {
  count = ap (λ (list : List Member). length list) same;
  each = λ was now at there.
      let one : now ≡ was =
      number_once (subst (λ (list : List Member). IsNumbered list me now) same there) at in
      record {
        replica = ap (λ (m : Member). m.replica) one;
        state = ap (λ (m : Member). m.state) one;
        fused = ap (λ (m : Member). m.fused) one;
      };
}

-- so it is where only the messages change
pub holds_post : (me : ℕ) (old new : Whole) (post : Outbox) → new ≡ with_post old post → OnlyHolds me old new
holds_post me old new post same = holds_same me old new (ap (λ (w : Whole). w.members) same)

-- and of one thing behind the other
pub holds_then : (me : ℕ) (old middle new : Whole) (found : (member : Member) × IsNumbered middle.members me member)
    → OnlyHolds me old middle → OnlyHolds me middle new → OnlyHolds me old new
holds_then me old middle new found first then = record {
  count = then.count ∙ first.count;
  each = λ was now at there.
      let one = first.each was found.0 at found.1 in
      let two = then.each found.0 now found.1 there in
      record {
        replica = two.replica ∙ one.replica;
        state = two.state ∙ one.state;
        fused = two.fused ∙ one.fused;
      };
}

module _ {K D : Type 0} (keep : Keep K) (disk : Disk D) (me : ℕ) (noted : Option Noted) where
  -- no disk is called, and no member changes
  pub works_same : (old new : Whole) (disks now : List (Pair D)) → new.members ≡ old.members → now ≡ disks
      → Works keep disk me noted old new disks now
  works_same old new disks now same spared =
      subst (λ (list : List (Pair D)). Works keep disk me noted old new disks list) (sym spared)
      (Holds (holds_same me old new same))

  -- the world does something, or nothing happens, where what is noted is open, and stays so
  pub works_passes : (command : Command) (old new : Whole) (disks now : List (Pair D))
      → (Passes (Unit {0}) keep disk (IsDeedOf command) old new disks now ⊎ ((new ≡ old) × (now ≡ disks)))
      → IsOpenIn old me noted → (disk.tells → LeavesNoted me noted old new) → Works keep disk me noted old new disks now
  works_passes command old new disks now (inl passes) opened leaves = Does command passes opened leaves
  works_passes command old new disks now (inr (same, spared)) opened leaves =
      works_same old new disks now (ap (λ (w : Whole). w.members) same) spared

-- the same where nothing is noted
pub works_none : {K D : Type 0} (keep : Keep K) (disk : Disk D) (me : ℕ) (command : Command) (old new : Whole)
    (disks now : List (Pair D))
    → (Passes (Unit {0}) keep disk (IsDeedOf command) old new disks now ⊎ ((new ≡ old) × (now ≡ disks)))
    → Works keep disk me None old new disks now
works_none keep disk me command old new disks now passes =
    works_passes keep disk me None command old new disks now passes tt (λ tells. tt)

-- a call that ends as another does doesn't end for the note where that doesn't
pub is_not_note : {A B : Type 0} (one : Result A LineFault) (two : Result B LineFault) (fault : LineFault)
    → one ≡ Err fault → two ≡ Err fault → (IsErrOf two NoteFault → ⊥) → IsErrOf one NoteFault → ⊥
is_not_note one two fault first then never is = never (cc)

-- nor does one that comes to a value
pub never_note : {A : Type 0} (result : Result A LineFault) (value : A) → result ≡ Ok value → IsErrOf result NoteFault
    → ⊥
never_note result value fine is = absurd (cc)

module _ {N : Type 0} (slot : Disk N) where
  -- nothing becomes of the note
  pub notes_rest : {A : Type 0} (result : Result A LineFault) (was now : Note) (old new : Pair N) → now ≡ was
      → new ≡ old → NotesTo slot result was now old new
  notes_rest result was now old new same steady = record {
    noted = was.asked;
    is = λ never. ap (λ (n : Note). n.asked) same;
    noting = subst (λ (p : Pair N). Noting slot was.asked was.asked old p) (sym steady) Rests;
  }

  -- a call comes behind what has become of it
  pub notes_behind : {A : Type 0} (result : Result A LineFault) (was middle now : Note) (old mid new : Pair N)
      → Noting slot was.asked middle.asked old mid → NotesTo slot result middle now mid new
      → NotesTo slot result was now old new
  notes_behind result was middle now old mid new first then =
      record { noted = then.noted; is = then.is; noting = Follows first then.noting }

  -- and behind another call that doesn't end for the note
  pub notes_then : {A B : Type 0} (one : Result A LineFault) (result : Result B LineFault) (was middle now : Note)
      (old mid new : Pair N) → (IsErrOf one NoteFault → ⊥) → NotesTo slot one was middle old mid
      → NotesTo slot result middle now mid new → NotesTo slot result was now old new
  notes_then one result was middle now old mid new never first then =
      notes_behind result was middle now old mid new
      (subst (λ (o : Option Noted). Noting slot was.asked o old mid) (sym (first.is never)) first.noting) then

  -- its end is that of its caller
  pub notes_as : {A B : Type 0} (one : Result A LineFault) (result : Result B LineFault) (was now : Note)
      (old new : Pair N) → (IsErrOf one NoteFault → IsErrOf result NoteFault) → NotesTo slot one was now old new
      → NotesTo slot result was now old new
  notes_as one result was now old new ends notes =
      record { noted = notes.noted; is = λ never. notes.is (λ is. never (ends is)); noting = notes.noting }

  -- room is taken for one more
  pub notes_prepares : {A : Type 0} (result : Result A LineFault) (was now : Note) (old new : Pair N)
      → Noting slot was.asked was.asked old new → now.asked ≡ was.asked → NotesTo slot result was now old new
  notes_prepares result was now old new noting same =
      record { noted = was.asked; is = λ never. same; noting = noting }

  -- it is saved
  pub notes_saved : {A E B : Type 0} (noted : Option Noted) (saved : Result A E) (result : Result B LineFault)
      (was now : Note) (old new : Pair N) → Saves slot noted was now old new saved
      → ((IsErrOf result NoteFault → ⊥) → now.asked ≡ noted) → NotesTo slot result was now old new
  notes_saved noted saved result was now old new saves is =
      record { noted = noted; is = is; noting = NotesSaves {noted = was.asked} saves.between saves.spans }

  -- room is taken, and it is saved
  pub notes_saves : {A E B : Type 0} (noted : Option Noted) (saved : Result A E) (result : Result B LineFault)
      (was middle now : Note) (old mid new : Pair N) → Noting slot was.asked was.asked old mid
      → middle.asked ≡ was.asked → Saves slot noted middle now mid new saved
      → ((IsErrOf result NoteFault → ⊥) → now.asked ≡ noted) → NotesTo slot result was now old new
  notes_saves noted saved result was middle now old mid new room same saves is = record {
    noted = noted;
    is = is;
    noting =
        Follows room
        (subst (λ (o : Option Noted). Noting slot o noted mid new) same
        (NotesSaves {noted = middle.asked} saves.between saves.spans));
  }

module _ {K D N : Type 0} (keep : Keep K) (disk : Disk D) (slot : Disk N) where
  -- nothing happens, or no disk is called and no member changes
  pub lives_same : (all_noted : Type 0) (old new : MachineState K) (disks new_disks : List (Pair D))
      (slots new_slots : Pair N) → new.world.whole.members ≡ old.world.whole.members → new.note ≡ old.note
      → new_disks ≡ disks → new_slots ≡ slots
      → LivesTo keep disk slot all_noted old new disks new_disks slots new_slots
  lives_same all_noted old new disks new_disks slots new_slots same note spared steady = record {
    noted = old.note.asked;
    is = λ all. ap (λ (n : Note). n.asked) note;
    lives =
        subst (λ (p : Pair N). Lives keep disk slot old.me (moment_of old disks slots) (record {
          world = new.world.whole;
          noted = old.note.asked;
          disks = new_disks;
          slots = p;
        })) (sym steady)
        (Working (works_same keep disk old.me old.note.asked old.world.whole new.world.whole disks new_disks same
        spared));
  }

  -- its world and its disks work, and the note stays
  pub lives_works : (all_noted : Type 0) (old new : MachineState K) (disks new_disks : List (Pair D)) (slots : Pair N)
      → Works keep disk old.me old.note.asked old.world.whole new.world.whole disks new_disks → new.note ≡ old.note
      → LivesTo keep disk slot all_noted old new disks new_disks slots slots
  lives_works all_noted old new disks new_disks slots works note =
      record { noted = old.note.asked; is = λ all. ap (λ (n : Note). n.asked) note; lives = Working works }

  -- something becomes of the note, and its world stays
  pub lives_notes : {A : Type 0} (result : Result A LineFault) (old new : MachineState K) (disks : List (Pair D))
      (slots new_slots : Pair N) → new.world.whole ≡ old.world.whole
      → NotesTo slot result old.note new.note slots new_slots
      → LivesTo keep disk slot (IsErrOf result NoteFault → ⊥) old new disks disks slots new_slots
  lives_notes result old new disks slots new_slots same notes = record {
    noted = notes.noted;
    is = notes.is;
    lives =
        subst (λ (w : Whole). Lives keep disk slot old.me (moment_of old disks slots) (record {
          world = w;
          noted = notes.noted;
          disks = disks;
          slots = new_slots;
        })) (sym same) (Notes notes.noting);
  }

  -- where fewer are told to be noted
  pub lives_where : (one two : Type 0) (old new : MachineState K) (disks new_disks : List (Pair D))
      (slots new_slots : Pair N) → (two → one) → LivesTo keep disk slot one old new disks new_disks slots new_slots
      → LivesTo keep disk slot two old new disks new_disks slots new_slots
  lives_where one two old new disks new_disks slots new_slots fewer lives =
      record { noted = lives.noted; is = λ all. lives.is (fewer all); lives = lives.lives }

  -- one thing behind the other, where at first all was noted
  pub lives_then : (one two : Type 0) (old mid new : MachineState K) (disks mid_disks new_disks : List (Pair D))
      (slots mid_slots new_slots : Pair N) → one → mid.me ≡ old.me
      → LivesTo keep disk slot one old mid disks mid_disks slots mid_slots
      → LivesTo keep disk slot two mid new mid_disks new_disks mid_slots new_slots
      → LivesTo keep disk slot two old new disks new_disks slots new_slots
  lives_then one two old mid new disks mid_disks new_disks slots mid_slots new_slots all me first then = record {
    noted = then.noted;
    is = then.is;
    lives =
        Then first.lives
        (subst (λ (o : Option Noted). Lives keep disk slot old.me (record {
          world = mid.world.whole;
          noted = o;
          disks = mid_disks;
          slots = mid_slots;
        }) (record {
          world = new.world.whole;
          noted = then.noted;
          disks = new_disks;
          slots = new_slots;
        })) (first.is all)
        (subst (λ r. Lives keep disk slot r (moment_of mid mid_disks mid_slots) (record {
          world = new.world.whole;
          noted = then.noted;
          disks = new_disks;
          slots = new_slots;
        })) me then.lives));
  }

  -- the end is that of a caller
  pub lives_as : {A B : Type 0} (one : Result A LineFault) (result : Result B LineFault) (old new : MachineState K)
      (disks new_disks : List (Pair D)) (slots new_slots : Pair N)
      → (IsErrOf one NoteFault → IsErrOf result NoteFault)
      → LivesTo keep disk slot (IsErrOf one NoteFault → ⊥) old new disks new_disks slots new_slots
      → LivesTo keep disk slot (IsErrOf result NoteFault → ⊥) old new disks new_disks slots new_slots
  lives_as one result old new disks new_disks slots new_slots ends lives =
      lives_where (IsErrOf one NoteFault → ⊥) (IsErrOf result NoteFault → ⊥) old new disks new_disks slots new_slots
      (λ never is. never (ends is)) lives

  -- where that is a fault
  pub lives_ends : {B : Type 0} (A : Type 0) (result : Result B LineFault) (fault : LineFault)
      (old new : MachineState K) (disks new_disks : List (Pair D)) (slots new_slots : Pair N) → result ≡ Err fault
      → LivesTo keep disk slot (IsErrOf {T = A} {E = LineFault} (Err fault) NoteFault → ⊥) old new disks new_disks slots
      new_slots → LivesTo keep disk slot (IsErrOf result NoteFault → ⊥) old new disks new_disks slots new_slots
  lives_ends A result fault old new disks new_disks slots new_slots ends lives =
      lives_as {A = A} (Err fault) result old new disks new_disks slots new_slots (λ is. (cc)) lives
