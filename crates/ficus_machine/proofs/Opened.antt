-- A machine that is opened, or isn't.
use Rattle.std.proofs.Common.{◌≡◌, ℕ, ◌≤◌, List, [], length, Some, None, Result, Ok, Err, refl, sym, ap, subst, ◌∙◌, inl, inr}
use Rattle.ficus_disk.specs.declared.disk.Disk.{Ghosts as Disk}
use Rattle.ficus_disk.specs.declared.pair.Pair.{Pair}
use Rattle.ficus_ids.specs.Members.{IsMember}
use Rattle.ficus_keeper.proofs.AsBefore.{as_before as pair_as_before}
use Rattle.ficus_keeper.specs.Pairs.{PairSame}
use Rattle.ficus_keeper.specs.declared.keep.Keep.{Ghosts as Keep}
use Rattle.ficus_note.specs.declared.asked.Asked.{Asked as Noted}
use Rattle.ficus_note.specs.declared.note.Note.{Note}
use Rattle.ficus_opening.specs.Opening.{opened_member}
use Rattle.ficus_opening.specs.declared.fault.WorldFault.{WorldFault}
use Rattle.ficus_opening.specs.declared.fault.WorldFault.TheVariants.{Image, Occupied, Store}
use Rattle.ficus_opening.specs.declared.member.Member.{Member}
use Rattle.ficus_runs.proofs.Numbers.{number_once}
use Rattle.ficus_runs.specs.Numbered.{IsNumbered}
use Rattle.ficus_world.specs.Machines.Alone.{BeginsAnew, OpensWorldAlone, StandsAlone}
use Rattle.ficus_world.specs.Post.{Outbox}
use Rattle.ficus_world.specs.World.{Backed, Whole}
use Rattle.ficus_machine.proofs.Waits.{waits_backed, waits_count, waits_none, waits_noted, waits_post, waits_renews}
use Rattle.ficus_machine.specs.Machine.{MachineState}
use Rattle.ficus_machine.specs.Opening.{OpensMachine, OpensNote, Resumes, WaitsAsNoted}

pub pair_unmoved : {D A : Type 0} (what : D → A) (pair : Pair D) → PairSame what pair pair
pair_unmoved what pair = record { a = refl; b = refl }

-- no message was sent over a link, which counts so many bytes
abbrev unsent : ℕ → Outbox
unsent total = record { behind = []; posts = []; total = total; faults = 0 }

-- a call that ended so
abbrev as_failed : (A : Type 0) → WorldFault → Result A WorldFault
as_failed A fault = Err fault

-- whatever another call gives that ended for the same fault
same_fault : {A B : Type 0} {fault : WorldFault} (one : WorldFault) → as_failed A fault ≡ Err one
    → as_failed B fault ≡ Err one
same_fault one is = cc

module _ {K D N : Type 0} (keep : Keep K) (disk : Disk D) (slot : Disk N) (me : ℕ) (tag : List ℕ)
    (total : ℕ) (old new : List (Pair D)) (slots slots_new : Pair N) where
  -- its world isn't
  pub not_opened : (fault : WorldFault) → OpensWorldAlone keep disk me 0 total (Err fault) old new
      → OpensMachine keep disk slot me tag (Err fault) old new slots slots
  not_opened fault world = record {
    rest = tt;
    own = tt;
    tagged = tt;
    fits = tt;
    noted = λ tells. tt;
    stands = λ tells. tt;
    begins = λ tells. tt;
    resumes = λ tells. tt;
    image = λ tells told r is. let given = world.image tells r (same_fault (Image r) is) in (given.0, inl given.1);
    image_comes = world.image_comes;
    empty = λ tells. tt;
    occupied = λ tells q is. world.occupied tells q (same_fault (Occupied q) is);
    failed = λ r is. inl (world.asked.failed r (same_fault (Store r) is));
    spared = λ one unfailed is. (world.asked.spared one unfailed (same_fault one is), pair_unmoved slot.faults slots);
    steady = tt;
    rests = world.rests;
    keeps = (pair_as_before slot slots).keeps;
  }

  module _ (world : Backed K) (opens : OpensWorldAlone keep disk me 0 total (Ok world) old new) where
    -- its note isn't
    pub not_noted : (fault : WorldFault) → OpensNote slot me (Err fault) slots slots_new
        → OpensMachine keep disk slot me tag (Err fault) old new slots slots_new
    not_noted fault notes = record {
      rest = tt;
      own = tt;
      tagged = tt;
      fits = tt;
      noted = λ tells. tt;
      stands = λ tells. tt;
      begins = λ tells. tt;
      resumes = λ tells. tt;
      image = λ tells told r is. let given = notes.image told r (same_fault (Image r) is) in (given.0, inr given.1);
      image_comes = λ tells none. absurd (opens.image_comes tells none);
      empty = λ tells. tt;
      occupied = λ tells q is. absurd (notes.never q (same_fault (Occupied q) is));
      failed = λ r is. inr (notes.failed r (same_fault (Store r) is));
      spared = λ one unfailed is. (opens.asked.steady, notes.spared one unfailed (same_fault one is));
      steady = tt;
      rests = opens.rests;
      keeps = notes.keeps;
    }

    module _ (note : Note) (notes : OpensNote slot me (Ok note) slots slots_new) (after : Backed K)
        (waits : WaitsAsNoted me note.asked world.whole after.whole) (stables : after.stables ≡ world.stables) where
      abbrev was : Member
      was = opened_member opens.alone.saved opens.alone.among.fused

      is : IsNumbered world.whole.members me was
      is = opens.alone.among.is

      count : length after.whole.members ≡ length world.whole.members
      count = waits_count me world.whole after.whole was is note.asked waits

      abbrev machine : MachineState K
      machine = record { me = me; tag = tag; world = after; note = note }

      as_before : note.asked ≡ None → after.whole ≡ world.whole
      as_before none = waits_none me world.whole after.whole note.asked none waits

      resumes : disk.tells → (noted : Noted) → note.asked ≡ Some noted → Resumes keep disk me noted old after.whole
      resumes tells noted some machine_was member own is_member awaits is_own holds members fused =
          waits_renews me world.whole after.whole machine_was member is_member noted awaits
          (opens.begins tells machine_was member.replica.saved own is_own holds members
          (λ other is_other. ap (λ (m : Member). m.fused) (number_once is_other is_member) ∙ fused)) note.asked some waits

      pub opened : total ≡ 0 → OpensMachine keep disk slot me tag (Ok machine) old new slots slots_new
      opened none_sent = record {
        rest = record {
          held = record {
            member = subst (λ n. IsMember n me) (sym count) is.member;
            backed = waits_backed was is note.asked waits stables opens.backed;
            ready = notes.ready;
          };
          post =
              waits_post me world.whole after.whole was is note.asked waits ∙ opens.post
              ∙ ap unsent none_sent;
          noted = waits_noted me world.whole after.whole was is note.asked refl refl waits;
        };
        own = refl;
        tagged = refl;
        fits = notes.fits;
        noted = notes.found;
        stands = λ tells none.
            subst (λ (whole : Whole). StandsAlone keep disk me old whole) (sym (as_before none)) (opens.stands tells);
        begins = λ tells none.
            subst (λ (whole : Whole). BeginsAnew keep disk me old whole) (sym (as_before none)) (opens.begins tells);
        resumes = resumes;
        image = λ tells told r never. absurd (cc);
        image_comes = λ tells none. opens.image_comes tells none;
        empty = λ tells r pair differs most at.
            opens.empty tells r pair differs (subst (λ n. r ≤ n) count most) at;
        occupied = λ tells q never. absurd (cc);
        failed = λ r never. absurd (cc);
        spared = λ one unfailed never. absurd (cc);
        steady = (opens.asked.steady, notes.steady);
        rests = opens.rests;
        keeps = notes.keeps;
      }
