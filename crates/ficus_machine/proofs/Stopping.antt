-- How a call ends, and that the next process goes on.
use Rattle.std.proofs.Common.{◌≡◌, ℕ, List, length, Result, Ok, Err, is_err, sym, ap, subst}
use Rattle.std.proofs.lemmas.Result.{IfOk-from_err}
use Rattle.ficus_disk.specs.declared.disk.Disk.{Ghosts as Disk}
use Rattle.ficus_disk.specs.declared.pair.Pair.{Pair}
use Rattle.ficus_ids.specs.Members.{IsMember}
use Rattle.ficus_keeper.specs.Pairs.{PairSame}
use Rattle.ficus_keeper.specs.declared.keep.Keep.{Ghosts as Keep}
use Rattle.ficus_mailbox.specs.declared.mailbox.Mailbox.{Ghosts as Mailbox}
use Rattle.ficus_note.specs.Calls.{IsReady}
use Rattle.ficus_runs.proofs.Numbers.{number_exists}
use Rattle.ficus_runs.specs.Numbered.{IsNumbered}
use Rattle.ficus_world.specs.Disks.{IsBacked}
use Rattle.ficus_world.specs.Machines.Together.{Renews, Told}
use Rattle.ficus_world.specs.Moves.{with_post}
use Rattle.ficus_world.specs.World.{Backed, Whole}
use Rattle.ficus_machine.specs.Line.{Goes, GoesOn}
use Rattle.ficus_machine.specs.Machine.{IsAtRest, IsNoted, KeepsMachine, MachineState, no_post}
use Rattle.ficus_machine.specs.Noting.{AsksSlots}
use Rattle.ficus_machine.specs.declared.fault.LineFault.{LineFault}
use Rattle.ficus_machine.proofs.Held.{backed_same}
use Rattle.ficus_machine.proofs.Slots.{asks_fine}

-- a world without its messages is that of the next process
pub renews_bare : {me : ℕ} {old new : Whole} → new ≡ with_post old no_post → IsMember (length old.members) me
    → Renews me old new
renews_bare {me} {old} {new} bare member =
    let found = number_exists old.members me member in
    record {
      count = ap (λ (w : Whole). length w.members) bare;
      member = found.0;
      was = found.1;
      is = subst (λ (w : Whole). IsNumbered w.members me found.0) (sym bare) found.1;
      posts = ap (λ (w : Whole). w.post.posts) bare;
    }

-- and a machine in it is at rest, where what is noted is right
pub rests_bare : {K D N : Type 0} {keep : Keep K} {disk : Disk D} {slot : Disk N} {mid : Backed K}
    {new : MachineState K} {disks : List (Pair D)} {slots : Pair N} → new.world.whole ≡ with_post mid.whole no_post
    → new.world.stables ≡ mid.stables → IsMember (length mid.whole.members) new.me
    → IsBacked keep disk mid disks → (slot.tells → IsReady slot new.note slots)
    → IsNoted new.world.whole new.me new.note.asked → IsAtRest keep disk slot new disks slots
rests_bare {mid = mid} {new = new} bare stables member backed ready noted = record {
  held = record {
    member = subst (λ n. IsMember n new.me) (sym (ap (λ (w : Whole). length w.members) bare)) member;
    backed = backed_same {old = mid} {new = new.world} (ap (λ (w : Whole). w.members) bare) stables backed;
    ready = ready;
  };
  post = ap (λ (w : Whole). w.post) bare;
  noted = noted;
}

module _ {K D N M A : Type 0} {keep : Keep K} {disk : Disk D} {slot : Disk N} {mailbox : Mailbox M}
    {Answers : List Told → A → Type 0} {result : Result A LineFault} {old new : MachineState K}
    {disks new_disks : List (Pair D)} {slots new_slots : Pair N} {was now : M} {told : List Told} where
  -- it ends with a fault, whatever was told
  pub goes_stopped : (fault : LineFault) → result ≡ Err fault
      → GoesOn mailbox disk.tells old.me old.tag told old.world.whole new.world.whole was now
      → IsBacked keep disk new.world new_disks → KeepsMachine old new
      → AsksSlots slot result new.note slots new_slots
      → Goes keep disk slot mailbox Answers result old new disks new_disks slots new_slots was now
  goes_stopped fault ends goes backed same asks = record {
    told = told;
    goes = goes;
    answers = IfOk-from_err result (Answers told) (ap is_err ends);
    rest = IfOk-from_err result (λ value. IsAtRest keep disk slot new new_disks new_slots) (ap is_err ends);
    backed = backed;
    same = same;
    asks = asks;
  }

  -- it ends with an answer
  pub goes_answered : (answer : A) → result ≡ Ok answer
      → GoesOn mailbox disk.tells old.me old.tag told old.world.whole new.world.whole was now → Answers told answer
      → IsAtRest keep disk slot new new_disks new_slots → KeepsMachine old new → PairSame slot.faults slots new_slots
      → Goes keep disk slot mailbox Answers result old new disks new_disks slots new_slots was now
  goes_answered answer ends goes answers rest same steady =
      subst (λ (r : Result A LineFault). Goes keep disk slot mailbox Answers r old new disks new_disks slots new_slots
      was now) (sym ends)
      (record {
        told = told;
        goes = goes;
        answers = answers;
        rest = rest;
        backed = rest.held.backed;
        same = same;
        asks = asks_fine steady;
      })
