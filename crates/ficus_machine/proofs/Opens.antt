-- What is noted is open still where only what a member holds of an answer changes.
use Rattle.std.proofs.Common.{◌≡◌, ◌≢◌, ◌⊎◌, ℕ, List, Option, Some, None, refl, ap, subst, ◌∙◌, inl}
use Rattle.ficus_disk.specs.declared.disk.Disk.{Ghosts as Disk}
use Rattle.ficus_disk.specs.declared.pair.Pair.{Pair}
use Rattle.ficus_ids.specs.Members.{IsMember}
use Rattle.ficus_keeper.specs.declared.keep.Keep.{Ghosts as Keep}
use Rattle.ficus_note.specs.declared.asked.Asked.{Asked as Noted}
use Rattle.ficus_replica.specs.declared.replica.Replica.{Replica}
use Rattle.ficus_runs.proofs.Numbers.{number_exists}
use Rattle.ficus_script.specs.declared.command.Command.{Command}
use Rattle.ficus_world.specs.Kills.{IsDeedOf, Passes}
use Rattle.ficus_world.specs.World.{Whole}
use Rattle.ficus_machine.specs.Answers.{OnlyHolds}
use Rattle.ficus_machine.specs.Moments.{IsOpenIn, LeavesNoted, Works}
use Rattle.ficus_machine.specs.Moments.Works.{Joins}
use Rattle.ficus_machine.proofs.Lived.{holds_same, works_passes, works_same}

-- it is open still
pub open_holds : (me : ℕ) (noted : Option Noted) (old new : Whole) → OnlyHolds me old new → IsOpenIn old me noted
    → IsOpenIn new me noted
open_holds me None old new holds opened = tt
open_holds me (Some noted) old new holds opened = λ member at.
    let found = number_exists old.members me (subst (λ n. IsMember n me) holds.count at.member) in
    let one = holds.each found.0 member found.1 at in
    let before = opened found.0 found.1 in (
      one.state ∙ before.0,
      ap (λ (r : Replica). r.ask) one.replica ∙ before.1,
    )

-- and it is left so in what the member saves
pub leaves_holds : (me : ℕ) (noted : Option Noted) (old new : Whole) → (noted ≢ None → OnlyHolds me old new)
    → LeavesNoted me noted old new
leaves_holds me None old new holds = tt
leaves_holds me (Some noted) old new holds = λ was now at there.
    let only : OnlyHolds me old new = holds (λ same. (cc)) in
    let one = only.each was now at there in
    record {
      saved = inl (ap (λ (r : Replica). r.saved) one.replica);
      pending = λ pending up down. absurd (cc (one.state, up, down));
    }

-- A world hears a message, and then does something with it, in which only what the member holds of an answer changes
-- unless nothing is noted.
pub works_heard : {K D : Type 0} (keep : Keep K) (disk : Disk D) (me : ℕ) (noted : Option Noted) (command : Command)
    (old middle after : Whole) (disks new : List (Pair D)) → middle.members ≡ old.members → IsOpenIn old me noted
    → (Passes (Unit {0}) keep disk (IsDeedOf command) middle after disks new ⊎ ((after ≡ middle) × (new ≡ disks)))
    → (noted ≢ None → OnlyHolds me middle after) → Works keep disk me noted old after disks new
works_heard keep disk me noted command old middle after disks new same opened passes holds =
    Joins (works_same keep disk me noted old middle disks disks same refl)
    (works_passes keep disk me noted command middle after disks new passes
    (open_holds me noted old middle (holds_same me old middle same) opened)
    (λ tells. leaves_holds me noted middle after holds))
