-- What a crash may leave of disks before a run.
use Rattle.std.specs.Prelude.{ℕ, List, Option}
use Rattle.ficus_disk.specs.declared.pair.Pair.{Pair}
use Rattle.ficus_ids.specs.Members.{IsMember}
use Rattle.ficus_keeper.specs.Kept.{Kept}
use Rattle.ficus_model.specs.declared.event.Event.{Event}
use Rattle.ficus_model.specs.Lawful.{Volume}
use Rattle.ficus_opening.specs.Stand.{KeepsOf}
use Rattle.ficus_runs.specs.Numbered.{IsNumbered}

-- whatever a crash leaves of the pair of a member keeps what it has saved after the history
pub record CrashesKeep {D : Type 0} (kept : List ℕ → List ℕ → Option Kept) (may_leave : D → List ℕ → Type 0)
    (volume : Volume) (H : List Event) (disks : List (Pair D)) : Type 0 where
  pub each : (r : ℕ) (pair : Pair D) → IsNumbered disks r pair → IsMember volume.members r → (a b : List ℕ)
      → may_leave pair.a a → may_leave pair.b b → KeepsOf volume H r (kept a b)
