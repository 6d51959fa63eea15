-- Disks of which none is armed, and which one keeper alone wrote.
use Rattle.std.specs.Prelude.{◌≡◌, ℕ, ◌≤◌, List}
use Rattle.ficus_disk.specs.declared.fuse.Fuse.{Fuse}
use Rattle.ficus_disk.specs.declared.pair.Pair.{Pair}
use Rattle.ficus_keeper.specs.Fuses.{IsRegularIn, both_unarmed, fuses_of}
use Rattle.ficus_runs.specs.Numbered.{IsNumbered}

-- on no disk a number is armed
pub record AreUnarmed {D : Type 0} (fuse : D → Fuse) (disks : List (Pair D)) : Type 0 where
  pub each : (r : ℕ) (pair : Pair D) → IsNumbered disks r pair → fuses_of fuse pair ≡ both_unarmed

-- what the disks of the members up to this one hold is of volumes that this keeper alone wrote
pub record AreRegular {D : Type 0} (Regular : List ℕ → List ℕ → Type 0) (seen : D → List ℕ) (disks : List (Pair D))
    (count : ℕ) : Type 0 where
  pub each : (r : ℕ) (pair : Pair D) → IsNumbered disks r pair → r ≤ count → IsRegularIn Regular seen pair
