-- What it means that disks stand for a history.
use Rattle.std.specs.Prelude.{ℕ, List, Option}
use Rattle.ficus_disk.specs.declared.pair.Pair.{Pair}
use Rattle.ficus_keeper.specs.Kept.{Kept, found_in}
use Rattle.ficus_ids.specs.Members.{IsMember}
use Rattle.ficus_model.specs.declared.event.Event.{Event}
use Rattle.ficus_model.specs.Lawful.{Volume}
use Rattle.ficus_replica.specs.SavedOf.{IsSavedOf}
use Rattle.ficus_durable_state.specs.Saved.{FitsImage}
use Rattle.ficus_durable_state.specs.declared.saved.Saved.{Saved}
use Rattle.ficus_stable_storage.specs.Leads.Holds.{Holds}
use Rattle.ficus_runs.specs.Numbered.{IsNumbered}

-- what was found, an image and the records behind it, holds what the member saves after the history
pub record KeepsOf (volume : Volume) (H : List Event) (r : ℕ) (found : Option Kept) : Type 0 where
  pub saved : Saved
  pub is : IsSavedOf volume H r saved
  pub fits : FitsImage saved
  pub holds : Holds found saved

-- the pairs of the members stand for the history
pub record DisksKeep {D : Type 0} (kept : List ℕ → List ℕ → Option Kept) (seen : D → List ℕ) (volume : Volume)
    (H : List Event) (disks : List (Pair D)) : Type 0 where
  pub each : (r : ℕ) (pair : Pair D) → IsNumbered disks r pair → IsMember volume.members r
      → KeepsOf volume H r (found_in kept seen pair)
