-- What it means that disks stand for what has happened.
use Rattle.std.specs.Prelude.{◌≡◌, ◌⊎◌, ℕ, ◌++◌, ◌∷◌, [], List, Option, Some, None}
use Rattle.ficus_disk.specs.declared.pair.Pair.{Pair}
use Rattle.ficus_keeper.specs.Kept.{Kept, found_in}
use Rattle.ficus_model.specs.declared.event.Event.{Event}
use Rattle.ficus_model.specs.Events.{actor}
use Rattle.ficus_model.specs.Lawful.{IsLawful, MayCome, Volume}
use Rattle.ficus_replica.specs.SavedOf.{IsSavedOf}
use Rattle.ficus_durable_state.specs.Saved.{FitsImage}
use Rattle.ficus_durable_state.specs.declared.saved.Saved.{Saved}
use Rattle.ficus_stable_storage.specs.Leads.Holds.{Holds}
use Rattle.ficus_runs.specs.ModelWorld.{ModelWorld, Standing, Up, Down}
use Rattle.ficus_runs.specs.Numbered.{IsNumbered}
use Rattle.ficus_opening.specs.Stand.{KeepsOf}
use Rattle.ficus_world.specs.World.{AreOthers}

-- What was found, an image and the records behind it, holds what the member saves after the history with this event of
-- its own, whatever others do between the two: the event may still come.
pub record KeepsWith (volume : Volume) (H : List Event) (r : ℕ) (event : Event) (found : Option Kept) : Type 0 where
  pub saved : Saved
  pub fits : FitsImage saved
  pub holds : Holds found saved
  pub own : actor event ≡ r
  pub follows : (later : List Event) → AreOthers r later → IsLawful volume (H ++ later)
      → MayCome volume (H ++ later) event × IsSavedOf volume ((H ++ later) ++ event ∷ []) r saved

-- the same; where the member is down, maybe of the history with the event that is pending
abbrev pub KeepsFor : Volume → List Event → ℕ → Option Kept → Standing → Type 0
KeepsFor volume H r found Up = KeepsOf volume H r found
KeepsFor volume H r found (Down None) = KeepsOf volume H r found
KeepsFor volume H r found (Down (Some event)) =
    KeepsOf volume H r found ⊎ KeepsWith volume H r event found

-- the pairs of the members stand for what has happened, and for how the members stand
pub record DisksStand {D : Type 0} (kept : List ℕ → List ℕ → Option Kept) (seen : D → List ℕ) (volume : Volume)
    (W : ModelWorld) (disks : List (Pair D)) : Type 0 where
  pub each : (r : ℕ) (pair : Pair D) (standing : Standing) → IsNumbered disks r pair
      → IsNumbered W.standings r standing → KeepsFor volume W.events r (found_in kept seen pair) standing

-- The same of whatever a crash leaves of the pairs: nothing that has happened hangs on what is unsynced.
pub record DisksOutlast {D : Type 0} (kept : List ℕ → List ℕ → Option Kept) (may_leave : D → List ℕ → Type 0)
    (volume : Volume) (W : ModelWorld) (disks : List (Pair D)) : Type 0 where
  pub each : (r : ℕ) (pair : Pair D) (standing : Standing) → IsNumbered disks r pair
      → IsNumbered W.standings r standing → (a b : List ℕ) → may_leave pair.a a → may_leave pair.b b
      → KeepsFor volume W.events r (kept a b) standing

-- What is pending of a member that is down is an event of its own, and may still come, whatever others do meanwhile.
pub record ArePending (volume : Volume) (W : ModelWorld) : Type 0 where
  pub own : (r : ℕ) (event : Event) → IsNumbered W.standings r (Down (Some event)) → actor event ≡ r
  pub comes : (r : ℕ) (event : Event) → IsNumbered W.standings r (Down (Some event)) → (later : List Event)
      → AreOthers r later → IsLawful volume (W.events ++ later) → MayCome volume (W.events ++ later) event
