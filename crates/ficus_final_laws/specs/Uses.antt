-- What uses an object, and for whom it is alive.
use Rattle.std.specs.Prelude.{◌≡◌, ◌⊎◌, ℕ, List, Some}
use Rattle.ficus_ids.specs.declared.id.Id.{Id}
use Rattle.ficus_model.specs.declared.event.Event.{Event}
use Rattle.ficus_model.specs.declared.event.Op.{Op}
use Rattle.ficus_model.specs.Events.{IsUpdate}
use Rattle.ficus_model.specs.Live.{ModelEntry, entered_by, IsLive}
use Rattle.ficus_model.specs.Versions.{version_of}
use Rattle.ficus_model.specs.View.{HasUnseen}
use Rattle.ficus_model.specs.Held.{Touches}

-- the update with this number enters an entry that leads to the object or lies in it
pub record EntersTouching (number : Id) (op : Op) (object : Id) : Type 0 where
  pub entry : ModelEntry
  pub enters : entered_by number op ≡ Some entry
  pub touches : Touches entry object

-- at this position stands an update that uses the object: a version event of it, or one that enters such an entry
pub record IsUse (H : List Event) (object : Id) (position : ℕ) : Type 0 where
  pub number : Id
  pub op : Op
  pub update : IsUpdate H position number op
  pub uses : (version_of number op ≡ Some object) ⊎ EntersTouching number op object

-- a live entry leads to the object or lies in it
pub record HasLiveEntry (H : List Event) (U : ℕ → Type 0) (object : Id) : Type 0 where
  pub entry : ModelEntry
  pub live : IsLive H U entry
  pub touches : Touches entry object

-- the object is alive: it has such an entry, or is a file with an uncovered version
abbrev pub IsAlive : List Event → (ℕ → Type 0) → Id → Type 0
IsAlive H U object = HasLiveEntry H U object ⊎ HasUnseen H U object
