-- The known updates, of which alone it depends what is shown.
use Rattle.std.specs.Prelude.{◌⊎◌, ℕ, ◌+◌, ◌≤◌, List}
use Rattle.ficus_ids.specs.declared.id.Id.{Id}
use Rattle.ficus_model.specs.declared.event.Event.{Event}
use Rattle.ficus_model.specs.declared.event.Op.{Op}
use Rattle.ficus_model.specs.Events.{IsUpdate, count_of, traits}
use Rattle.ficus_model.specs.Live.{ModelEntry}
use Rattle.ficus_laws.specs.Known.{IsNoneAnd}

-- the number of the next update of a replica
abbrev pub next_number : ℕ → List Event → Id
next_number replica H = record { replica = replica; number = count_of replica H + 1 }

-- the replica of the identifier has made the update of this number
pub record IsIssued (H : List Event) (id : Id) : Type 0 where
  pub at_least : 1 ≤ id.number
  pub at_most : id.number ≤ count_of id.replica H

-- the entry that a Make would enter as the next update of a replica
abbrev pub made_entry : ℕ → List Event → Id → List ℕ → ModelEntry
made_entry replica H dir name =
    record { id = next_number replica H; dir = dir; name = name; target = next_number replica H }

-- a known update has this number and does this
pub record HasUpdate (H : List Event) (U : ℕ → Type 0) (number : Id) (op : Op) : Type 0 where
  pub position : ℕ
  pub known : U position
  pub update : IsUpdate H position number op

-- each update that the first knows, the second knows
pub record UpdatesWithin (H : List Event) (U : ℕ → Type 0) (K : List Event) (V : ℕ → Type 0) : Type 0 where
  pub has : (number : Id) (op : Op) → HasUpdate H U number op → HasUpdate K V number op

-- both know the same updates
pub record SameUpdates (H : List Event) (U : ℕ → Type 0) (K : List Event) (V : ℕ → Type 0) : Type 0 where
  pub there : UpdatesWithin H U K V
  pub back : UpdatesWithin K V H U

-- what one or the other knows
abbrev pub Joined : (ℕ → Type 0) → (ℕ → Type 0) → ℕ → Type 0
Joined U V position = U position ⊎ V position

-- the event is no update and takes nothing
abbrev pub IsQuiet : Event → Type 0
IsQuiet event = IsNoneAnd (traits event).update (IsNoneAnd (traits event).takes (Unit {0}))
