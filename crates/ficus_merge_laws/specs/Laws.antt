-- The laws of states, as the law functions state them.
use Rattle.std.specs.Prelude.{◌≢◌, ◌⊎◌, ℕ, ◌≤◌, List, [], ◌∷◌, ◌++◌, Option, Some, Contains}
use Rattle.ficus_ids.specs.Members.{IsMember}
use Rattle.ficus_ids.specs.declared.id.Id.{Id}
use Rattle.ficus_entry.specs.declared.entry.State.{State}
use Rattle.ficus_entry.specs.declared.entry.State.TheVariants.{Live, Dead}
use Rattle.ficus_merge_entries.specs.Table.{Merges}
use Rattle.ficus_model.specs.declared.event.Event.{Event}
use Rattle.ficus_model.specs.declared.event.Event.TheVariants.{Update, Accept, Collect}
use Rattle.ficus_model.specs.declared.event.Op.{Op}
use Rattle.ficus_model.specs.Events.{through, actor}
use Rattle.ficus_model.specs.Lawful.{Volume, IsLawful}
use Rattle.ficus_model.specs.Live.{removed_by}
use Rattle.ficus_laws.specs.Updates.{next_number}
use Rattle.ficus_removal_laws.specs.Laws.{IsAnswer}
use Rattle.ficus_merge_laws.specs.States.{StandsAs, EntersAs, LeavesState, Collects, IsKilled}

-- where an answer is taken, the merge table makes of what stood at the replica, and at the server when it served,
-- what then stands at the replica
abbrev pub MergeGivesStates : Type 0
MergeGivesStates = (volume : Volume) (H : List Event) (replica served piece server : ℕ) (id : Id)
    (mine theirs after : Option State) → IsAnswer volume H replica served piece server →
    StandsAs volume.members H replica id mine → StandsAs volume.members (through served H) server id theirs →
    Merges replica volume.members mine theirs after →
    StandsAs volume.members (H ++ Accept replica served piece ∷ []) replica id after

-- an event of another replica leaves the state of each entry, and so does an own one that leaves this entry
abbrev pub StatesStay : Type 0
StatesStay = (members : ℕ) (H : List Event) (event : Event) (replica : ℕ) (id : Id) (state : Option State) →
    IsMember members replica → (actor event ≢ replica) ⊎ LeavesState H event id →
    StandsAs members H replica id state → StandsAs members (H ++ event ∷ []) replica id state

-- an entry that a lawful update enters and doesn't remove is then alive
abbrev pub EnteredIsAlive : Type 0
EnteredIsAlive = (volume : Volume) (H : List Event) (replica : ℕ) (op : Op) (id : Id) → IsLawful volume H →
    EntersAs H replica op id → (Contains (removed_by (next_number replica H) op) id → ⊥) →
    StandsAs volume.members (H ++ Update replica op ∷ []) replica id (Some Live)

-- an entry that a lawful update removes is then dead, and its marks are those with which a removal begins
abbrev pub RemovedIsKilled : Type 0
RemovedIsKilled = (volume : Volume) (H : List Event) (replica : ℕ) (op : Op) (id : Id) (one two : ℕ) →
    2 ≤ volume.members → IsLawful volume (H ++ Update replica op ∷ []) →
    Contains (removed_by (next_number replica H) op) id → IsKilled replica one two →
    StandsAs volume.members (H ++ Update replica op ∷ []) replica id (Some (Dead one two))

-- a Collect of the replica gives each entry the state that a collection gives it
abbrev pub CollectGivesStates : Type 0
CollectGivesStates = (members : ℕ) (H : List Event) (replica : ℕ) (id : Id) (state after : Option State) →
    IsMember members replica → StandsAs members H replica id state → Collects members state after →
    StandsAs members (H ++ Collect replica ∷ []) replica id after
