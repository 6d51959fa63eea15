-- The laws of the entries that a replica keeps, as the law functions state them.
use Rattle.std.specs.Prelude.{◌≡◌, ◌≢◌, ◌⊎◌, ◌↔◌, ℕ, ◌≤◌, List, [], ◌∷◌, ◌++◌, Contains}
use Rattle.ficus_ids.specs.Members.{IsMember}
use Rattle.ficus_entry.specs.declared.entry.Entry.{Entry as Kept}
use Rattle.ficus_merge_entries.specs.Merge.{MergesEntries}
use Rattle.ficus_model.specs.declared.event.Event.{Event}
use Rattle.ficus_model.specs.declared.event.Event.TheVariants.{Update, Accept, Collect}
use Rattle.ficus_model.specs.declared.event.Op.{Op}
use Rattle.ficus_model.specs.Events.{actor, through}
use Rattle.ficus_model.specs.Held.{IsDropped}
use Rattle.ficus_model.specs.Lawful.{Volume, IsLawful}
use Rattle.ficus_laws.specs.Updates.{next_number}
use Rattle.ficus_removal_laws.specs.Laws.{IsAnswer}
use Rattle.ficus_collection.specs.Reclaim.{IsFullyKnown, AreUndropped}
use Rattle.ficus_held_laws.specs.Entries.{IsKeptEntry, AreKeptEntries, IsFromUpdate, AreEntriesStepped, IsIdle}

-- what is kept isn't dropped
abbrev pub HeldIsNotDropped : Type 0
HeldIsNotDropped = (members : ℕ) (H : List Event) (replica : ℕ) (entry : Kept) →
    IsKeptEntry members H replica entry → IsDropped members H replica entry.id → ⊥

-- an identifier is kept as one entry in one state
abbrev pub OneKeptOfEach : Type 0
OneKeptOfEach = (members : ℕ) (H : List Event) (replica : ℕ) (entry other : Kept) →
    IsKeptEntry members H replica entry → IsKeptEntry members H replica other → entry.id ≡ other.id → entry ≡ other

-- after an update its replica keeps what was kept or is new, as the update leaves it
abbrev pub UpdateStepsEntries : Type 0
UpdateStepsEntries = (volume : Volume) (H : List Event) (replica : ℕ) (op : Op) (entry : Kept) → 2 ≤ volume.members →
    IsLawful volume (H ++ Update replica op ∷ []) →
    IsKeptEntry volume.members (H ++ Update replica op ∷ []) replica entry ↔
    IsFromUpdate volume.members H replica op entry

-- after a Collect its replica keeps what it kept, but for what everybody is known to know that all know
abbrev pub CollectLeavesEntries : Type 0
CollectLeavesEntries = (members : ℕ) (H : List Event) (replica : ℕ) (entry : Kept) → IsMember members replica →
    IsKeptEntry members (H ++ Collect replica ∷ []) replica entry ↔
    (IsKeptEntry members H replica entry × (IsFullyKnown members entry.state → ⊥))

-- an event of another replica, and an idle one, leaves what a replica keeps
abbrev pub OthersKeepEntries : Type 0
OthersKeepEntries = (members : ℕ) (H : List Event) (event : Event) (replica : ℕ) (entry : Kept) →
    IsMember members replica → (actor event ≢ replica) ⊎ IsIdle event →
    IsKeptEntry members H replica entry ↔ IsKeptEntry members (H ++ event ∷ []) replica entry

-- after an Accept its replica keeps the merge of what it kept and of what the server kept when it served
abbrev pub AcceptMergesEntries : Type 0
AcceptMergesEntries = (volume : Volume) (H : List Event) (replica served piece server : ℕ)
    (mine theirs after : List Kept) →
    IsAnswer volume H replica served piece server →
    AreKeptEntries volume.members H replica mine → AreKeptEntries volume.members (through served H) server theirs →
    MergesEntries replica volume.members mine theirs after →
    AreKeptEntries volume.members (H ++ Accept replica served piece ∷ []) replica after

-- at the start no replica keeps an entry
abbrev pub NoEntriesAtStart : Type 0
NoEntriesAtStart = (members replica : ℕ) → AreKeptEntries members [] replica []

-- a list of the entries that a replica keeps has exactly those
abbrev pub ListsAreWhole : Type 0
ListsAreWhole = (members : ℕ) (H : List Event) (replica : ℕ) (entries : List Kept) (entry : Kept) →
    AreKeptEntries members H replica entries → Contains entries entry ↔ IsKeptEntry members H replica entry

-- so an update makes of the list what it makes of its entries, with the one that it enters
abbrev pub UpdateStepsList : Type 0
UpdateStepsList = (volume : Volume) (H : List Event) (replica : ℕ) (op : Op) (entries after : List Kept) →
    2 ≤ volume.members → IsLawful volume (H ++ Update replica op ∷ []) →
    AreKeptEntries volume.members H replica entries →
    AreEntriesStepped replica (next_number replica H) op entries after →
    AreKeptEntries volume.members (H ++ Update replica op ∷ []) replica after

-- a Collect leaves of the list what isn't known fully
abbrev pub CollectLeavesList : Type 0
CollectLeavesList = (members : ℕ) (H : List Event) (replica : ℕ) (entries after : List Kept) →
    IsMember members replica →
    AreKeptEntries members H replica entries → AreUndropped members entries after →
    AreKeptEntries members (H ++ Collect replica ∷ []) replica after

-- and an event of another replica, and an idle one, leaves the list
abbrev pub OthersKeepList : Type 0
OthersKeepList = (members : ℕ) (H : List Event) (event : Event) (replica : ℕ) (entries : List Kept) →
    IsMember members replica → (actor event ≢ replica) ⊎ IsIdle event →
    AreKeptEntries members H replica entries → AreKeptEntries members (H ++ event ∷ []) replica entries
