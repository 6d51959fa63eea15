-- The laws of what is shown and of what a collection leaves, as the law functions state them.
use Rattle.std.specs.Prelude.{◌≡◌, ◌⊎◌, ℕ, List, [], ◌∷◌, ◌++◌, Option}
use Rattle.ficus_ids.specs.Members.{IsMember}
use Rattle.ficus_ids.specs.declared.id.Id.{Id}
use Rattle.ficus_ids.specs.declared.kind.Kind.{Kind}
use Rattle.ficus_model.specs.declared.event.Event.{Event}
use Rattle.ficus_model.specs.declared.event.Event.TheVariants.{Accept, Collect}
use Rattle.ficus_model.specs.Events.{through}
use Rattle.ficus_model.specs.Held.{Touches, IsDropped, IsHeldEntry, IsHeldObject}
use Rattle.ficus_model.specs.Known.{Knows}
use Rattle.ficus_model.specs.Lawful.{Volume, IsLawful}
use Rattle.ficus_model.specs.Live.{ModelEntry, IsBound, IsRemoved}
use Rattle.ficus_model.specs.View.{IsDetached, IsOrphan}
use Rattle.ficus_entry.specs.declared.entry.State.{State}
use Rattle.ficus_merge_entries.specs.Table.{Merges}
use Rattle.ficus_removal_laws.specs.Laws.{IsAnswer}
use Rattle.ficus_removal_laws.specs.Marks.{IsMarked, IsTwoFull}
use Rattle.ficus_merge_laws.specs.States.{StandsAs}

-- a live entry of a detached directory leads to the object
pub record LiesInDetached (H : List Event) (U : ℕ → Type 0) (object : Id) : Type 0 where
  pub parent : Id
  pub name : List ℕ
  pub bound : IsBound H U parent name object
  pub detached : IsDetached H U parent

-- a detached directory has a live name in a detached directory
abbrev pub DetachedLieInDetached : Type 0
DetachedLieInDetached = (volume : Volume) (H : List Event) (replica : ℕ) (dir : Id) → IsLawful volume H →
    IsDetached H (Knows H replica) dir → LiesInDetached H (Knows H replica) dir

-- and each of its live names lies in one
abbrev pub DetachedLieInNoOther : Type 0
DetachedLieInNoOther = (volume : Volume) (H : List Event) (replica : ℕ) (dir parent : Id) (name : List ℕ) →
    IsLawful volume H → IsDetached H (Knows H replica) dir → IsBound H (Knows H replica) parent name dir →
    IsDetached H (Knows H replica) parent

-- what a replica holds after a collection of its own it holds after a further one straight behind it
abbrev pub SecondCollectLeavesEntries : Type 0
SecondCollectLeavesEntries = (members : ℕ) (H : List Event) (replica : ℕ) (entry : ModelEntry) →
    IsMember members replica → let K = H ++ Collect replica ∷ [] in IsHeldEntry members K replica entry →
    IsHeldEntry members (K ++ Collect replica ∷ []) replica entry

abbrev pub SecondCollectLeavesObjects : Type 0
SecondCollectLeavesObjects = (members : ℕ) (H : List Event) (replica : ℕ) (object : Id) (kind : Kind) →
    IsMember members replica → let K = H ++ Collect replica ∷ [] in IsHeldObject members K replica object kind →
    IsHeldObject members (K ++ Collect replica ∷ []) replica object kind

-- an entry that the replica holds leads to the object or lies in it
pub record IsNeeded (members : ℕ) (H : List Event) (replica : ℕ) (object : Id) : Type 0 where
  pub entry : ModelEntry
  pub held : IsHeldEntry members H replica entry
  pub touches : Touches entry object

-- of an entry that a replica holds after a collection of its own it isn't known of every member that it knows that all
-- know
abbrev pub CollectLeavesNothingFull : Type 0
CollectLeavesNothingFull = (members : ℕ) (H : List Event) (replica : ℕ) (entry : ModelEntry) →
    IsMember members replica → let K = H ++ Collect replica ∷ [] in IsHeldEntry members K replica entry →
    IsTwoFull members K replica entry.id → ⊥

-- and an object that it holds then is an orphan, or an entry that it holds leads to it or lies in it
abbrev pub CollectLeavesTheNeeded : Type 0
CollectLeavesTheNeeded = (members : ℕ) (H : List Event) (replica : ℕ) (object : Id) (kind : Kind) →
    let K = H ++ Collect replica ∷ [] in IsHeldObject members K replica object kind →
    IsOrphan K (Knows K replica) object ⊎ IsNeeded members K replica object

-- what is marked isn't dropped by its replica
abbrev pub MarkedIsNotDropped : Type 0
MarkedIsNotDropped = (members : ℕ) (H : List Event) (replica : ℕ) (id : Id) (one two : ℕ) →
    IsMarked members H replica id one two → IsDropped members H replica id → ⊥

-- an entry is marked with one pair of sets
abbrev pub MarkedOnce : Type 0
MarkedOnce = (members : ℕ) (H : List Event) (replica : ℕ) (id : Id) (one two first second : ℕ) →
    IsMarked members H replica id one two → IsMarked members H replica id first second →
    (one ≡ first) × (two ≡ second)

-- some sets
pub record HasMarks (members : ℕ) (H : List Event) (replica : ℕ) (id : Id) : Type 0 where
  pub one : ℕ
  pub two : ℕ
  pub marked : IsMarked members H replica id one two

-- and each removed entry that a replica holds is marked with some
abbrev pub RemovedIsMarked : Type 0
RemovedIsMarked = (volume : Volume) (H : List Event) (replica : ℕ) (entry : ModelEntry) → IsLawful volume H →
    IsHeldEntry volume.members H replica entry → IsRemoved H (Knows H replica) entry.id →
    HasMarks volume.members H replica entry.id

-- an identifier stands at a member in one state: absent, alive, or removed with one pair of sets
abbrev pub StandsOnce : Type 0
StandsOnce = (members : ℕ) (H : List Event) (replica : ℕ) (id : Id) (one other : Option State) →
    IsMember members replica → StandsAs members H replica id one → StandsAs members H replica id other → one ≡ other

-- so what an Accept leaves under it is what the merge table makes of what stood at the replica, and at the server when
-- it served, and nothing else
abbrev pub AcceptLeavesOne : Type 0
AcceptLeavesOne = (volume : Volume) (H : List Event) (replica served piece server : ℕ) (id : Id)
    (mine theirs one other : Option State) → IsAnswer volume H replica served piece server →
    StandsAs volume.members H replica id mine → StandsAs volume.members (through served H) server id theirs →
    Merges replica volume.members mine theirs one →
    StandsAs volume.members (H ++ Accept replica served piece ∷ []) replica id other → one ≡ other
