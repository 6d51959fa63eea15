-- The laws of replicas that stand for histories, as the law functions state them.
use Rattle.std.specs.Prelude.{◌≡◌, ◌⊎◌, ◌↔◌, ℕ, List, [], ◌∷◌, ◌++◌, Contains}
use Rattle.ficus_ids.specs.Members.{IsCount, IsMember}
use Rattle.ficus_ids.specs.declared.id.Id.{Id}
use Rattle.ficus_ids.specs.declared.id.TheConstants.{ROOT}
use Rattle.ficus_ids.specs.declared.kind.Kind.{Kind}
use Rattle.ficus_ids.specs.declared.kind.Kind.TheVariants.{Dir}
use Rattle.ficus_entry.specs.declared.entry.Entry.{Entry}
use Rattle.ficus_entry.specs.declared.entry.State.TheVariants.{Live}
use Rattle.ficus_file.specs.Files.{HoldsFile}
use Rattle.ficus_model.specs.declared.event.Event.{Event}
use Rattle.ficus_model.specs.declared.event.Event.TheVariants.{Collect}
use Rattle.ficus_model.specs.Held.{IsHeldEntry, IsHeldObject}
use Rattle.ficus_model.specs.Known.{Knows}
use Rattle.ficus_model.specs.Lawful.{Volume, IsLawful}
use Rattle.ficus_model.specs.Live.{ModelEntry}
use Rattle.ficus_model.specs.View.{IsOrphan, ViewSame}
use Rattle.ficus_removal_laws.specs.Marks.{IsTwoFull}
use Rattle.ficus_view_laws.specs.Laws.{IsNeeded}
use Rattle.ficus_durable_state.specs.declared.saved.Saved.{Saved}
use Rattle.ficus_rules.specs.Alike.{AreAlike}
use Rattle.ficus_rules.specs.Detached.{IsDetachedIn}
use Rattle.ficus_rules.specs.View.{View, IsBoundIn, history_view}
use Rattle.ficus_deciding.specs.View.{tables_view}
use Rattle.ficus_replica.specs.Collect.{Garbage, IsEntryGivenUp, IsGarbage, IsObjectGivenUp}
use Rattle.ficus_replica.specs.SavedOf.{StandsFor}
use Rattle.ficus_replica.specs.declared.replica.Replica.{Replica}

-- some replica of this number stands for the history
pub record HasReplica (volume : Volume) (H : List Event) (number : ℕ) : Type 0 where
  pub replica : Replica
  pub stands : StandsFor volume H number replica

-- for each lawful history of two to eight members a replica of each member's number stands
abbrev pub ReplicasExist : Type 0
ReplicasExist = (volume : Volume) (H : List Event) (number : ℕ) → IsCount volume.members →
    IsMember volume.members number → IsLawful volume H → HasReplica volume H number

-- two replicas are alike exactly where what both know shows the same
abbrev pub AlikeIsSameView : Type 0
AlikeIsSameView = (volume : Volume) (H : List Event) (r s : ℕ) → IsCount volume.members →
    IsMember volume.members r → IsMember volume.members s → IsLawful volume H →
    AreAlike (history_view volume H r) (history_view volume H s) ↔ ViewSame H (Knows H r) (Knows H s)

-- so the tables are, of replicas that stand for the history
abbrev pub AlikeTablesShowSame : Type 0
AlikeTablesShowSame = (volume : Volume) (H : List Event) (r s : ℕ) (one other : Replica) → IsLawful volume H →
    StandsFor volume H r one → StandsFor volume H s other →
    AreAlike (tables_view one.saved) (tables_view other.saved) ↔ ViewSame H (Knows H r) (Knows H s)

-- each live entry lies in the root or in a directory of the files
abbrev pub LieInDirectories : Saved → Type 0
LieInDirectories saved = (entry : Entry) → Contains saved.entries entry → entry.state ≡ Live →
    (entry.dir ≡ ROOT) ⊎ HoldsFile saved.files entry.dir (λ file. file.kind ≡ Dir)

-- a live entry of a detached directory leads to the object
pub record LiesInDetachedIn (view : View) (object : Id) : Type 0 where
  pub parent : Id
  pub name : List ℕ
  pub bound : IsBoundIn view parent name object
  pub detached : IsDetachedIn view parent

-- over tables whose live entries lie in directories, a detached directory has a live name in a detached directory
abbrev pub DetachedLieInDetachedTables : Type 0
DetachedLieInDetachedTables = (saved : Saved) (dir : Id) → LieInDirectories saved →
    IsDetachedIn (tables_view saved) dir → LiesInDetachedIn (tables_view saved) dir

-- a collection straight behind one of the same member gives up nothing
abbrev pub SecondCollectionGivesNothing : Type 0
SecondCollectionGivesNothing = (members : ℕ) (H : List Event) (replica : ℕ) (garbage : Garbage) →
    IsMember members replica → IsGarbage members (H ++ Collect replica ∷ []) replica garbage →
    garbage ≡ record { entries = 0; objects = 0 }

-- the replica holds the entry with this identifier, and knows of every member that it knows that all know of its
-- removal
pub record IsFullyRemoved (members : ℕ) (H : List Event) (replica : ℕ) (id : Id) : Type 0 where
  pub entry : ModelEntry
  pub has_id : entry.id ≡ id
  pub held : IsHeldEntry members H replica entry
  pub full : IsTwoFull members H replica id

-- a collection gives up exactly those entries
abbrev pub EntriesGivenUp : Type 0
EntriesGivenUp = (members : ℕ) (H : List Event) (replica : ℕ) (id : Id) →
    IsEntryGivenUp members H replica id ↔ IsFullyRemoved members H replica id

-- the replica holds the object, which is no orphan, and no entry that it holds after a collection leads to it or lies
-- in it
pub record IsLeftBehind (members : ℕ) (H : List Event) (replica : ℕ) (object : Id) : Type 0 where
  pub kind : Kind
  pub held : IsHeldObject members H replica object kind
  pub no_orphan : IsOrphan H (Knows H replica) object → ⊥
  pub unneeded : IsNeeded members (H ++ Collect replica ∷ []) replica object → ⊥

-- and exactly those objects
abbrev pub ObjectsGivenUp : Type 0
ObjectsGivenUp = (members : ℕ) (H : List Event) (replica : ℕ) (object : Id) →
    IsObjectGivenUp members H replica object ↔ IsLeftBehind members H replica object
