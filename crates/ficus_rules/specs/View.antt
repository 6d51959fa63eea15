-- What a replica shows, whether its tables say it or the history that it has heard of.
use Rattle.std.specs.Prelude.{◌≡◌, ◌↔◌, ◌⊎◌, ℕ, ◌+◌, ◌<◌, ◌≤◌, List}
use Rattle.ficus_ids.specs.declared.id.Id.{Id}
use Rattle.ficus_ids.specs.declared.id.TheConstants.{ROOT}
use Rattle.ficus_ids.specs.Kind.{sort_of}
use Rattle.ficus_ids.specs.declared.kind.Kind.{Kind}
use Rattle.ficus_ids.specs.declared.kind.Kind.TheVariants.{Dir}
use Rattle.ficus_ids.specs.declared.kind.Sort.{Sort}
use Rattle.ficus_file.specs.declared.version.Version.{Version}
use Rattle.ficus_model.specs.declared.event.Event.{Event}
use Rattle.ficus_model.specs.Events.{count_of}
use Rattle.ficus_model.specs.Held.{IsHeldEntry}
use Rattle.ficus_model.specs.Known.{Knows}
use Rattle.ficus_model.specs.Lawful.{Volume}
use Rattle.ficus_model.specs.Live.{ModelEntry, IsLive, IsMade}
use Rattle.ficus_model.specs.Reached.{IsReached}
use Rattle.ficus_model.specs.Versions.{IsInConflict, written_of}
use Rattle.ficus_model.specs.View.{IsOrphan, IsVisible}
use Rattle.ficus_removal_laws.specs.Marks.{IsMarked}
use Rattle.ficus_file_laws.specs.Items.{AreVersionsOf}

-- How many members there are; the live entries; the orphans; of each visible object, one to which a live entry leads or
-- an orphan, its kind, whether it is in conflict, and its versions in the order of vectors, none of a directory; the
-- removed entries that are held, each with the set of the members that are known to know of its removal and the set of
-- those that are known to know that all know of it; whether all updates are made that may be made; and whether so many
-- bytes more are more than may be written.
pub record View : Type 1 where
  pub members : ℕ
  pub live : ModelEntry → Type 0
  pub orphans : Id → Type 0
  pub kinds : Id → Kind → Type 0
  pub conflicts : Id → Type 0
  pub versions : Id → List Version → Type 0
  pub marks : ModelEntry → ℕ → ℕ → Type 0
  pub spent : Type 0
  pub over_quota : ℕ → Type 0

-- both show the same live entries and the same visible objects
pub record SameShown (one other : View) : Type 0 where
  pub members : one.members ≡ other.members
  pub live : (entry : ModelEntry) → one.live entry ↔ other.live entry
  pub orphans : (object : Id) → one.orphans object ↔ other.orphans object
  pub kinds : (object : Id) (kind : Kind) → one.kinds object kind ↔ other.kinds object kind
  pub conflicts : (object : Id) → one.conflicts object ↔ other.conflicts object
  pub versions : (object : Id) (versions : List Version) →
      one.versions object versions ↔ other.versions object versions

-- both show the same, what is known of removed entries is the same, and so is what is left to do
pub record SameView (one other : View) : Type 0 where
  pub shown : SameShown one other
  pub marks : (entry : ModelEntry) (knowing knowing_all_know : ℕ) →
      one.marks entry knowing knowing_all_know ↔ other.marks entry knowing knowing_all_know
  pub spent : one.spent ↔ other.spent
  pub over_quota : (bytes : ℕ) → one.over_quota bytes ↔ other.over_quota bytes

-- a live entry leads to the object
pub record IsNamedIn (view : View) (object : Id) : Type 0 where
  pub entry : ModelEntry
  pub live : view.live entry
  pub leads : entry.target ≡ object

-- a live entry leads to the object, or it is an orphan
abbrev pub IsVisibleIn : View → Id → Type 0
IsVisibleIn view object = IsNamedIn view object ⊎ view.orphans object

-- a live entry of the directory has the name and leads to the object
pub record IsBoundIn (view : View) (dir : Id) (name : List ℕ) (target : Id) : Type 0 where
  pub entry : ModelEntry
  pub live : view.live entry
  pub in_dir : entry.dir ≡ dir
  pub named : entry.name ≡ name
  pub leads : entry.target ≡ target

-- a live entry of the directory has the name
abbrev pub IsTakenIn : View → Id → List ℕ → Type 0
IsTakenIn view dir name = (target : Id) × IsBoundIn view dir name target

-- the root, or an object that is a directory
abbrev pub IsDirectoryIn : View → Id → Type 0
IsDirectoryIn view object = (object ≡ ROOT) ⊎ view.kinds object Dir

-- the object is of a kind for this
pub record IsForIn (view : View) (sort : Sort) (object : Id) : Type 0 where
  pub kind : Kind
  pub of_kind : view.kinds object kind
  pub is : sort_of kind ≡ sort

-- a live entry of the directory leads to the object, under some name
abbrev pub LeadsWithin : View → Id → Id → Type 0
LeadsWithin view dir object = (name : List ℕ) × IsBoundIn view dir name object

-- the start, or reached from there along live entries
abbrev pub IsReachedFromIn : View → Id → Id → Type 0
IsReachedFromIn view start object = IsReached (LeadsWithin view) (λ base. base ≡ start) object

-- reached from the root
abbrev pub IsReachedIn : View → Id → Type 0
IsReachedIn view object = IsReachedFromIn view ROOT object

-- in reach: reached from the root or from an orphan
abbrev pub IsInReachIn : View → Id → Type 0
IsInReachIn view object = IsReached (LeadsWithin view) (λ top. (top ≡ ROOT) ⊎ view.orphans top) object

-- the object is a directory, and the other is it or lies below it, however deep
pub record IsWithinIn (view : View) (object other : Id) : Type 0 where
  pub directory : IsDirectoryIn view object
  pub reached : IsReachedFromIn view object other

-- what the replica shows after the history, by what it has heard of
abbrev pub history_view : Volume → List Event → ℕ → View
history_view volume H replica =
    let U = Knows H replica in
    record {
      members = volume.members;
      live = IsLive H U;
      orphans = IsOrphan H U;
      kinds = λ object kind. IsVisible H U object × IsMade H U object kind;
      conflicts = λ object. IsVisible H U object × IsInConflict H U object;
      versions = λ object versions. IsVisible H U object × AreVersionsOf H U object versions;
      marks = λ entry knowing knowing_all_know. IsHeldEntry volume.members H replica entry ×
          IsMarked volume.members H replica entry.id knowing knowing_all_know;
      spent = volume.ids ≤ count_of replica H;
      over_quota = λ bytes. volume.bytes < written_of replica H + bytes;
    }
