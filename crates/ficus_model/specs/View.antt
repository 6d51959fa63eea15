-- What a set of known positions of a history shows of a volume.
use Rattle.std.specs.Prelude.{◌≡◌, ◌⊎◌, ◌↔◌, ℕ, Bool, List}
use Rattle.ficus_ids.specs.declared.id.Id.{Id}
use Rattle.ficus_ids.specs.declared.id.TheConstants.{ROOT}
use Rattle.ficus_ids.specs.declared.kind.Kind.{Kind}
use Rattle.ficus_ids.specs.declared.kind.Kind.TheVariants.{Dir}
use Rattle.ficus_model.specs.declared.event.Event.{Event}
use Rattle.ficus_model.specs.Live.{IsBound, HasName, HasInside, IsMade, IsFile, IsDirectory}
use Rattle.ficus_model.specs.Reached.{IsReached, Leads}
use Rattle.ficus_model.specs.ShownNames.{HasOther, IsShownAs}
use Rattle.ficus_model.specs.Versions.{IsShown, IsUncovered, IsInConflict}

-- a directory in which a live entry lies
pub record IsFilled (H : List Event) (U : ℕ → Type 0) (object : Id) : Type 0 where
  pub made : IsMade H U object Dir
  pub inside : HasInside H U object

-- a file with a version that no known Remove or Discard of it had heard of
pub record HasUnseen (H : List Event) (U : ℕ → Type 0) (object : Id) : Type 0 where
  pub is_file : IsFile H U object
  pub position : ℕ
  pub uncovered : IsUncovered H U object position

-- An orphan: a known object without a live name that still has something to keep. The idea of an orphanage is
-- from Ficus; what belongs into it is this project's own.
pub record IsOrphan (H : List Event) (U : ℕ → Type 0) (object : Id) : Type 0 where
  pub nameless : HasName H U object → ⊥
  pub kept : IsFilled H U object ⊎ HasUnseen H U object

-- the root, or an orphan
abbrev pub IsTop : List Event → (ℕ → Type 0) → Id → Type 0
IsTop H U object = (object ≡ ROOT) ⊎ IsOrphan H U object

-- in reach: reached from the root or from an orphan
abbrev pub IsInReach : List Event → (ℕ → Type 0) → Id → Type 0
IsInReach H U object = IsReached (Leads H U) (IsTop H U) object

-- a directory that is in reach
pub record IsReachedDirectory (H : List Event) (U : ℕ → Type 0) (object : Id) : Type 0 where
  pub directory : IsDirectory H U object
  pub reached : IsInReach H U object

-- a file that is in reach
pub record IsReachedFile (H : List Event) (U : ℕ → Type 0) (object : Id) : Type 0 where
  pub is_file : IsFile H U object
  pub reached : IsInReach H U object

-- a detached directory has a live name and isn't in reach
pub record IsDetached (H : List Event) (U : ℕ → Type 0) (object : Id) : Type 0 where
  pub made : IsMade H U object Dir
  pub named : HasName H U object
  pub apart : IsInReach H U object → ⊥

-- an object that is shown: it has a live name or is an orphan
abbrev pub IsVisible : List Event → (ℕ → Type 0) → Id → Type 0
IsVisible H U object = HasName H U object ⊎ IsOrphan H U object

-- a name of a directory, as it is shown, with the kind of the object that it leads to
pub record ShowsName (H : List Event) (U : ℕ → Type 0)
    (dir : Id) (name : List ℕ) (target : Id) (suffixed : Bool) (kind : Kind) : Type 0 where
  pub shown : IsShownAs (IsBound H U dir) name target suffixed
  pub made : IsMade H U target kind

-- a name in conflict: in the directory it leads to several objects
pub record IsShared (H : List Event) (U : ℕ → Type 0) (dir : Id) (name : List ℕ) : Type 0 where
  pub target : Id
  pub bound : IsBound H U dir name target
  pub several : HasOther (IsBound H U dir) name target

-- a file in conflict that is shown
pub record ShowsConflict (H : List Event) (U : ℕ → Type 0) (file : Id) : Type 0 where
  pub visible : IsVisible H U file
  pub conflict : IsInConflict H U file

-- a version of a file that is shown
pub record ShowsVersion (H : List Event) (U : ℕ → Type 0) (file : Id) (position : ℕ) : Type 0 where
  pub visible : IsVisible H U file
  pub shown : IsShown H U file position

-- two sets of known positions of one history have the same view: the same names with the kinds of what they lead
-- to, the same names and files in conflict, versions, orphans and detached directories
pub record ViewSame (H : List Event) (U V : ℕ → Type 0) : Type 0 where
  pub names : (dir : Id) (name : List ℕ) (target : Id) (suffixed : Bool) (kind : Kind) →
      ShowsName H U dir name target suffixed kind ↔ ShowsName H V dir name target suffixed kind
  pub shared : (dir : Id) (name : List ℕ) → IsShared H U dir name ↔ IsShared H V dir name
  pub conflicts : (file : Id) → ShowsConflict H U file ↔ ShowsConflict H V file
  pub versions : (file : Id) (position : ℕ) → ShowsVersion H U file position ↔ ShowsVersion H V file position
  pub orphans : (object : Id) → IsOrphan H U object ↔ IsOrphan H V object
  pub detached : (object : Id) → IsDetached H U object ↔ IsDetached H V object
