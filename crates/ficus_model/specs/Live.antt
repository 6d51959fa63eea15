-- What a set of known positions of a history shows: entries, the objects that they name, and what is alive.
-- `U` says which positions are known; what stands there says the history.
use Rattle.std.specs.Prelude.{◌≡◌, ◌≢◌, ◌⊎◌, ℕ, List, [], ◌∷◌, Option, Some, None, Contains, codes}
use Rattle.ficus_ids.specs.declared.id.Id.{Id}
use Rattle.ficus_ids.specs.Kind.{sort_of}
use Rattle.ficus_ids.specs.declared.kind.Kind.{Kind}
use Rattle.ficus_ids.specs.declared.kind.Kind.TheVariants.{Dir}
use Rattle.ficus_ids.specs.declared.kind.Sort.TheVariants.{Versioned}
use Rattle.ficus_ids.specs.declared.id.TheConstants.{ROOT, ATTIC}
use Rattle.ficus_model.specs.declared.event.Event.{Event}
use Rattle.ficus_model.specs.declared.event.Op.{Op}
use Rattle.ficus_model.specs.declared.event.Op.TheVariants.{Make, Link, Remove, Move, Write, Settle, Resolve, Adopt, Discard}
use Rattle.ficus_model.specs.Events.{IsUpdate}

-- an entry of a directory: its identifier, the directory, the name, and the object that it names
pub record ModelEntry : Type 0 where
  pub id : Id
  pub dir : Id
  pub name : List ℕ
  pub target : Id

-- the entry with these parts
abbrev pub entry_of : Id → Id → List ℕ → Id → ModelEntry
entry_of id dir name target = record { id = id; dir = dir; name = name; target = target }

-- the entry that the update with this number enters, if it enters one
abbrev pub entered_by : Id → Op → Option ModelEntry
entered_by number (Make dir name kind text) = Some (entry_of number dir name number)
entered_by number (Link dir name target) = Some (entry_of number dir name target)
entered_by number (Remove entries target) = None
entered_by number (Move entries dir name target) = Some (entry_of number dir name target)
entered_by number (Write file bytes) = None
entered_by number (Settle file bytes) = None
entered_by number (Resolve file bytes) = None
entered_by number (Adopt file dir name) = Some (entry_of number dir name file)
entered_by number (Discard file) = Some (entry_of number ATTIC (codes "discarded") file)

-- the entries that the update with this number removes: a Discard removes the one that it enters
abbrev pub removed_by : Id → Op → List Id
removed_by number (Make dir name kind text) = []
removed_by number (Link dir name target) = []
removed_by number (Remove entries target) = entries
removed_by number (Move entries dir name target) = entries
removed_by number (Write file bytes) = []
removed_by number (Settle file bytes) = []
removed_by number (Resolve file bytes) = []
removed_by number (Adopt file dir name) = []
removed_by number (Discard file) = number ∷ []

-- a known update enters this entry
pub record IsEntered (H : List Event) (U : ℕ → Type 0) (entry : ModelEntry) : Type 0 where
  pub position : ℕ
  pub op : Op
  pub known : U position
  pub update : IsUpdate H position entry.id op
  pub enters : entered_by entry.id op ≡ Some entry

-- a known update removes this entry
pub record IsRemoved (H : List Event) (U : ℕ → Type 0) (entry : Id) : Type 0 where
  pub position : ℕ
  pub number : Id
  pub op : Op
  pub known : U position
  pub update : IsUpdate H position number op
  pub removes : Contains (removed_by number op) entry

-- entered, and not removed
pub record IsLive (H : List Event) (U : ℕ → Type 0) (entry : ModelEntry) : Type 0 where
  pub entered : IsEntered H U entry
  pub not_removed : IsRemoved H U entry.id → ⊥

-- a live entry of the directory has the name and leads to the object
pub record IsBound (H : List Event) (U : ℕ → Type 0) (dir : Id) (name : List ℕ) (target : Id) : Type 0 where
  pub entry : ModelEntry
  pub live : IsLive H U entry
  pub in_dir : entry.dir ≡ dir
  pub named : entry.name ≡ name
  pub leads : entry.target ≡ target

-- the live entry with this identifier lies in the directory, has the name and leads to the object
pub record IsBoundBy (H : List Event) (U : ℕ → Type 0) (id dir : Id) (name : List ℕ) (target : Id) : Type 0 where
  pub bound : IsBound H U dir name target
  pub by : bound.entry.id ≡ id

-- a live entry of the directory has the name
abbrev pub IsTaken : List Event → (ℕ → Type 0) → Id → List ℕ → Type 0
IsTaken H U dir name = (target : Id) × IsBound H U dir name target

-- the object has a live name: a live entry leads to it
pub record HasName (H : List Event) (U : ℕ → Type 0) (object : Id) : Type 0 where
  pub entry : ModelEntry
  pub live : IsLive H U entry
  pub leads : entry.target ≡ object

-- a live entry lies in the directory
pub record HasInside (H : List Event) (U : ℕ → Type 0) (dir : Id) : Type 0 where
  pub entry : ModelEntry
  pub live : IsLive H U entry
  pub in_dir : entry.dir ≡ dir

-- a known update makes this object, of this kind
pub record IsMade (H : List Event) (U : ℕ → Type 0) (object : Id) (kind : Kind) : Type 0 where
  pub position : ℕ
  pub dir : Id
  pub name : List ℕ
  pub text : List ℕ
  pub known : U position
  pub update : IsUpdate H position object (Make dir name kind text)

-- the root, or an object that was made as a directory
abbrev pub IsDirectory : List Event → (ℕ → Type 0) → Id → Type 0
IsDirectory H U object = (object ≡ ROOT) ⊎ IsMade H U object Dir

-- an object that was made as one whose versions change
pub record IsVersioned (H : List Event) (U : ℕ → Type 0) (object : Id) : Type 0 where
  pub kind : Kind
  pub made : IsMade H U object kind
  pub changes : sort_of kind ≡ Versioned

-- an object that was made as anything but a directory
pub record IsFile (H : List Event) (U : ℕ → Type 0) (object : Id) : Type 0 where
  pub kind : Kind
  pub made : IsMade H U object kind
  pub other : kind ≢ Dir
