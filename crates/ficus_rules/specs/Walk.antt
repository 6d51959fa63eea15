-- Walks along paths, over what is shown.
use Rattle.std.specs.Prelude.{ℕ, ◌-◌, List, [], ◌∷◌, length, take, Option, Some, None, Result}
use Rattle.std.specs.List.{last_or}
use Rattle.ficus_ids.specs.declared.id.Id.{Id}
use Rattle.ficus_ids.specs.declared.id.TheConstants.{ROOT}
use Rattle.ficus_ids.specs.declared.kind.Sort.TheVariants.{Fixed}
use Rattle.ficus_ids.specs.declared.refusal.Refusal.{Refusal}
use Rattle.ficus_ids.specs.declared.refusal.Refusal.TheVariants.{NotDir, IsDir, IsLink, NotLink, NotOrphan}
use Rattle.ficus_path.specs.declared.path.Base.{Base}
use Rattle.ficus_path.specs.declared.path.Base.TheVariants.{Root, Orphan}
use Rattle.ficus_path.specs.declared.path.Part.{Part}
use Rattle.ficus_path.specs.declared.path.Path.{Path}
use Rattle.ficus_names.specs.Find.{FindAnswer}
use Rattle.ficus_rules.specs.Rule.{Then, Unless, Where, Gives}
use Rattle.ficus_rules.specs.View.{View, IsBoundIn, IsDirectoryIn, IsForIn}

-- the object at which a walk begins: the root, or the orphan with this identifier
abbrev pub BaseRule : View → Base → Result Id Refusal → Type 0
BaseRule view Root = Gives ROOT
BaseRule view (Orphan id) = Where (view.orphans id) NotOrphan (Gives id)

-- for each part the object so far has to be a directory, and then the part is looked up in it
abbrev pub PartsRule : View → List Part → Id → Result Id Refusal → Type 0
PartsRule view [] object = Gives object
PartsRule view (part ∷ parts) object =
    Where (IsDirectoryIn view object) NotDir (
    Then (FindAnswer (IsBoundIn view object) part.name part.target) (PartsRule view parts))

-- the object to which parts lead from a base
abbrev pub WalkRule : View → Base → List Part → Result Id Refusal → Type 0
WalkRule view base parts = Then (BaseRule view base) (PartsRule view parts)

-- the same where that object has to be a directory
abbrev pub DirectoryRule : View → Base → List Part → Result Id Refusal → Type 0
DirectoryRule view base parts =
    Then (WalkRule view base parts) (λ object.
    Where (IsDirectoryIn view object) NotDir (Gives object))

-- the directory of a new path: the walk without the last part
abbrev pub ParentRule : View → Path → Result Id Refusal → Type 0
ParentRule view path = DirectoryRule view path.base (take (length path.parts - 1) path.parts)

-- the file at a path: the walk, where it doesn't lead to a directory
abbrev pub FileRule : View → Path → Result Id Refusal → Type 0
FileRule view path =
    Then (WalkRule view path.base path.parts) (λ object.
    Unless (IsDirectoryIn view object) IsDir (Gives object))

-- the file at a path whose versions change: the file there, where it isn't a symbolic link
abbrev pub VersionedRule : View → Path → Result Id Refusal → Type 0
VersionedRule view path =
    Then (FileRule view path) (λ file.
    Unless (IsForIn view Fixed file) IsLink (Gives file))

-- the symbolic link at a path: the walk, where it leads to one
abbrev pub FixedRule : View → Path → Result Id Refusal → Type 0
FixedRule view path =
    Then (WalkRule view path.base path.parts) (λ object.
    Where (IsForIn view Fixed object) NotLink (Gives object))

-- the directory of an entry, and the object to which the entry leads
pub record Found : Type 0 where
  pub dir : Id
  pub object : Id

-- the target of the part, where it has one
abbrev pub target_of : Option Part → Option Id
target_of None = None
target_of (Some part) = part.target

-- the target of the last part
abbrev pub last_target : Path → Option Id
last_target path = target_of (last_or None path.parts)

-- the name of the part, where there is one
abbrev pub name_of : Option Part → List ℕ
name_of None = []
name_of (Some part) = part.name

-- the name of the last part
abbrev pub last_name : Path → List ℕ
last_name path = name_of (last_or None path.parts)

-- the entry at a path: the walk without the last part, which is then looked up in the directory
abbrev pub EntryRule : View → Path → Result Found Refusal → Type 0
EntryRule view path =
    Then (ParentRule view path) (λ dir.
    Then (FindAnswer (IsBoundIn view dir) (last_name path) (last_target path)) (λ object.
    Gives (record { dir = dir; object = object })))

-- where an object that gets a new path is found, and the directory of that path
pub record Places : Type 0 where
  pub found : Found
  pub dir : Id

-- the walk to the entry at the one path; the parent walk of the new one
abbrev pub PlacesRule : View → Path → Path → Result Places Refusal → Type 0
PlacesRule view from path =
    Then (EntryRule view from) (λ found.
    Then (ParentRule view path) (λ dir.
    Gives (record { found = found; dir = dir })))
