-- Which values are paths, and which paths name an entry.
use Rattle.std.specs.Prelude.{codes, ℕ, ◌≡◌, ◌≢◌, ◌≤◌, ◌<◌, ◌^◌, List, [], ◌∷◌, ◌++◌, length, All, None, IfSome}
use Rattle.ficus_ids.specs.declared.id.Id.{Id}
use Rattle.ficus_ids.specs.Name.{IsName}
use Rattle.ficus_path.specs.declared.path.Base.{Base}
use Rattle.ficus_path.specs.declared.path.Base.TheVariants.{Root, Orphan}
use Rattle.ficus_path.specs.declared.path.Part.{Part}
use Rattle.ficus_path.specs.declared.path.Path.{Path}
use Rattle.ficus_path.specs.declared.path.PathFault.{PathFault}
use Rattle.ficus_path.specs.declared.path.PathFault.TheVariants.{NotPath, Memory}

-- an identifier that a replica may have issued
pub record IsIssued (id : Id) : Type 0 where
  pub from_first : 1 ≤ id.replica
  pub to_last : id.replica ≤ 8
  pub numbered : 1 ≤ id.number
  pub fits : id.number < 2 ^ 32

pub record IsPart (part : Part) : Type 0 where
  pub name : IsName part.name
  pub target : IfSome part.target IsIssued

-- the root, or an orphan of such an identifier
abbrev pub IsBase : Base → Type 0
IsBase Root = Unit {0}
IsBase (Orphan id) = IsIssued id

pub record IsPath (path : Path) : Type 0 where
  pub base : IsBase path.base
  pub within_limit : length path.parts ≤ 32
  pub each : All IsPart path.parts

-- what stands where no part does
abbrev pub blank : Part
blank = record { name = []; target = None }

-- the path from the base through the parts
abbrev pub path_from : Base → List Part → Path
path_from base parts = record { base = base; parts = parts }

-- the path that begins at the orphan, and has no part
abbrev pub at_orphan : Id → Path
at_orphan orphan = record { base = Orphan orphan; parts = [] }

-- the path has a part
abbrev pub IsEntry : Path → Type 0
IsEntry path = path.parts ≢ []

-- the path has a part, and its last one has no target
abbrev pub IsNew : Path → Type 0
IsNew path = (front : List Part) × (last : Part) × (path.parts ≡ front ++ last ∷ []) × (last.target ≡ None)

-- how a fault is written
abbrev pub fault_text : PathFault → List ℕ
fault_text NotPath = codes "not a path"
fault_text Memory = codes "memory"
