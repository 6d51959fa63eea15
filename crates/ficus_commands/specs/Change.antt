-- What holds of the changes for which a replica may be asked.
use Rattle.std.specs.Prelude.{ℕ, ◌≤◌, List, [], length}
use Rattle.ficus_ids.specs.Kind.{FitsKind}
use Rattle.ficus_ids.specs.declared.kind.Kind.{Kind}
use Rattle.ficus_path.specs.Path.{IsEntry, IsNew}
use Rattle.ficus_path.specs.declared.path.Path.{Path}
use Rattle.ficus_commands.specs.declared.change.Change.{Change}
use Rattle.ficus_commands.specs.declared.change.Change.TheVariants.{MkDir, Create, Symlink, Write, Settle, Resolve, Rm, Ln, Mv, Adopt, Discard}

-- what is created has no text, and may have none
pub record IsCreated (path : Path) (kind : Kind) : Type 0 where
  pub new : IsNew path
  pub without : FitsKind kind []

-- a symbolic link has some
pub record IsLinked (path : Path) (text : List ℕ) : Type 0 where
  pub new : IsNew path
  pub some : 1 ≤ length text

-- each path is of the sort that the change takes there: a name to be given is a new path, the entry to be removed,
-- linked or moved is the path of an entry, and a file to be written may be at any path; and what is
-- made has a text exactly where it is a symbolic link
abbrev pub HasFitPaths : Change → Type 0
HasFitPaths (MkDir path) = IsNew path
HasFitPaths (Create path kind) = IsCreated path kind
HasFitPaths (Symlink path text) = IsLinked path text
HasFitPaths (Write path text) = Unit {0}
HasFitPaths (Settle path text) = Unit {0}
HasFitPaths (Resolve path) = Unit {0}
HasFitPaths (Rm path) = IsEntry path
HasFitPaths (Ln from path) = IsEntry from × IsNew path
HasFitPaths (Mv from path) = IsEntry from × IsNew path
HasFitPaths (Adopt orphan path) = IsNew path
HasFitPaths (Discard orphan) = Unit {0}
