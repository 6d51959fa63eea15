-- The paths of a command.
use Rattle.std.specs.Prelude.{ℕ, ◌-◌, ◌==◌, ◌≤◌, Bool, true, false, if◌then◌else◌, List, [], ◌∷◌, length, drop, unwrap_or}
use Rattle.ficus_path.specs.declared.path.Base.{Base}
use Rattle.ficus_path.specs.declared.path.Base.TheVariants.{Root}
use Rattle.ficus_path.specs.declared.path.Part.{Part}
use Rattle.ficus_path.specs.declared.path.Path.{Path}
use Rattle.ficus_path.specs.Path.{path_from}
use Rattle.ficus_commands.specs.declared.change.Change.{Change}
use Rattle.ficus_commands.specs.declared.change.Change.TheVariants.{MkDir, Create, Symlink, Write, Settle, Resolve, Rm, Ln, Mv, Adopt, Discard}
use Rattle.ficus_commands.specs.declared.look.Look.{Look}
use Rattle.ficus_commands.specs.declared.look.Look.TheVariants.{Ls, Read, Versions, ReadLink, Tree, Conflicts, Orphans, Detached, Marks}
use Rattle.ficus_script.specs.Arguments.{Arguments}
use Rattle.ficus_script.specs.Arguments.{Nothing, OnePath, PathAndKind, PathAndText, TwoPaths, OneNumber, OneOrder, TwoReplicas, Arming}
use Rattle.ficus_script.specs.Command.{spelling_of}
use Rattle.ficus_script.specs.declared.command.Command.{Command}
use Rattle.ficus_script.specs.declared.command.Command.TheVariants as command

-- the paths among what stands behind a verb, in order
abbrev pub argument_paths : Arguments → List Path
argument_paths Nothing = []
argument_paths (OnePath path) = path ∷ []
argument_paths (PathAndKind path kind) = path ∷ []
argument_paths (PathAndText path text) = path ∷ []
argument_paths (TwoPaths first second) = first ∷ second ∷ []
argument_paths (OneNumber number) = []
argument_paths (OneOrder order) = []
argument_paths (TwoReplicas first second) = []
argument_paths (Arming by calls pick) = []

-- the paths of a command; an orphan is one, which has no part
abbrev pub paths_of : Command → List Path
paths_of command = argument_paths (spelling_of command).behind

-- the number of the replica that leads a command
abbrev pub actor_of : Command → ℕ
actor_of command = unwrap_or (spelling_of command).by 0

-- the paths name entries, or are new ones: what their last part names is meant itself
abbrev pub change_names_entries : Change → Bool
change_names_entries (MkDir path) = true
change_names_entries (Create path kind) = true
change_names_entries (Symlink path text) = true
change_names_entries (Write path text) = false
change_names_entries (Settle path text) = false
change_names_entries (Resolve path) = false
change_names_entries (Rm path) = true
change_names_entries (Ln from path) = true
change_names_entries (Mv from path) = true
change_names_entries (Adopt orphan path) = true
change_names_entries (Discard orphan) = false

abbrev pub names_entries : Command → Bool
names_entries (command.Change by change) = change_names_entries change
names_entries (command.Look by look) = false
names_entries (command.Collect by) = false
names_entries (command.Ask by to) = false
names_entries (command.Give mail) = false
names_entries (command.Pull by to) = false
names_entries (command.Alike by other) = false
names_entries (command.Restart by) = false
names_entries (command.Stop by calls pick) = false
names_entries (command.Sweep order) = false
names_entries (command.Why by) = false

-- how many parts of a path may lead to volumes: all, or all but the last
abbrev pub crossable : Bool → List Part → ℕ
crossable names parts = if names then length parts - 1 else length parts

module _ (f g : Path → Path) where
  -- the change with f of its only or first path, and g of its second, in their places; an orphan stays
  abbrev pub change_along : Change → Change
  change_along (MkDir path) = MkDir (f path)
  change_along (Create path kind) = Create (f path) kind
  change_along (Symlink path text) = Symlink (f path) text
  change_along (Write path text) = Write (f path) text
  change_along (Settle path text) = Settle (f path) text
  change_along (Resolve path) = Resolve (f path)
  change_along (Rm path) = Rm (f path)
  change_along (Ln from path) = Ln (f from) (g path)
  change_along (Mv from path) = Mv (f from) (g path)
  change_along (Adopt orphan path) = Adopt orphan (g path)
  change_along (Discard orphan) = Discard orphan

  -- the same of a look
  abbrev pub look_along : Look → Look
  look_along (Ls path) = Ls (f path)
  look_along (Read path) = Read (f path)
  look_along (Versions path) = Versions (f path)
  look_along (ReadLink path) = ReadLink (f path)
  look_along Tree = Tree
  look_along Conflicts = Conflicts
  look_along Orphans = Orphans
  look_along Detached = Detached
  look_along Marks = Marks

  -- the same of a command; one without a path stays
  abbrev pub along : Command → Command
  along (command.Change by change) = command.Change by (change_along change)
  along (command.Look by look) = command.Look by (look_along look)
  along (command.Collect by) = command.Collect by
  along (command.Ask by to) = command.Ask by to
  along (command.Give mail) = command.Give mail
  along (command.Pull by to) = command.Pull by to
  along (command.Alike by other) = command.Alike by other
  along (command.Restart by) = command.Restart by
  along (command.Stop by calls pick) = command.Stop by calls pick
  along (command.Sweep order) = command.Sweep order
  along (command.Why by) = command.Why by

-- the command with these paths in the place of its own
abbrev pub with_paths : Path → Path → Command → Command
with_paths one other command = along (λ path. one) (λ path. other) command

-- where what is left of a path begins, behind so many parts
abbrev pub base_behind : ℕ → Base → Base
base_behind passed base = if passed == 0 then base else Root

-- what is left of it
abbrev pub rest_behind : ℕ → Path → Path
rest_behind passed path = path_from (base_behind passed path.base) (drop passed path.parts)

-- so many parts were passed at most as may lead to volumes
abbrev pub ArePassed : Bool → ℕ → ℕ → List Path → Type 0
ArePassed names first second [] = Unit {0}
ArePassed names first second (path ∷ []) = first ≤ crossable names path.parts
ArePassed names first second (path ∷ other ∷ more) =
    (first ≤ crossable names path.parts) × (second ≤ crossable names other.parts)
