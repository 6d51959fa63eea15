-- What is left of commands whose paths lead elsewhere.
use Rattle.std.proofs.Common.{◌≡◌, ℕ, ◌-◌, ◌≤◌, [], ◌∷◌, length, take, drop, refl, ap, ◌∙◌, subst, inl, inr, arith}
use Rattle.std.specs.Prelude.{◌==◌}
use Rattle.std.proofs.lemmas.Bool.{cases_Bool}
use Rattle.std.proofs.lemmas.List.{drop-append-le, length-append, length-drop, length-take, nil_from_length}
use Rattle.std.proofs.lemmas.List.Elements.{All-drop, All-take}
use Rattle.ficus_path.specs.declared.path.Base.{Base}
use Rattle.ficus_path.specs.declared.path.Path.{Path}
use Rattle.ficus_path.specs.Path.{IsBase, IsEntry, IsNew, IsPart, IsPath, path_from}
use Rattle.ficus_commands.specs.declared.change.Change.TheVariants.{MkDir, Create, Symlink, Write, Settle, Resolve, Rm, Ln, Mv, Adopt, Discard}
use Rattle.ficus_commands.specs.declared.look.Look.TheVariants.{Ls, Read, Versions, ReadLink, Tree, Conflicts, Orphans, Detached, Marks}
use Rattle.ficus_script.specs.Command.{IsCommand, IsStep, spelling_of}
use Rattle.ficus_script.specs.declared.command.Command.{Command}
use Rattle.ficus_script.specs.declared.command.Command.TheVariants as command
use Rattle.ficus_runs.specs.Traits.{OpensDisks}
use Rattle.ficus_world.specs.Follows.{TellsFor}
use Rattle.ficus_script.specs.Arguments.{Arguments}
use Rattle.ficus_script.specs.Arguments.{Nothing, OnePath, PathAndKind, PathAndText, TwoPaths, OneNumber, OneOrder, TwoReplicas, Arming}
use Rattle.ficus_script.specs.Arguments.{AreArguments}
use Rattle.ficus_top.specs.declared.graft.courses.Course.{Course}
use Rattle.ficus_top.specs.declared.graft.courses.Courses.TheVariants as courses
use Rattle.ficus_top.specs.Graft.Courses.{AreCourses}
use Rattle.ficus_top.specs.Graft.Following.{course_path}
use Rattle.ficus_top.specs.Graft.Paths.{ArePassed, along, argument_paths, base_behind, names_entries, paths_of, rest_behind, with_paths}

-- what is left of a path
pub base_behind_is : (passed : ℕ) (base : Base) → IsBase base → IsBase (base_behind passed base)
base_behind_is passed base is = elim (cases_Bool (passed == 0)) [
  | inl none ↦ rw none is
  | inr some ↦ rw some tt
]

pub path_behind : (passed : ℕ) (path : Path) → IsPath path → IsPath (rest_behind passed path)
path_behind passed path is = record {
  base = base_behind_is passed path.base is.base;
  within_limit = omega (arith, is.within_limit, length-drop passed path.parts);
  each = All-drop IsPart passed path.parts is.each;
}

pub new_behind : (passed : ℕ) (path : Path) → IsNew path → passed ≤ length path.parts - 1 → IsNew (rest_behind passed path)
new_behind passed path (front, last, is, free) few =
    let within : passed ≤ length front = omega (arith, ap length is, length-append front (last ∷ [])) in
    (drop passed front, last, ap (drop passed) is ∙ drop-append-le passed front (last ∷ []) within, free)

pub entry_behind : (passed : ℕ) (path : Path) → IsEntry path → passed ≤ length path.parts - 1
    → IsEntry (rest_behind passed path)
entry_behind passed path some few none =
    some (nil_from_length path.parts (omega (arith, length-drop passed path.parts, ap length none)))

-- a part of a path
pub part_path : (n passed : ℕ) (path : Path) → IsPath path
    → IsPath (path_from (base_behind passed path.base) (take n (drop passed path.parts)))
part_path n passed path is = record {
  base = base_behind_is passed path.base is.base;
  within_limit = omega (arith, is.within_limit, length-drop passed path.parts, length-take n (drop passed path.parts));
  each = All-take IsPart n (drop passed path.parts) (All-drop IsPart passed path.parts is.each);
}

-- the paths of a command are paths
arguments_paths : (it : Arguments) (path other : Path) → AreArguments it → argument_paths it ≡ path ∷ other ∷ []
    → IsPath path × IsPath other
arguments_paths Nothing path other are is = cc
arguments_paths (OnePath own) path other are is = cc
arguments_paths (PathAndKind own kind) path other are is = cc
arguments_paths (PathAndText own text) path other are is = cc
arguments_paths (TwoPaths first second) path other are is =
    let one : first ≡ path = cc in
    let two : second ≡ other = cc in
    (subst IsPath one are.0, subst IsPath two are.1)
arguments_paths (OneNumber number) path other are is = cc
arguments_paths (OneOrder order) path other are is = cc
arguments_paths (TwoReplicas first second) path other are is = cc
arguments_paths (Arming by calls pick) path other are is = cc

pub second_path : (it : Command) (by : ℕ) (first second : Course) → IsCommand it
    → AreCourses it (courses.Two by first second) → IsPath (course_path second)
second_path it by first second is (actor, path, other, paths, one, two) =
    subst IsPath two.is (arguments_paths (spelling_of it).behind path other is.behind paths).1

-- it is a command
pub command_behind : (first second : ℕ) (it : Command) → IsCommand it
    → ArePassed (names_entries it) first second (paths_of it)
    → IsCommand (along (rest_behind first) (rest_behind second) it)
command_behind first second (command.Change by (MkDir path)) is passed = record {
  number = is.number;
  behind = path_behind first path is.behind;
  takes = new_behind first path is.takes passed;
}
command_behind first second (command.Change by (Create path kind)) is passed = record {
  number = is.number;
  behind = (path_behind first path is.behind.0, is.behind.1);
  takes = record { new = new_behind first path is.takes.new passed; without = is.takes.without };
}
command_behind first second (command.Change by (Symlink path text)) is passed = record {
  number = is.number;
  behind = (path_behind first path is.behind.0, is.behind.1);
  takes = record { new = new_behind first path is.takes.new passed; some = is.takes.some };
}
command_behind first second (command.Change by (Write path text)) is passed = record {
  number = is.number;
  behind = (path_behind first path is.behind.0, is.behind.1);
  takes = tt;
}
command_behind first second (command.Change by (Settle path text)) is passed = record {
  number = is.number;
  behind = (path_behind first path is.behind.0, is.behind.1);
  takes = tt;
}
command_behind first second (command.Change by (Resolve path)) is passed = record {
  number = is.number;
  behind = path_behind first path is.behind;
  takes = tt;
}
command_behind first second (command.Change by (Rm path)) is passed = record {
  number = is.number;
  behind = path_behind first path is.behind;
  takes = entry_behind first path is.takes passed;
}
command_behind first second (command.Change by (Ln from path)) is passed = record {
  number = is.number;
  behind = (path_behind first from is.behind.0, path_behind second path is.behind.1);
  takes = (entry_behind first from is.takes.0 passed.0, new_behind second path is.takes.1 passed.1);
}
command_behind first second (command.Change by (Mv from path)) is passed = record {
  number = is.number;
  behind = (path_behind first from is.behind.0, path_behind second path is.behind.1);
  takes = (entry_behind first from is.takes.0 passed.0, new_behind second path is.takes.1 passed.1);
}
command_behind first second (command.Change by (Adopt orphan path)) is passed = record {
  number = is.number;
  behind = (is.behind.0, path_behind second path is.behind.1);
  takes = new_behind second path is.takes passed.1;
}
command_behind first second (command.Change by (Discard orphan)) is passed = is
command_behind first second (command.Look by (Ls path)) is passed = record {
  number = is.number;
  behind = path_behind first path is.behind;
  takes = tt;
}
command_behind first second (command.Look by (Read path)) is passed = record {
  number = is.number;
  behind = path_behind first path is.behind;
  takes = tt;
}
command_behind first second (command.Look by (Versions path)) is passed = record {
  number = is.number;
  behind = path_behind first path is.behind;
  takes = tt;
}
command_behind first second (command.Look by (ReadLink path)) is passed = record {
  number = is.number;
  behind = path_behind first path is.behind;
  takes = tt;
}
command_behind first second (command.Look by Tree) is passed = is
command_behind first second (command.Look by Conflicts) is passed = is
command_behind first second (command.Look by Orphans) is passed = is
command_behind first second (command.Look by Detached) is passed = is
command_behind first second (command.Look by Marks) is passed = is
command_behind first second (command.Collect by) is passed = is
command_behind first second (command.Ask by to) is passed = is
command_behind first second (command.Give mail) is passed = is
command_behind first second (command.Pull by to) is passed = is
command_behind first second (command.Alike by other) is passed = is
command_behind first second (command.Restart by) is passed = is
command_behind first second (command.Stop by calls pick) is passed = is
command_behind first second (command.Sweep order) is passed = is
command_behind first second (command.Why by) is passed = is

module _ (f g : Path → Path) where
  -- it is a step of a world, as before, and opens no disks that it didn't
  record IsSuch (it : Command) : Type 0 where
    step : IsStep it → IsStep (along f g it)
    opens : OpensDisks (along f g it) → OpensDisks it

  such_along : (it : Command) → IsSuch it
  such_along (command.Change by change) = record { step = λ is. is; opens = λ is. is }
  such_along (command.Look by look) = record { step = λ is. is; opens = λ is. is }
  such_along (command.Collect by) = record { step = λ is. is; opens = λ is. is }
  such_along (command.Ask by to) = record { step = λ is. is; opens = λ is. is }
  such_along (command.Give mail) = record { step = λ is. is; opens = λ is. is }
  such_along (command.Pull by to) = record { step = λ is. is; opens = λ is. is }
  such_along (command.Alike by other) = record { step = λ is. is; opens = λ is. is }
  such_along (command.Restart by) = record { step = λ is. is; opens = λ is. is }
  such_along (command.Stop by calls pick) = record { step = λ is. is; opens = λ is. is }
  such_along (command.Sweep order) = record { step = λ is. is; opens = λ is. is }
  such_along (command.Why by) = record { step = λ is. is; opens = λ is. is }

  pub step_along : (it : Command) → IsStep it → IsStep (along f g it)
  step_along it is = (such_along it).step is

  -- the disks need tell no more for it
  pub tells_along : (tells : Type 0) (it : Command) → TellsFor tells it → TellsFor tells (along f g it)
  tells_along tells it told = λ opens. told ((such_along it).opens opens)

  same_one : (make : Path → Command) (own path : Path) → own ∷ [] ≡ path ∷ [] → make (f own) ≡ make (f path)
  same_one make own path is =
      let same : own ≡ path = cc in
      ap (λ (p : Path). make (f p)) same

  same_two : (make : Path → Path → Command) (own third path other : Path) → own ∷ third ∷ [] ≡ path ∷ other ∷ []
      → make (f own) (g third) ≡ make (f path) (g other)
  same_two make own third path other is =
      let one : own ≡ path = cc in
      let two : third ≡ other = cc in
      ap (λ (p : Path). make (f p) (g third)) one ∙ ap (λ (p : Path). make (f path) (g p)) two

  -- a command with one path, or with two, by what becomes of them
  pub along_one : (it : Command) (path : Path) → paths_of it ≡ path ∷ [] → along f g it ≡ with_paths (f path) (f path) it
  along_one (command.Change by (MkDir own)) path is = same_one (λ p. command.Change by (MkDir p)) own path is
  along_one (command.Change by (Create own kind)) path is = same_one (λ p. command.Change by (Create p kind)) own path is
  along_one (command.Change by (Symlink own text)) path is = same_one (λ p. command.Change by (Symlink p text)) own path is
  along_one (command.Change by (Write own text)) path is = same_one (λ p. command.Change by (Write p text)) own path is
  along_one (command.Change by (Settle own text)) path is = same_one (λ p. command.Change by (Settle p text)) own path is
  along_one (command.Change by (Resolve own)) path is = same_one (λ p. command.Change by (Resolve p)) own path is
  along_one (command.Change by (Rm own)) path is = same_one (λ p. command.Change by (Rm p)) own path is
  along_one (command.Change by (Ln from own)) path is = cc
  along_one (command.Change by (Mv from own)) path is = cc
  along_one (command.Change by (Adopt orphan own)) path is = cc
  along_one (command.Change by (Discard orphan)) path is = refl
  along_one (command.Look by (Ls own)) path is = same_one (λ p. command.Look by (Ls p)) own path is
  along_one (command.Look by (Read own)) path is = same_one (λ p. command.Look by (Read p)) own path is
  along_one (command.Look by (Versions own)) path is = same_one (λ p. command.Look by (Versions p)) own path is
  along_one (command.Look by (ReadLink own)) path is = same_one (λ p. command.Look by (ReadLink p)) own path is
  along_one (command.Look by Tree) path is = refl
  along_one (command.Look by Conflicts) path is = refl
  along_one (command.Look by Orphans) path is = refl
  along_one (command.Look by Detached) path is = refl
  along_one (command.Look by Marks) path is = refl
  along_one (command.Collect by) path is = refl
  along_one (command.Ask by to) path is = refl
  along_one (command.Give mail) path is = refl
  along_one (command.Pull by to) path is = refl
  along_one (command.Alike by other) path is = refl
  along_one (command.Restart by) path is = refl
  along_one (command.Stop by calls pick) path is = refl
  along_one (command.Sweep order) path is = refl
  along_one (command.Why by) path is = refl

  pub along_two : (it : Command) (path other : Path) → paths_of it ≡ path ∷ other ∷ []
      → along f g it ≡ with_paths (f path) (g other) it
  along_two (command.Change by (MkDir own)) path other is = cc
  along_two (command.Change by (Create own kind)) path other is = cc
  along_two (command.Change by (Symlink own text)) path other is = cc
  along_two (command.Change by (Write own text)) path other is = cc
  along_two (command.Change by (Settle own text)) path other is = cc
  along_two (command.Change by (Resolve own)) path other is = cc
  along_two (command.Change by (Rm own)) path other is = cc
  along_two (command.Change by (Ln from own)) path other is =
      same_two (λ p q. command.Change by (Ln p q)) from own path other is
  along_two (command.Change by (Mv from own)) path other is =
      same_two (λ p q. command.Change by (Mv p q)) from own path other is
  along_two (command.Change by (Adopt orphan own)) path other is =
      same_two (λ p q. command.Change by (Adopt orphan q)) _ own path other is
  along_two (command.Change by (Discard orphan)) path other is = refl
  along_two (command.Look by (Ls own)) path other is = cc
  along_two (command.Look by (Read own)) path other is = cc
  along_two (command.Look by (Versions own)) path other is = cc
  along_two (command.Look by (ReadLink own)) path other is = cc
  along_two (command.Look by Tree) path other is = refl
  along_two (command.Look by Conflicts) path other is = refl
  along_two (command.Look by Orphans) path other is = refl
  along_two (command.Look by Detached) path other is = refl
  along_two (command.Look by Marks) path other is = refl
  along_two (command.Collect by) path other is = refl
  along_two (command.Ask by to) path other is = refl
  along_two (command.Give mail) path other is = refl
  along_two (command.Pull by to) path other is = refl
  along_two (command.Alike by third) path other is = refl
  along_two (command.Restart by) path other is = refl
  along_two (command.Stop by calls pick) path other is = refl
  along_two (command.Sweep order) path other is = refl
  along_two (command.Why by) path other is = refl

-- where no part was passed, it is the same
pub along_none : (it : Command) → along (rest_behind 0) (rest_behind 0) it ≡ it
along_none (command.Change by (MkDir path)) = refl
along_none (command.Change by (Create path kind)) = refl
along_none (command.Change by (Symlink path text)) = refl
along_none (command.Change by (Write path text)) = refl
along_none (command.Change by (Settle path text)) = refl
along_none (command.Change by (Resolve path)) = refl
along_none (command.Change by (Rm path)) = refl
along_none (command.Change by (Ln from path)) = refl
along_none (command.Change by (Mv from path)) = refl
along_none (command.Change by (Adopt orphan path)) = refl
along_none (command.Change by (Discard orphan)) = refl
along_none (command.Look by (Ls path)) = refl
along_none (command.Look by (Read path)) = refl
along_none (command.Look by (Versions path)) = refl
along_none (command.Look by (ReadLink path)) = refl
along_none (command.Look by Tree) = refl
along_none (command.Look by Conflicts) = refl
along_none (command.Look by Orphans) = refl
along_none (command.Look by Detached) = refl
along_none (command.Look by Marks) = refl
along_none (command.Collect by) = refl
along_none (command.Ask by to) = refl
along_none (command.Give mail) = refl
along_none (command.Pull by to) = refl
along_none (command.Alike by other) = refl
along_none (command.Restart by) = refl
along_none (command.Stop by calls pick) = refl
along_none (command.Sweep order) = refl
along_none (command.Why by) = refl
