-- The paths of a command in the code.
use Rattle.std.specs.Prelude.{◌≡◌, Bool, [], ◌∷◌}
use Rattle.ficus_path.specs.declared.path.Path.{Path}
use Rattle.ficus_path.specs.Path.{path_from}
use Rattle.ficus_script.specs.declared.command.Command.{Command}
use Rattle.ficus_top.specs.declared.graft.courses.Course.{Course}
use Rattle.ficus_top.specs.declared.graft.courses.Courses.{Courses}
use Rattle.ficus_top.specs.declared.graft.courses.Courses.TheVariants as courses
use Rattle.ficus_top.specs.Graft.Paths.{actor_of, crossable, names_entries, paths_of}

-- the course goes along the path, as far as its parts may lead to volumes
pub record IsCourse (names : Bool) (course : Course) (path : Path) : Type 0 where
  pub is : path ≡ path_from course.base course.parts.now
  pub most : course.most ≡ crossable names course.parts.now

-- these are the paths of the command, in order, and the replica that leads it
abbrev pub AreCourses : Command → Courses → Type 0
AreCourses command courses.None = paths_of command ≡ []
AreCourses command (courses.One by course) =
    (by ≡ actor_of command) × (path : Path) × (paths_of command ≡ path ∷ [])
    × IsCourse (names_entries command) course path
AreCourses command (courses.Two by first second) =
    (by ≡ actor_of command) × (path : Path) × (other : Path) × (paths_of command ≡ path ∷ other ∷ [])
    × IsCourse (names_entries command) first path × IsCourse (names_entries command) second other
