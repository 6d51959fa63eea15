-- What the lines of a generated script are.
use Rattle.std.specs.Prelude.{◌≡◌, ℕ, ◌+◌, length, All}
use Rattle.ficus_script.specs.Script.{IsScript, lines_of}
use Rattle.ficus_script.specs.declared.command.Command.{Command}
use Rattle.ficus_script.specs.declared.command.Command.TheVariants.{Stop}
use Rattle.ficus_generator.specs.Commands.{script_commands}
use Rattle.ficus_generator.specs.Script.{script_lines, text_of}

-- the command stops no disks
abbrev pub StopsNothing : Command → Type 0
StopsNothing command = (by calls pick : ℕ) → command ≡ Stop by calls pick → ⊥

-- The lines of the script are those that were written, and it is that of its commands: one for each of four
-- directories, one for each member but the first, and one for each step. None of them stops disks.
pub record HasLines (seed steps members : ℕ) : Type 0 where
  pub lines : lines_of (text_of (script_lines seed steps members)) ≡ script_lines seed steps members
  pub script : IsScript (text_of (script_lines seed steps members)) (script_commands seed steps members)
  pub counted : length (script_commands seed steps members) + 1 ≡ 4 + members + steps
  pub stopless : All StopsNothing (script_commands seed steps members)
