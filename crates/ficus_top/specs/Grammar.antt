-- What the modes take for a script.
use Rattle.std.specs.Prelude.{ℕ, List}
use Rattle.ficus_script.specs.Script.{IsFirstBadLine, IsScript}
use Rattle.ficus_script.specs.VolumeLine.{IsFirstBadVolumeLine, IsVolumeScript}
use Rattle.ficus_script.specs.declared.command.Command.{Command}
use Rattle.ficus_script.specs.declared.volume_line.VolumeLine.{VolumeLine}

-- of what list bytes are the script, and which of their lines is the first that may stand in none
pub record Grammar : Type 1 where
  pub Line : Type 0
  pub IsOf : List ℕ → List Line → Type 0
  pub IsFirstBad : List ℕ → ℕ → Type 0

-- scripts of commands
abbrev pub of_commands : Grammar
of_commands = record { Line = Command; IsOf = IsScript; IsFirstBad = IsFirstBadLine }

-- scripts over so many volumes
abbrev pub of_volumes : ℕ → Grammar
of_volumes count =
    record { Line = VolumeLine; IsOf = IsVolumeScript count; IsFirstBad = IsFirstBadVolumeLine count }
