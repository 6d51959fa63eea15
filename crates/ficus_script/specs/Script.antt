-- Scripts: their lines, and the commands that these spell.
use Rattle.std.specs.Prelude.{◌≡◌, ◌⊎◌, ℕ, ◌+◌, Bool, true, not, ◌==◌, if◌then◌else◌, IsTrue, List, [], ◌∷◌, ◌++◌, length, map, filter, All}
use Rattle.std.specs.List.{AllZip, onto_first}
use Rattle.ficus_script.specs.declared.command.Command.{Command}
use Rattle.ficus_script.specs.Command.{IsCommand, IsStep, command_text}

-- the lines of the bytes. Each ends with byte 10, which is no part of it. A last one without it is a line too, if it
-- isn't empty.
abbrev pub lines_of : List ℕ → List (List ℕ)
lines_of [] = []
lines_of (byte ∷ bytes) = if byte == 10 then [] ∷ lines_of bytes else onto_first byte (lines_of bytes)

-- empty lines are passed over, and lines whose first byte is `#` (35)
abbrev pub is_passed_over : List ℕ → Bool
is_passed_over [] = true
is_passed_over (byte ∷ line) = byte == 35

abbrev pub is_kept : List ℕ → Bool
is_kept line = not (is_passed_over line)

-- these bytes are the command's spelling
abbrev pub SpellsCommand : Command → List ℕ → Type 0
SpellsCommand command line = IsCommand command × (line ≡ command_text command)

-- the line is the spelling of a command
abbrev pub IsCommandLine : List ℕ → Type 0
IsCommandLine line = (command : Command) × IsCommand command × (line ≡ command_text command)

-- the same of a command that is one step of a world
abbrev pub SpellsStep : Command → List ℕ → Type 0
SpellsStep command line = IsCommand command × (line ≡ command_text command) × IsStep command

abbrev pub IsStepLine : List ℕ → Type 0
IsStepLine line = (command : Command) × IsCommand command × (line ≡ command_text command) × IsStep command

-- a line is passed over, or is spelled so
abbrev pub MayStand : (List ℕ → Type 0) → List ℕ → Type 0
MayStand is_spelled line = IsTrue (is_passed_over line) ⊎ is_spelled line

-- the line may stand in a script
abbrev pub IsScriptLine : List ℕ → Type 0
IsScriptLine line = MayStand IsCommandLine line

-- the lines that aren't passed over are, in order, the spellings of the commands
pub record IsScript (bytes : List ℕ) (commands : List Command) : Type 0 where
  pub each : All IsCommand commands
  pub spelled : filter is_kept (lines_of bytes) ≡ map command_text commands

-- the lines that aren't passed over are, in order, spellings of these
abbrev pub AreLines : {A : Type 0} → (A → List ℕ → Type 0) → List ℕ → List A → Type 0
AreLines spells bytes list = AllZip spells list (filter is_kept (lines_of bytes))

-- Counted from 1, the line of this number may not stand there, and each line before it may.
pub record IsFirstBad (may : List ℕ → Type 0) (bytes : List ℕ) (number : ℕ) : Type 0 where
  pub before : List (List ℕ)
  pub bad : List ℕ
  pub behind : List (List ℕ)
  pub lines : lines_of bytes ≡ before ++ bad ∷ behind
  pub counted : number ≡ length before + 1
  pub each : All may before
  pub no_line : may bad → ⊥

-- the same of a script
abbrev pub IsFirstBadLine : List ℕ → ℕ → Type 0
IsFirstBadLine bytes number = IsFirstBad IsScriptLine bytes number
