-- Lines of the script of a member that is on a machine of its own.
use Rattle.std.specs.Prelude.{◌≡◌, ◌≤◌, ℕ, List, ◌++◌, length, codes}
use Rattle.ficus_script.specs.declared.command.Command.{Command}
use Rattle.ficus_script.specs.declared.command.Command.TheVariants.{Give, Pull, Alike, Stop}
use Rattle.ficus_script.specs.Command.{IsCommand, IsStep, command_text}
use Rattle.ficus_script.specs.Script.{AreLines, IsFirstBad, MayStand}
use Rattle.ficus_member_script.specs.declared.member_line.MemberLine.{MemberLine}
use Rattle.ficus_member_script.specs.declared.member_line.MemberLine.TheVariants.{Does, Take}

-- the command names no message by its number, doesn't read two replicas at once, and stops no disks
abbrev pub AsksOneMember : Command → Type 0
AsksOneMember (Give mail) = ⊥
AsksOneMember (Pull by to) = ⊥
AsksOneMember (Alike by other) = ⊥
AsksOneMember (Stop by calls pick) = ⊥
AsksOneMember other = Unit {0}

-- a command that may stand in such a script: it is one step, so no sweep and no why, and asks one member
pub record IsOwnCommand (it : Command) : Type 0 where
  pub command : IsCommand it
  pub step : IsStep it
  pub alone : AsksOneMember it

-- such a command, or a name that isn't empty
abbrev pub IsOwnLine : MemberLine → Type 0
IsOwnLine (Does command) = IsOwnCommand command
IsOwnLine (Take name) = 1 ≤ length name

-- the text of the command, or `take` and the name
abbrev pub member_line_text : MemberLine → List ℕ
member_line_text (Does command) = command_text command
member_line_text (Take name) = codes "take " ++ name

-- these bytes are the line's spelling
pub record SpellsMemberLine (line : MemberLine) (bytes : List ℕ) : Type 0 where
  pub own : IsOwnLine line
  pub spelled : bytes ≡ member_line_text line

-- these bytes are no line's spelling
abbrev pub SpellsNone : List ℕ → Type 0
SpellsNone bytes = (line : MemberLine) → SpellsMemberLine line bytes → ⊥

-- These bytes are a line's spelling: it isn't so that they are none's. Where memory was refused for a line, the reader
-- of commands says as much of it.
abbrev pub IsMemberLine : List ℕ → Type 0
IsMemberLine bytes = SpellsNone bytes → ⊥

-- the script's lines are, but for those that are passed over, the spellings of these
abbrev pub IsMemberScript : List ℕ → List MemberLine → Type 0
IsMemberScript bytes lines = AreLines SpellsMemberLine bytes lines

-- the line of this number is the first that may not stand in such a script
abbrev pub IsFirstBadMemberLine : List ℕ → ℕ → Type 0
IsFirstBadMemberLine bytes number = IsFirstBad (MayStand IsMemberLine) bytes number
