-- What reading a line comes to.
use Rattle.std.specs.Prelude.{◌≡◌, ◌≢◌, ◌⊎◌, ℕ, List, ◌++◌, false, All, Result, Ok, Err, codes}
use Rattle.ficus_script.specs.declared.fault.ScriptFault.{ScriptFault}
use Rattle.ficus_script.specs.declared.fault.ScriptFault.TheVariants.{BadLine, Memory}
use Rattle.ficus_script.specs.Line.{AddsLine}
use Rattle.ficus_script.specs.Script.{is_passed_over}
use Rattle.ficus_member_script.specs.declared.draft.Draft.{Draft}
use Rattle.ficus_member_script.specs.declared.member_line.MemberLine.{MemberLine}
use Rattle.ficus_member_script.specs.MemberLine.{IsMemberLine, SpellsMemberLine, SpellsNone}

-- one line, which isn't passed over
pub record IsKeptLine (line : List ℕ) : Type 0 where
  pub free : All (λ byte. byte ≢ 10) line
  pub kept : is_passed_over line ≡ false

-- the line begins with these bytes
abbrev pub Begins : List ℕ → List ℕ → Type 0
Begins bytes line = (rest : List ℕ) × (line ≡ bytes ++ rest)

-- the line begins as a line of another volume does, or as a command that doesn't ask one member alone
abbrev pub BeginsElsewhere : List ℕ → Type 0
BeginsElsewhere line =
    Begins (codes "@") line ⊎ Begins (codes "give ") line ⊎ Begins (codes "pull ") line ⊎ Begins (codes "alike ") line
    ⊎ Begins (codes "stop ") line

-- what the line asks for; or a bad line, where that is nothing; or memory was refused for something
abbrev pub IsReadingOf : List ℕ → Result MemberLine ScriptFault → Type 0
IsReadingOf line (Ok one) = SpellsMemberLine one line
IsReadingOf line (Err (BadLine number)) = SpellsNone line
IsReadingOf line (Err Memory) = IsMemberLine line

-- where memory wasn't refused up to now, it wasn't before, and what the line asks for is added
abbrev pub Takes : List ℕ → Draft → Draft → Type 0
Takes line old new =
    new.refused ≡ false → (old.refused ≡ false)
    × AddsLine SpellsMemberLine IsMemberLine line old.lines.items new.lines.items
