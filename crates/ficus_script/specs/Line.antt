-- What reading a line comes to.
use Rattle.std.specs.Prelude.{◌≡◌, ◌≢◌, ℕ, List, [], ◌∷◌, ◌++◌, filter, All, Option, Some, None, IfSome, IfNone, Result, Ok, Err}
use Rattle.std.specs.Fmt.{decimal}
use Rattle.ficus_script.specs.declared.command.Command.{Command}
use Rattle.ficus_script.specs.declared.line.LineFault.{LineFault}
use Rattle.ficus_script.specs.declared.line.LineFault.TheVariants.{NotCommand, Memory}
use Rattle.ficus_script.specs.Arguments.{IsReplicaNumber}
use Rattle.ficus_script.specs.Command.{IsCommand, IsSpelled, IsSpelledStep, Spelling, spelling_of}
use Rattle.ficus_script.specs.declared.fault.ScriptFault.{ScriptFault}
use Rattle.ficus_script.specs.declared.fault.ScriptFault.TheVariants as script_fault
use Rattle.ficus_script.specs.Script.{is_kept, IsCommandLine, IsStepLine, MayStand, SpellsCommand}
use Rattle.std.specs.List.{AllZip}

-- what the line's fault makes of the script
abbrev pub fault_at : LineFault → ℕ → ScriptFault
fault_at NotCommand line = script_fault.BadLine line
fault_at Memory line = script_fault.Memory

-- the text behind the number of a replica and a space (32), or the text alone
abbrev pub led_by : Option ℕ → List ℕ → List ℕ
led_by None text = text
led_by (Some replica) text = decimal replica ++ 32 ∷ text

-- what stands behind a word: nothing, or a space and the rest
abbrev pub spaced : Option (List ℕ) → List ℕ
spaced None = []
spaced (Some rest) = 32 ∷ rest

-- the line is cut into the number of a replica, if one leads it, the next word, and what is left
pub record IsCut (line : List ℕ) (by : Option ℕ) (verb : List ℕ) (left : Option (List ℕ)) : Type 0 where
  pub number : IfSome by IsReplicaNumber
  pub free : All (λ byte. byte ≢ 32) verb
  pub whole : line ≡ led_by by (verb ++ spaced left)
  pub none : IfNone by ((replica : ℕ) (rest : List ℕ) → IsReplicaNumber replica → line ≡ led_by (Some replica) rest → ⊥)

-- the command with this spelling, `NotCommand` where none has it, or memory was refused for one that has it, a step
abbrev pub IsReadingAt : Spelling → Result Command LineFault → Type 0
IsReadingAt spelling (Ok command) = IsCommand command × (spelling_of command ≡ spelling)
IsReadingAt spelling (Err NotCommand) = IsSpelled spelling → ⊥
IsReadingAt spelling (Err Memory) = IsSpelledStep spelling

-- the command that the line spells, `NotCommand` where it spells none, or memory was refused for a step that it spells
abbrev pub IsReadingOf : List ℕ → Result Command LineFault → Type 0
IsReadingOf line (Ok command) = SpellsCommand command line
IsReadingOf line (Err NotCommand) = IsCommandLine line → ⊥
IsReadingOf line (Err Memory) = IsStepLine line

-- the line may stand there, and what it spells, if it isn't passed over, comes behind the old ones
pub record AddsLine {A : Type 0} (spells : A → List ℕ → Type 0) (is_spelled : List ℕ → Type 0) (line : List ℕ)
    (old new : List A) : Type 0 where
  pub more : List A
  pub added : new ≡ old ++ more
  pub spelled : AllZip spells more (filter is_kept (line ∷ []))
  pub good : MayStand is_spelled line

-- what the line spells, `NotCommand` where it spells nothing, or memory was refused for something that it spells
abbrev pub IsReadingBy : {A : Type 0} → (A → List ℕ → Type 0) → (List ℕ → Type 0) → List ℕ → Result A LineFault
    → Type 0
IsReadingBy spells is_spelled line (Ok one) = spells one line
IsReadingBy spells is_spelled line (Err NotCommand) = is_spelled line → ⊥
IsReadingBy spells is_spelled line (Err Memory) = is_spelled line
