-- What is told of a spelling by a command, by a verb, or by none.
use Rattle.std.proofs.Common.{◌↔◌, Option, None, Some, refl}
use Rattle.std.specs.Prelude.{IsTrue, is_some, ok_or, option_map}
use Rattle.std.proofs.lemmas.Bool.{false≢true}
use Rattle.ficus_script.specs.declared.command.Command.{Command}
use Rattle.ficus_script.specs.declared.line.LineFault.TheVariants.{NotCommand}
use Rattle.ficus_script.specs.Command.{IsCommandOf, IsSpelled, Spelling}
use Rattle.ficus_script.specs.Line.{IsReadingAt}

-- it is spelled where there is a command
pub told : (spelling : Spelling) (found : Option Command) → IsCommandOf spelling found →
    (IsTrue (is_some found) ↔ IsSpelled spelling)
told spelling (Some command) is = (λ _. (command, is.0, is.1), λ _. refl)
told spelling None none =
    (λ yes. absurd (false≢true yes), λ spelled. absurd (none spelled.0 spelled.1 spelled.2))

-- and where there is a verb, which makes one
pub told_by_verb : {V : Type 0} (make : V → Command) (spelling : Spelling) (found : Option V) →
    IsCommandOf spelling (option_map make found) → (IsTrue (is_some found) ↔ IsSpelled spelling)
told_by_verb make spelling (Some verb) is = (λ _. (make verb, is.0, is.1), λ _. refl)
told_by_verb make spelling None none =
    (λ yes. absurd (false≢true yes), λ spelled. absurd (none spelled.0 spelled.1 spelled.2))

-- what takes no memory is read as it is
pub reading_at : (spelling : Spelling) (found : Option Command) → IsCommandOf spelling found →
    IsReadingAt spelling (ok_or found NotCommand)
reading_at spelling (Some command) is = is
reading_at spelling None none = λ spelled. none spelled.0 spelled.1 spelled.2
