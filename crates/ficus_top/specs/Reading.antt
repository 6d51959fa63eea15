-- What the reading of the script takes, from a source that tells.
use Rattle.std.specs.Prelude.{◌≡◌, ℕ, ◌+◌, ◌≤◌, List, [], length}
use Rattle.ficus_loop.specs.Serving.{script_limit}
use Rattle.ficus_top.specs.Grammar.{Grammar, of_commands}
use Rattle.ficus_top.specs.Outside.{GivesCount, GivesBelow}
use Rattle.ficus_top.specs.declared.fault.ReadingFault.{ReadingFault}
use Rattle.ficus_top.specs.declared.fault.ReadingFault.TheVariants.{BadLine, Memory, Source, TooLong}

-- all that the source had was taken, and it was no more than a script may have
pub record TakesAll (old new : List ℕ) : Type 0 where
  pub within : length old ≤ script_limit
  pub empty : new ≡ []

-- what was taken where the reading ended so, of a script of this grammar
abbrev pub TakesUntilIn : Grammar → List ℕ → List ℕ → ReadingFault → Type 0
TakesUntilIn grammar old new (BadLine line) = TakesAll old new × grammar.IsFirstBad old line
TakesUntilIn grammar old new TooLong = GivesCount old (script_limit + 1) new
TakesUntilIn grammar old new Source = GivesBelow old (script_limit + 1) new
TakesUntilIn grammar old new Memory = GivesBelow old (script_limit + 1) new

abbrev pub TakesUntil : List ℕ → List ℕ → ReadingFault → Type 0
TakesUntil old new fault = TakesUntilIn of_commands old new fault
