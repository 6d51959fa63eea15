-- A source in memory.
use Rattle.std.specs.Prelude.{ℕ, List}
use Rattle.ficus_faults.specs.Calls.{Tally}

-- the bytes that are left, and the calls
pub record SourceState : Type 0 where
  pub left : List ℕ
  pub calls : Tally
