-- A sink in memory.
use Rattle.std.specs.Prelude.{ℕ, List}
use Rattle.ficus_faults.specs.Calls.{Tally}

-- the bytes that were put, and the calls
pub record SinkState : Type 0 where
  pub written : List ℕ
  pub calls : Tally

-- how many bytes it has room for: 8 MiB
abbrev pub sink_room : ℕ
sink_room = 8388608
