-- The calls of a source, a sink, a link or a disk in memory, of which some fail.
use Rattle.std.specs.Prelude.{ℕ, ◌+◌, ◌-◌, ◌^◌, min, List, Contains}
use Rattle.ficus_faults.specs.Faults.{next_fault}

-- the numbers of the calls that fail, how many calls were made, and how many of them failed
pub record Tally : Type 0 where
  pub fail : List ℕ
  pub made : ℕ
  pub faults : ℕ

-- no call was made
abbrev pub fresh : List ℕ → Tally
fresh fail = record { fail = fail; made = 0; faults = 0 }

-- the number of the next call: calls are counted from 1, and from 2^32 - 1 on all have this number
abbrev pub next_call : Tally → ℕ
next_call tally = min (tally.made + 1) (2 ^ 32 - 1)

-- the next call is one of those that fail
abbrev pub IsNextListed : Tally → Type 0
IsNextListed tally = Contains tally.fail (next_call tally)

-- one more call was made
abbrev pub called : Tally → Tally
called tally = record tally { made = next_call tally }

-- one more call was made, and it failed
abbrev pub failed : Tally → Tally
failed tally = record tally { made = next_call tally; faults = next_fault tally.faults }
