-- How many members a volume may have, and which numbers they have.
use Rattle.std.specs.Prelude.{ℕ, ◌≤◌}

pub record IsCount (count : ℕ) : Type 0 where
  pub at_least : 2 ≤ count
  pub at_most : count ≤ 8

pub record IsMember (members replica : ℕ) : Type 0 where
  pub at_least : 1 ≤ replica
  pub at_most : replica ≤ members
