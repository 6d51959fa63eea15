-- What became of all that the commands of a run asked of the outside.
use Rattle.std.specs.Prelude.{◌≡◌, ℕ, List, flat_map}
use Rattle.ficus_runs.specs.Outcome.{Outcome, link_failures, store_failures}

-- what each command asked, one after the other
abbrev pub all_outcomes : List (List Outcome) → List Outcome
all_outcomes outcomes = flat_map (λ each. each) outcomes

-- neither the link failed nor the disks of a member
pub record NothingFails (outcomes : List Outcome) : Type 0 where
  pub link : link_failures outcomes ≡ 0
  pub stores : (r : ℕ) → store_failures r outcomes ≡ 0
