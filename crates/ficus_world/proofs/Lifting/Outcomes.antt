-- What caused each failure of the link.
use Rattle.std.proofs.Common.{◌≡◌, ℕ, ◌+◌, ◌-◌, ◌^◌, ◌≤◌, List, ◌++◌, cond, sym, subst, inl, inr, ◌⊎◌, arith}
use Rattle.std.proofs.lemmas.List.Sums.{sum_by-append}
use Rattle.ficus_faults.specs.Faults.{Rose}
use Rattle.ficus_runs.specs.Outcome.{Outcome, is_link_failure, link_failures}
use Rattle.ficus_world.specs.Causes.{AreCaused}

failures_append : (one other : List Outcome) → link_failures (one ++ other) ≡ link_failures one + link_failures other
failures_append one other = sum_by-append (λ outcome. cond (is_link_failure outcome) 1 0) one other

-- where the count stayed, nothing failed
pub steady_caused : (count : ℕ) → AreCaused count count 0
steady_caused count = record { risen = omega arith; covered = inl (omega arith) }

-- a failure
pub one_caused : {before now : ℕ} → Rose before now → before ≤ now → AreCaused before now 1
one_caused {before} {now} rose risen = record { risen = risen; covered = go rose }
  where
    go : Rose before now → (before + 1 ≤ now) ⊎ (2 ^ 64 - 1 ≤ now)
    go (inl higher) = inl (omega arith)
    go (inr last) = inr (omega arith)

-- the failures of both, one behind the other
pub caused_then : {before middle now one other : ℕ} → AreCaused before middle one → AreCaused middle now other
    → AreCaused before now (one + other)
caused_then {before} {middle} {now} {one} {other} first second = record {
  risen = omega (arith, first.risen, second.risen);
  covered = go first.covered second.covered;
}
  where
    go : (before + one ≤ middle) ⊎ (2 ^ 64 - 1 ≤ middle) → (middle + other ≤ now) ⊎ (2 ^ 64 - 1 ≤ now)
        → (before + (one + other) ≤ now) ⊎ (2 ^ 64 - 1 ≤ now)
    go (inl less) (inl few) = inl (omega arith)
    go (inr last) few = inr (omega (arith, second.risen))
    go less (inr last) = inr last

pub both_caused : {before middle now : ℕ} (one other : List Outcome) → AreCaused before middle (link_failures one)
    → AreCaused middle now (link_failures other) → AreCaused before now (link_failures (one ++ other))
both_caused {before} {middle} {now} one other first second =
    subst (AreCaused before now) (sym (failures_append one other)) (caused_then first second)
