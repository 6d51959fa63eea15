-- Numbers that follow from a seed, one after the other: a linear congruential generator, whose states are below 2^31.
-- (Lehmer 1951; the factor and the summand are those of the C standard's example.)
use Rattle.std.specs.Prelude.{ℕ, zero, suc, ◌+◌, ◌*◌, ◌/◌, ◌%◌, ◌^◌, ◌<◌, ◌≤◌}

-- the state that a draw leaves
abbrev pub next_state : ℕ → ℕ
next_state state = (state * 1103515245 + 12345) % 2 ^ 31

-- the state that so many draws leave; the seed is the first one
abbrev pub state_after : ℕ → ℕ → ℕ
state_after seed zero = seed
state_after seed (suc draws) = next_state (state_after seed draws)

-- what the draw of this number, counted from 1, answers below the bound: what the state that it leaves is above its
-- lowest 16 bits, reduced
abbrev pub drawn : ℕ → ℕ → ℕ → ℕ
drawn seed number bound = state_after seed number / 65536 % bound

-- steps may be drawn from this seed, and so many of them
pub record FitsSteps (from many : ℕ) : Type 0 where
  pub seed : from < 2 ^ 31
  pub steps : many ≤ 5000
