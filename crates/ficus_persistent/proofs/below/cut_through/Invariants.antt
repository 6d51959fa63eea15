use Rattle.std.proofs.Common.{◌≡◌, ℕ, ◌-◌, ◌<◌, ◌≤◌, true, false, length, take, get_or}
use Rattle.ficus_persistent.specs.Shape.{joined}
use Rattle.ficus_persistent.proofs.below.cut_through.Given as goal

abbrev pub invariant-loop-low : goal.invariant-loop-low
invariant-loop-low g l = record {
  order : l.low < l.high;
  within : l.high ≤ length l.row;
  front : (k : ℕ) (d : g.row.T.Denot) → k < length (joined (take l.low l.row)) →
      g.C.Cut.is_before l.cut (get_or (joined l.row) k d) ≡ true;
  back : (k : ℕ) (d : g.row.T.Denot) → length (joined (take l.high l.row)) ≤ k → k < length (joined l.row) →
      g.C.Cut.is_before l.cut (get_or (joined l.row) k d) ≡ false;
}

abbrev pub decreases-loop-low : goal.decreases-loop-low
decreases-loop-low g l = l.high - l.low
