use Rattle.std.proofs.Common.{◌≡◌, ◌++◌, ◌≤◌, length, take}
use Rattle.ficus_top.specs.Summary.Text.{holding_lines}
use Rattle.ficus_top.proofs.summary.text.append_holdings.Given as goal

abbrev pub invariant-loop-index : goal.invariant-loop-index
invariant-loop-index l = record {
  within : l.index ≤ length l.holdings;
  text : l.text.items ≡ l.initial.text.items ++ holding_lines 1 (take l.index l.holdings);
}
