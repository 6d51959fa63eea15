use Rattle.std.proofs.Common.{◌≤◌, ◌+◌, ◌-◌}
use Rattle.ficus_top.specs.Summary.Running.{HoldingsIn}
use Rattle.ficus_top.proofs.summary.running.holdings_of.Given as goal

-- what each member so far holds
abbrev pub invariant-loop-member : goal.invariant-loop-member
invariant-loop-member l = record {
  within : l.member ≤ l.fn.members + 1;
  held : HoldingsIn l.fn.world.whole (l.member - 1) l.holdings.items;
}
