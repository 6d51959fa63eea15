use Rattle.std.proofs.Common.{◌≡◌}
use Rattle.ficus_table.specs.SideBySide.{left}
use Rattle.ficus_table.proofs.Made.{IsMadeSoFar}
use Rattle.ficus_table.proofs.Replaced.{Other}
use Rattle.ficus_table.proofs.replacing.merge.Given as goal

abbrev pub invariant-loop-pair : goal.invariant-loop-pair
invariant-loop-pair g l = record {
  mine : l.walk.mine ≡ l.fn.mine;
  theirs : l.walk.theirs ≡ l.fn.theirs;
  so_far : IsMadeSoFar (λ row. g.R.Row.id_of (g.R.Row.seen row)) Other l.walk l.merged.items;
}

abbrev pub decreases-loop-pair : goal.decreases-loop-pair
decreases-loop-pair g l = left l.walk
