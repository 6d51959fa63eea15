use Rattle.std.proofs.Common.{◌≡◌, ◌+◌, ◌≤◌}
use Rattle.ficus_table.specs.SideBySide.{left}
use Rattle.ficus_table.proofs.Made.{IsMadeSoFar}
use Rattle.ficus_merge_entries.specs.Merge.{IsReplacement}
use Rattle.ficus_merge_entries.specs.Runs.{id_of}
use Rattle.ficus_merge_entries.proofs.merge.put_replacements.Given as goal

abbrev pub invariant-loop-next : goal.invariant-loop-next
invariant-loop-next g l = record {
  mine : (g.W.Pairs.sides l.walk).mine ≡ (g.W.Pairs.sides l.fn.walk).mine;
  theirs : (g.W.Pairs.sides l.walk).theirs ≡ (g.W.Pairs.sides l.fn.walk).theirs;
  so_far : IsMadeSoFar id_of (IsReplacement l.taker.number l.taker.members) (g.W.Pairs.sides l.walk) l.replacements.items;
  calls : g.W.Pairs.calls l.walk + left (g.W.Pairs.sides l.walk)
      ≤ g.W.Pairs.calls l.fn.walk + left (g.W.Pairs.sides l.fn.walk);
}

abbrev pub decreases-loop-next : goal.decreases-loop-next
decreases-loop-next g l = left (g.W.Pairs.sides l.walk)
