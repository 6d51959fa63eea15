use Rattle.std.proofs.Common.{map, take}
use Rattle.ficus_ids.specs.Rising.{IsRisingBy}
use Rattle.ficus_table.proofs.Replaced.{AreReplaced}
use Rattle.ficus_table.proofs.table.Table.put_each.Given as goal

abbrev pub invariant-loop-row : goal.invariant-loop-row
invariant-loop-row g l = record {
  replaced : AreReplaced g.R.Row.id_of l.fn.self.items (map g.R.Row.seen (take l.row-index l.rows))
      (map g.R.Row.seen l.list);
  rising : IsRisingBy (λ row. g.R.Row.id_of (g.R.Row.seen row)) l.list;
}
