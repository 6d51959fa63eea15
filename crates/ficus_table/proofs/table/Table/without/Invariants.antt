use Rattle.std.proofs.Common.{take}
use Rattle.ficus_ids.specs.Rising.{IsRisingBy, LeavesOutBy}
use Rattle.ficus_table.proofs.table.Table.without.Given as goal

abbrev pub invariant-loop-id : goal.invariant-loop-id
invariant-loop-id g l = record {
  rising : IsRisingBy (λ row. g.R.Row.id_of (g.R.Row.seen row)) l.list;
  left : LeavesOutBy (λ row. g.R.Row.id_of (g.R.Row.seen row)) l.initial.list (take l.id-index l.ids) l.list;
}
