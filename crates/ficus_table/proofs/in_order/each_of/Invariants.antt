use Rattle.std.proofs.Common.{◌≡◌, map, take}
use Rattle.ficus_table.proofs.in_order.each_of.Given as goal

abbrev pub invariant-loop-row : goal.invariant-loop-row
invariant-loop-row g l = map (λ row. row.now) l.each.items ≡ take l.row-index l.rows
