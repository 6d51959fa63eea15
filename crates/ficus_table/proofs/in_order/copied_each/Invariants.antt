use Rattle.std.proofs.Common.{◌≡◌, map, take}
use Rattle.ficus_table.proofs.in_order.copied_each.Given as goal

abbrev pub invariant-loop-row : goal.invariant-loop-row
invariant-loop-row g l = l.copies.items ≡ map (λ row. row.now) (take l.row-index l.rows)
