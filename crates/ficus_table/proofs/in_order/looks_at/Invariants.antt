use Rattle.std.proofs.Common.{◌≡◌, map, take}
use Rattle.ficus_table.proofs.in_order.looks_at.Given as goal

abbrev pub invariant-loop-row : goal.invariant-loop-row
invariant-loop-row g l =
    map (λ one. one.now) l.seen.items ≡ map g.R.Row.seen (map (λ row. row.now) (take l.row-index l.rows))
