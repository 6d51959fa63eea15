use Rattle.std.proofs.Common.{◌≡◌, ◌≤◌, length, map, drop}
use Rattle.ficus_table.specs.Edits.{overlaid}
use Rattle.ficus_table.proofs.table.Table.whole.Given as goal

abbrev pub invariant-loop-left : goal.invariant-loop-left
invariant-loop-left g l =
    (l.left ≤ length l.self-inside.edits.items) ×
    (map g.R.Row.seen l.list ≡ overlaid g.R.Row.formed g.R.Row.seen (drop l.left l.self-inside.edits.items)
    l.self-inside.list)

abbrev pub decreases-loop-left : goal.decreases-loop-left
decreases-loop-left g l = l.left
