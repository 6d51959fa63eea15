use Rattle.std.proofs.Common.{◌≡◌, ◌≤◌, length, map, drop}
use Rattle.ficus_table.specs.Edits.{overlaid}
use Rattle.ficus_table.proofs.in_order.overlay.Given as goal

abbrev pub invariant-loop-left : goal.invariant-loop-left
invariant-loop-left g l =
    (l.left ≤ length l.edits) ×
    (map (λ one. one.now) l.seen.items ≡ overlaid g.R.Row.formed g.R.Row.seen (drop l.left l.edits) l.list)

abbrev pub decreases-loop-left : goal.decreases-loop-left
decreases-loop-left g l = l.left
