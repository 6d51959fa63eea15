use Rattle.std.specs.Vec.Iter.{into_iter_items}
use Rattle.ficus_deciding.proofs.Adding.{HasAdded}
use Rattle.ficus_deciding.proofs.lines.add_lines.Given as goal

abbrev pub invariant-loop-shown : goal.invariant-loop-shown
invariant-loop-shown l =
    HasAdded l.saved l.dir l.fn.names.items (into_iter_items l.shown-iterator) l.fn.lines.items l.lines.items
