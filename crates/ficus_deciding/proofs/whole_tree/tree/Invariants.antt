use Rattle.ficus_deciding.specs.View.{tables_view}
use Rattle.ficus_deciding.proofs.Trees.{AreFirst}
use Rattle.ficus_deciding.proofs.whole_tree.tree.Given as goal

abbrev pub invariant-loop-dir : goal.invariant-loop-dir
invariant-loop-dir l = AreFirst (tables_view l.saved) l.dir-items l.dir-index l.lines.items
