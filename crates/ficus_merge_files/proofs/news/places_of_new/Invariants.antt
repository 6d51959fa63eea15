use Rattle.ficus_table.specs.SideBySide.{left}
use Rattle.ficus_merge_files.proofs.Beside.{AreNewsSoFar}
use Rattle.ficus_merge_files.proofs.news.places_of_new.Given as goal

abbrev pub invariant-loop-next : goal.invariant-loop-next
invariant-loop-next l = AreNewsSoFar l.fn.mine l.fn.theirs l.walk l.places.items l.place

abbrev pub decreases-loop-next : goal.decreases-loop-next
decreases-loop-next l = left l.walk
