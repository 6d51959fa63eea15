use Rattle.std.proofs.Common.{◌+◌, ◌++◌, length}
use Rattle.ficus_table.specs.SideBySide.{as_list}
use Rattle.ficus_merge_entries.proofs.Running.{IsPaired}
use Rattle.ficus_merge_entries.proofs.runs.go_on.Given as goal

abbrev pub invariant-pairs : goal.invariant-pairs
invariant-pairs g l =
    IsPaired l.fn.taker.number l.fn.taker.members (as_list l.fn.my ++ g.A.Run.left l.fn.mine)
    (as_list l.fn.their ++ g.B.Run.left l.fn.theirs) (g.A.Run.calls l.fn.mine) (g.B.Run.calls l.fn.theirs) l.my l.their
    (g.A.Run.left l.mine) (g.B.Run.left l.theirs) l.merged.items (g.A.Run.calls l.mine) (g.B.Run.calls l.theirs)

abbrev pub decreases-pairs : goal.decreases-pairs
decreases-pairs g l =
    length (as_list l.my ++ g.A.Run.left l.mine) + length (as_list l.their ++ g.B.Run.left l.theirs)
