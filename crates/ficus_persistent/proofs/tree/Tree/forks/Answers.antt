use Rattle.std.proofs.Common.{◌++◌, arith}
use Rattle.ficus_persistent.proofs.Heights.{above_row}
use Rattle.ficus_persistent.proofs.Rows.{below_front, below_behind}
use Rattle.ficus_persistent.specs.Shape.{AreBelow}
use Rattle.ficus_persistent.proofs.tree.Tree.forks.Goals as goal

pub returns-then-len-le-WIDTH-clause-level : goal.returns-then-len-le-WIDTH-clause-level
returns-then-len-le-WIDTH-clause-level g c = (
  above_row c.args.height c.args.below.items c.in_ok-fork.fork c.requires.level c.requires.several
      c.in_ok-fork.ensures.items c.in_ok-fork.ensures.height,
  tt,
)

pub fork-requires-2-clause-level : goal.fork-requires-2-clause-level
fork-requires-2-clause-level g c =
    below_front c.args.height c.cut_off.new.row.items c.in_ok-behind.behind.items
    (rw c.in_ok-behind.ensures.parts c.requires.level)

pub fork-requires-3-clause-level : goal.fork-requires-3-clause-level
fork-requires-3-clause-level g c =
    below_behind c.args.height c.cut_off.new.row.items c.in_ok-behind.behind.items
    (rw c.in_ok-behind.ensures.parts c.requires.level)

pub returns-clause-level : goal.returns-clause-level
returns-clause-level g c =
    let whole : AreBelow c.args.height (c.cut_off.new.row.items ++ c.in_ok-behind.behind.items) =
    rw c.in_ok-behind.ensures.parts c.requires.level in (
      above_row c.args.height c.cut_off.new.row.items c.in_ok-first.first
          (below_front c.args.height c.cut_off.new.row.items c.in_ok-behind.behind.items whole) (grind arith)
          c.in_ok-first.ensures.items c.in_ok-first.ensures.height,
      (
        above_row c.args.height c.in_ok-behind.behind.items c.in_ok-second.second
            (below_behind c.args.height c.cut_off.new.row.items c.in_ok-behind.behind.items whole) c.in_ok-behind.ensures.behind
            c.in_ok-second.ensures.items c.in_ok-second.ensures.height,
        tt,
      ),
    )
