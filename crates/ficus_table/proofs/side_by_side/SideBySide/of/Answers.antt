use Rattle.ficus_table.proofs.Walk.{walk_starts}
use Rattle.ficus_table.proofs.side_by_side.SideBySide.of.Goals as goal

pub invariant_of-result : goal.invariant_of-result
invariant_of-result g c =
    walk_starts g.R.Row.id_of c.args.mine.now c.args.theirs.now c.len-mine.ensures.rising c.len-theirs.ensures.rising

pub returns-clause-rising : goal.returns-clause-rising
returns-clause-rising g c = record { mine = c.len-mine.ensures.rising; theirs = c.len-theirs.ensures.rising }
