use Rattle.std.proofs.Common.{arith, rules}
use Rattle.ficus_merge_files.proofs.Counted.{none_counted, all_counted, counted, not_counted}
use Rattle.ficus_merge_files.proofs.fits.count_new.Goals as goal
use Rattle.ficus_merge_files.proofs.fits.count_new.Goals.{then-is_new, else-is_new}

pub loop-version-init : goal.loop-version-init
loop-version-init c = (omega arith, λ old ordered of_either same. none_counted c.args.mine.now c.args.theirs.now old ordered)

pub loop-version-preserved : goal.loop-version-preserved
loop-version-preserved c =
    let item = c.version-item.result in
    let here = c.loop-version.version-index in
    elim c.if-is_new.branch [
      | then-is_new w ↦ rw w.count-is (
        omega (arith, c.loop-version.invariant.0),
        λ old ordered of_either same.
            counted c.args.from.now here item c.loop-version-test.true (search rules) c.args.mine.now c.args.theirs.now old c.loop-version.count
            c.requires.one_text c.requires.from of_either (c.loop-version.invariant.1 old ordered of_either same) c.requires.ordered
            (c.is_new.ensures.latest w.if-is_new.true)
            (λ has. c.is_new.ensures.new w.if-is_new.true
            ((same item (here, c.loop-version-test.true, search rules) (c.is_new.ensures.latest w.if-is_new.true)).0 has)),
      )
      | else-is_new w ↦ rw w.count-is (
        omega (arith, c.loop-version.invariant.0),
        λ old ordered of_either same.
            not_counted c.args.from.now here item c.loop-version-test.true (search rules) c.args.mine.now c.args.theirs.now old c.loop-version.count
            c.requires.one_text c.requires.from of_either (c.loop-version.invariant.1 old ordered of_either same)
            (λ latest. (same item (here, c.loop-version-test.true, search rules) latest).1 (c.is_new.ensures.known w.if-is_new.false latest)),
      )
    ]

pub returns-clause-grows : goal.returns-clause-grows
returns-clause-grows c = λ old ordered of_either same.
    all_counted c.args.from.now c.args.mine.now c.args.theirs.now old c.loop-version.version-index c.loop-version.count (omega arith)
    (c.loop-version.invariant.1 old ordered of_either same)
