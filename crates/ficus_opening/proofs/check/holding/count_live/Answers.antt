use Rattle.std.proofs.Common.{◌<◌, length, arith}
use Rattle.ficus_opening.proofs.check.Counting.{count_more}
use Rattle.ficus_opening.proofs.check.holding.count_live.Goals as goal

pub loop-index-preserved : goal.loop-index-preserved
loop-index-preserved c =
    let within : c.loop-index.index < length c.args.entries.now =
    omega (arith, c.loop-index-test.true, c.len-index-end.ensures.value) in
    record {
      within = omega (arith, within);
      counted = omega (
        arith,
        count_more c.args.entries.now c.loop-index.index c.at.result.now c.is_live.result within c.at.ensures
            c.is_live.ensures,
        c.from-count.ensures,
        c.loop-index.invariant.counted,
      );
    }
