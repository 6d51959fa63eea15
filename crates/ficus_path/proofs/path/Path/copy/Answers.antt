use Rattle.std.proofs.lemmas.List.{take_more}
use Rattle.ficus_path.proofs.path.Path.copy.Goals as goal

pub loop-part-preserved : goal.loop-part-preserved
loop-part-preserved c =
    rw (
      c.in_ok-push.ensures.items,
      c.loop-part.invariant,
      c.in_ok-copy.ensures,
      take_more c.items-part-items.result.now c.loop-part.part-index c.part-item.result c.loop-part-test.true,
      ← c.part-item.is,
    )
