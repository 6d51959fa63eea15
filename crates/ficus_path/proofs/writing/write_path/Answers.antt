use Rattle.ficus_path.specs.Spelling.{part_text}
use Rattle.ficus_path.proofs.Lists.{flat_map_more}
use Rattle.ficus_path.proofs.writing.write_path.Goals as goal

pub loop-part-preserved : goal.loop-part-preserved
loop-part-preserved c =
    rw (
      c.in_ok-append_part.ensures,
      c.loop-part.invariant,
      flat_map_more part_text c.append_start.new.out.items c.items-parts.result.now c.loop-part.part-index c.part-item.result
          c.loop-part-test.true,
      ← c.part-item.is,
    )
