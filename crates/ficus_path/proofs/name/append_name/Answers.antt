use Rattle.ficus_path.specs.Spelling.{byte_text}
use Rattle.ficus_path.proofs.Lists.{flat_map_more}
use Rattle.ficus_path.proofs.name.append_name.Goals as goal

pub loop-byte-preserved : goal.loop-byte-preserved
loop-byte-preserved c =
    rw (
      c.in_ok-append_byte.ensures.ok,
      c.loop-byte.invariant,
      flat_map_more byte_text c.args.out.now.items c.bytes-byte-items.result.now c.loop-byte.byte-index 0
          c.loop-byte-test.true,
    )
