use Rattle.ficus_path.specs.Text.{quoted_byte_text}
use Rattle.ficus_path.proofs.Lists.{flat_map_more}
use Rattle.ficus_path.proofs.text.append_text.Goals as goal

pub loop-byte-preserved : goal.loop-byte-preserved
loop-byte-preserved c =
    rw (
      c.in_ok-append_quoted_byte.ensures,
      c.loop-byte.invariant,
      flat_map_more quoted_byte_text c.push.new.self.items c.args.text.now c.loop-byte.byte-index 0
          c.loop-byte-test.true,
    )
