use Rattle.std.proofs.Common.{◌+◌, arith}
use Rattle.ficus_persistent.proofs.Rows.{length-joined_more, length_in_front}
use Rattle.ficus_persistent.proofs.below.count_of.Goals as goal

pub overflow_add-count : goal.overflow_add-count
overflow_add-count g c =
    let row = c.args.row.now in
    let i = c.loop-tree.tree-index in
    grind (
      arith,
      length-joined_more row i c.tree-item.result c.loop-tree-test.true,
      length_in_front row (i + 1),
      c.tree-item.is,
    )
