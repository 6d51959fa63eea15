use Rattle.std.proofs.Common.{◌≡◌, arith}
use Rattle.ficus_generator.specs.Script.{mkdir_line}
use Rattle.ficus_generator.proofs.Growing.{lines_more}
use Rattle.ficus_generator.proofs.script.append_dirs.Goals as goal

pub loop-dir-preserved : goal.loop-dir-preserved
loop-dir-preserved c =
    lines_more (mkdir_line 1) _ _ _ 0 c.loop-dir.dir c.loop-dir.dir _ (omega arith) (omega arith) c.loop-dir.invariant
    c.in_ok-append_mkdir.ensures

pub returns : goal.returns
returns c =
    let end : c.loop-dir.dir ≡ 4 = omega (arith, c.loop-dir-test.false, c.loop-dir.auto.dir-end) in
    rw end at c.loop-dir.invariant
