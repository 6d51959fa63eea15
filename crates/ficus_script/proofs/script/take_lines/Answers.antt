use Rattle.ficus_script.proofs.Scripts.{IsReadTo-more, IsReadTo-none, from_ok}
use Rattle.ficus_script.proofs.script.take_lines.Goals as goal

pub loop-line-init : goal.loop-line-init
loop-line-init g c = rw c.new-lines.ensures.items (IsReadTo-none _ _ c.args.bytes.now)

pub loop-line-preserved : goal.loop-line-preserved
loop-line-preserved g c =
    IsReadTo-more _ _ c.in-Some.line.now c.in-Some.others.now c.loop-line.invariant c.in-Some.ensures.lines c.in-Some.ensures.shorter
    (from_ok c.take_line.result c.map_err.result _ c.in_ok-map_err.was c.map_err.ensures.variant c.take_line.ensures.taken)
