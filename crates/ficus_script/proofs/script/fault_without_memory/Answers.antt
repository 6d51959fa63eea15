use Rattle.ficus_script.proofs.Scripts.{IsSeenTo-more}
use Rattle.ficus_script.proofs.script.fault_without_memory.Goals as goal

pub loop-line-preserved : goal.loop-line-preserved
loop-line-preserved g c =
    IsSeenTo-more _ c.in-Some.line.now c.in-Some.others.now c.loop-line.invariant c.in-Some.ensures.lines
    c.in-Some.ensures.shorter (c.may_stand.ensures.0 c.if-not-may_stand.false)
