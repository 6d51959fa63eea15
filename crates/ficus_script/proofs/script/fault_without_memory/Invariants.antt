use Rattle.std.proofs.Common.{length}
use Rattle.ficus_script.specs.Script.{MayStand}
use Rattle.ficus_script.proofs.Scripts.{IsSeenTo}
use Rattle.ficus_script.proofs.script.fault_without_memory.Given as goal

abbrev pub invariant-loop-line : goal.invariant-loop-line
invariant-loop-line g l = IsSeenTo (MayStand (g.G.Grammar.is_spelled l.grammar)) l.bytes l.number l.rest

abbrev pub decreases-loop-line : goal.decreases-loop-line
decreases-loop-line g l = length l.rest
