use Rattle.std.proofs.Common.{length}
use Rattle.ficus_script.proofs.Scripts.{IsReadTo}
use Rattle.ficus_script.proofs.script.take_lines.Given as goal

abbrev pub invariant-loop-line : goal.invariant-loop-line
invariant-loop-line g l = IsReadTo (g.G.Grammar.spells l.grammar) (g.G.Grammar.is_spelled l.grammar) l.bytes l.number l.lines.items l.rest

abbrev pub decreases-loop-line : goal.decreases-loop-line
decreases-loop-line g l = length l.rest
