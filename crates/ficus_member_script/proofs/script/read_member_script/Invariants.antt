use Rattle.std.proofs.Common.{length}
use Rattle.ficus_member_script.proofs.Lines.{IsDraftOf}
use Rattle.ficus_member_script.proofs.script.read_member_script.Given as goal

abbrev pub invariant-loop-line : goal.invariant-loop-line
invariant-loop-line l = IsDraftOf l.bytes l.number l.draft l.rest

abbrev pub decreases-loop-line : goal.decreases-loop-line
decreases-loop-line l = length l.rest
