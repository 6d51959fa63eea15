use Rattle.std.proofs.Common.{◌-◌, arith}
use Rattle.ficus_generator.specs.Script.{pull_line}
use Rattle.ficus_generator.proofs.Growing.{lines_more}
use Rattle.ficus_generator.proofs.script.append_first_pulls.Goals as goal

pub loop-member-preserved : goal.loop-member-preserved
loop-member-preserved c =
    lines_more (λ member. pull_line member 1) _ _ _ 2 (c.loop-member.member - 2) c.loop-member.member _ (omega arith)
    (omega arith) c.loop-member.invariant c.in_ok-append_pull.ensures

pub returns-in_ok-append_pull : goal.returns-in_ok-append_pull
returns-in_ok-append_pull c =
    lines_more (λ member. pull_line member 1) _ _ _ 2 (c.loop-member.member - 2) c.loop-member.member _ (omega arith) (omega arith)
    c.loop-member.invariant c.in_ok-append_pull.ensures
