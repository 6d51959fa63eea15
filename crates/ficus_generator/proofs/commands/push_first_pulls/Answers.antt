use Rattle.std.proofs.Common.{◌-◌, arith}
use Rattle.ficus_script.specs.declared.command.Command.TheVariants.{Pull}
use Rattle.ficus_generator.proofs.Growing.{commands_more}
use Rattle.ficus_generator.proofs.commands.push_first_pulls.Goals as goal

pub loop-member-preserved : goal.loop-member-preserved
loop-member-preserved c =
    commands_more (λ member. Pull member 1) _ _ _ 2 (c.loop-member.member - 2) c.loop-member.member _ (omega arith)
    (omega arith) c.loop-member.invariant c.in_ok-push.ensures.items

pub returns-in_ok-push : goal.returns-in_ok-push
returns-in_ok-push c =
    commands_more (λ member. Pull member 1) _ _ _ 2 (c.loop-member.member - 2) c.loop-member.member _ (omega arith)
    (omega arith) c.loop-member.invariant c.in_ok-push.ensures.items
