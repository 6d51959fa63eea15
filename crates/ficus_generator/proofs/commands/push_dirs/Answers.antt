use Rattle.std.proofs.Common.{◌∙◌, [], ◌∷◌, ◌++◌, ap, arith}
use Rattle.ficus_script.specs.declared.command.Command.{Command}
use Rattle.ficus_generator.specs.Commands.{mkdir_command}
use Rattle.ficus_generator.proofs.Growing.{commands_more}
use Rattle.ficus_generator.proofs.commands.push_dirs.Goals as goal

pub loop-dir-preserved : goal.loop-dir-preserved
loop-dir-preserved c =
    commands_more (mkdir_command 1) _ _ _ 0 c.loop-dir.dir c.loop-dir.dir _ (omega arith) (omega arith) c.loop-dir.invariant
    (c.in_ok-push.ensures.items ∙ ap (λ (command : Command). c.loop-dir.commands.items ++ command ∷ []) c.in_ok-mkdir.ensures)
