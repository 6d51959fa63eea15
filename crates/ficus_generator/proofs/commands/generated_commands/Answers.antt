use Rattle.std.proofs.Common.{◌≡◌, ◌∙◌, List, ◌++◌, All, ap, subst, sym}
use Rattle.ficus_script.specs.declared.command.Command.{Command}
use Rattle.ficus_generator.specs.Commands.{dir_commands, first_pull_commands, script_commands, step_commands}
use Rattle.ficus_generator.specs.Lines.{StopsNothing}
use Rattle.ficus_generator.proofs.commands.generated_commands.Goals as goal

pub returns-clause-stopless : goal.returns-clause-stopless
returns-clause-stopless c =
    let steps = step_commands c.args.seed c.args.steps c.args.members in
    let pulls = first_pull_commands c.args.members in
    let has = c.lines_are_commands.ensures c.args.seed c.args.steps c.args.members c.requires.steps c.requires.members in
    let same : c.push_steps.new.commands.items ≡ script_commands c.args.seed c.args.steps c.args.members =
    c.in_ok-push_steps.ensures
    ∙ ap (λ (given : List Command). given ++ steps) (c.in_ok-push_first_pulls.ensures
    ∙ ap (λ (given : List Command). given ++ pulls) (c.in_ok-push_dirs.ensures
    ∙ ap (λ (given : List Command). given ++ dir_commands) c.new-commands.ensures.items)) in
    subst (λ (given : List Command). All StopsNothing given) (sym same) has.stopless
