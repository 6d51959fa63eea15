use Rattle.std.proofs.Common.{rules}
use Rattle.ficus_generator.specs.Script.{dir_lines, first_pull_lines, step_lines}
use Rattle.ficus_generator.proofs.Growing.{parts_written}
use Rattle.ficus_generator.proofs.script.generate.Goals as goal

pub returns : goal.returns
returns c =
    parts_written dir_lines (first_pull_lines c.args.members) (step_lines c.args.seed c.args.steps c.args.members) _ _ _ _
    (search rules) c.in_ok-append_dirs.ensures c.in_ok-append_first_pulls.ensures c.in_ok-append_steps.ensures
