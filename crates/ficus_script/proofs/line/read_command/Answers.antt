use Rattle.ficus_script.proofs.CommandLaws.{reading_of, no_arguments}
use Rattle.ficus_script.proofs.line.read_command.Goals as goal

pub returns-in_default : goal.returns-in_default
returns-in_default c = no_arguments c.args.line.now _ _ _ c.cut_line-by.ensures c.in_default.ensures

pub returns : goal.returns
returns c =
    reading_of c.args.line.now _ _ _ c.cut_line-by.ensures _ _ c.in-Some.ensures c.command_of.ensures
