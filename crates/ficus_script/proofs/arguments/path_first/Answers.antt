use Rattle.ficus_script.proofs.ArgumentLaws.{no_path}
use Rattle.ficus_script.proofs.arguments.path_first.Goals as goal

pub returns-in_err-read : goal.returns-in_err-read
returns-in_err-read c = rw c.from_residual.ensures (no_path c.args.first.now _ c.requires c.in_err-read.ensures.none)

pub returns-in-Some : goal.returns-in-Some
returns-in-Some c = rw (c.in-Some.is, c.in_ok-read.ensures.found) c.path_and_last.ensures
