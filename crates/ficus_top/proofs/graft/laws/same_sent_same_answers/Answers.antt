use Rattle.std.proofs.Common.{List, sym, subst}
use Rattle.ficus_script.specs.declared.command.Command.{Command}
use Rattle.ficus_runs.proofs.OneRun.{run_once}
use Rattle.ficus_runs.specs.Run.{Run}
use Rattle.ficus_top.specs.Graft.Answered.{answers_to}
use Rattle.ficus_top.proofs.graft.laws.same_sent_same_answers.Goals as goal

pub returns : goal.returns
returns c = λ volume W after later v sent more outcomes same one other.
    run_once one
    (subst (λ (commands : List Command). Run volume W commands outcomes (answers_to v more) later) (sym same) other)
