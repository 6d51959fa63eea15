use Rattle.std.proofs.Common.{◌+◌, length, sym, ◌∙◌, ap}
use Rattle.std.proofs.lemmas.List.{take_rest}
use Rattle.std.proofs.lemmas.Result.{IfOk-weaker}
use Rattle.ficus_log.specs.Log.{log_of}
use Rattle.ficus_log.proofs.Logs.{log_is}
use Rattle.ficus_journal.proofs.opening.records_behind.Goals as goal

pub returns-clause-log : goal.returns-clause-log
returns-clause-log c =
    let whole = take_rest c.args.force.now (17 + length c.args.slot.body.now) in
    IfOk-weaker c.read_records.result _ _ (λ found is. ap (log_of c.args.slot.generation) (sym whole) ∙ log_is is)
    c.read_records.ensures.log
