use Rattle.std.proofs.Common.{ℕ, List, ap, ◌∙◌, ◌++◌}
use Rattle.ficus_record.specs.Record.{record_bytes}
use Rattle.ficus_record.specs.declared.record.Record.TheVariants.{Change as Changes}
use Rattle.ficus_stable_storage.proofs.framing.frame_change.Goals as goal

pub returns : goal.returns
returns c = λ members. c.in_ok-put_change.ensures.put members
    ∙ ap (λ (front : List ℕ). front ++ record_bytes members (Changes c.args.op.now)) c.in_ok-framed.ensures
