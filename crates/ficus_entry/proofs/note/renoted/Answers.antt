use Rattle.std.proofs.lemmas.Result.{IfOk-weaker}
use Rattle.ficus_entry.proofs.note.renoted.Goals as goal

pub returns : goal.returns
returns c =
    IfOk-weaker c.noting.result _ _
    (λ more is. record { others = c.in_ok-others.others; taken = c.in_ok-others.ensures; added = is }) c.noting.ensures
