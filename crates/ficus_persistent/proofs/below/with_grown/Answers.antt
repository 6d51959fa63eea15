use Rattle.std.proofs.Common.{◌∙◌, add-one}
use Rattle.std.proofs.lemmas.List.{set_split}
use Rattle.std.proofs.lemmas.Result.{IfOk-weaker}
use Rattle.ficus_persistent.proofs.below.with_grown.Goals as goal

pub returns-in-One : goal.returns-in-One
returns-in-One g c =
    rw (c.in-One.is, add-one)
    (IfOk-weaker c.with_other.result _ _
    (λ new is. is ∙ set_split c.args.row.now c.args.child c.in-One.tree c.requires) c.with_other.ensures)
