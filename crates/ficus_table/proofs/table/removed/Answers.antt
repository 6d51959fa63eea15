use Rattle.std.proofs.lemmas.Result.{IfOk-weaker}
use Rattle.ficus_table.proofs.Left.{rising_without, leaves_one, leaves_none}
use Rattle.ficus_table.proofs.table.removed.Goals as goal

pub returns-in-Ok-clause-left : goal.returns-in-Ok-clause-left
returns-in-Ok-clause-left g c =
    IfOk-weaker c.remove.result _ _
    (λ fewer is. leaves_one (λ row. g.R.Row.id_of (g.R.Row.seen row)) c.args.list.now fewer c.args.id c.in-Ok.index
    c.requires c.in-Ok.ensures.found is) c.remove.ensures

pub returns-in-Ok-clause-rising : goal.returns-in-Ok-clause-rising
returns-in-Ok-clause-rising g c =
    IfOk-weaker c.remove.result _ _
    (λ fewer is. rw is (rising_without (λ row. g.R.Row.id_of (g.R.Row.seen row)) c.args.list.now c.in-Ok.index
    c.in-Ok.ensures.found.0 c.requires)) c.remove.ensures

pub returns-in-Err-clause-left : goal.returns-in-Err-clause-left
returns-in-Err-clause-left g c =
    IfOk-weaker c.copy.result _ _
    (λ fewer is. leaves_none (λ row. g.R.Row.id_of (g.R.Row.seen row)) c.args.list.now fewer c.args.id _
    c.in-Err.ensures.place is) c.copy.ensures
