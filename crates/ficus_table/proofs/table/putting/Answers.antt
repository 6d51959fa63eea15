use Rattle.std.proofs.Common.{◌∙◌, ap}
use Rattle.std.proofs.lemmas.Result.{IfOk-weaker}
use Rattle.ficus_table.proofs.Sound.{set_row, insert_row}
use Rattle.ficus_table.proofs.table.putting.Goals as goal

pub returns-in-Ok-clause-puts : goal.returns-in-Ok-clause-puts
returns-in-Ok-clause-puts g c =
    IfOk-weaker c.put.result _ _
    (λ more is. (set_row g.R.Row.id_of g.R.Row.seen g.R.Row.formed c.args.list.now more c.args.row c.id.result
    c.in-Ok.index c.requires (c.id.ensures ∙ ap g.R.Row.id_of c.look.ensures) c.in-Ok.ensures.found is).0)
    c.put.ensures

pub returns-in-Ok-clause-rising : goal.returns-in-Ok-clause-rising
returns-in-Ok-clause-rising g c =
    IfOk-weaker c.put.result _ _
    (λ more is. (set_row g.R.Row.id_of g.R.Row.seen g.R.Row.formed c.args.list.now more c.args.row c.id.result
    c.in-Ok.index c.requires (c.id.ensures ∙ ap g.R.Row.id_of c.look.ensures) c.in-Ok.ensures.found is).1)
    c.put.ensures

pub returns-in-Err-clause-puts : goal.returns-in-Err-clause-puts
returns-in-Err-clause-puts g c =
    IfOk-weaker c.insert.result _ _
    (λ more is. (insert_row g.R.Row.id_of g.R.Row.seen g.R.Row.formed c.args.list.now more c.args.row c.id.result
    c.in-Err.index c.requires (c.id.ensures ∙ ap g.R.Row.id_of c.look.ensures) c.in-Err.ensures.place is).0)
    c.insert.ensures

pub returns-in-Err-clause-rising : goal.returns-in-Err-clause-rising
returns-in-Err-clause-rising g c =
    IfOk-weaker c.insert.result _ _
    (λ more is. (insert_row g.R.Row.id_of g.R.Row.seen g.R.Row.formed c.args.list.now more c.args.row c.id.result
    c.in-Err.index c.requires (c.id.ensures ∙ ap g.R.Row.id_of c.look.ensures) c.in-Err.ensures.place is).1)
    c.insert.ensures
