use Rattle.std.proofs.Common.{◌∙◌, sym, ap, Some, None}
use Rattle.std.proofs.lemmas.Result.{IfOk-weaker}
use Rattle.ficus_table.proofs.Shown.{shown_by}
use Rattle.ficus_table.proofs.table.Table.row.Goals as goal

pub returns-in-None : goal.returns-in-None
returns-in-None g c =
    rw (← c.self.view_is)
    (IfOk-weaker c.copied.result _ _
    (λ copy is. shown_by g.R.Row.formed g.R.Row.seen c.self.inside.edits.items c.self.inside.list c.args.index
    c.at-row.result.now None c.at-row.ensures (cc (c.in-None.ensures, c.deref.ensures.value))
    ∙ ap (λ r. Some (g.R.Row.seen r)) (sym is)) c.copied.ensures)

pub returns-in-Some : goal.returns-in-Some
returns-in-Some g c =
    rw (← c.self.view_is)
    (IfOk-weaker c.reformed.result _ _
    (λ made is. shown_by g.R.Row.formed g.R.Row.seen c.self.inside.edits.items c.self.inside.list c.args.index
    c.at-row.result.now (Some c.in-Some.form.now) c.at-row.ensures (cc (c.in-Some.ensures, c.deref.ensures.value))
    ∙ ap Some (sym is)) c.reformed.ensures)
