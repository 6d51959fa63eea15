use Rattle.std.proofs.Common.{◌≡◌, ◌++◌, ◌∷◌, [], length, insert, ◌∙◌, ap}
use Rattle.std.proofs.lemmas.Result.{IfOk-weaker}
use Rattle.ficus_table.proofs.Grown.{rising_appended}
use Rattle.ficus_table.proofs.table.Table.appending.Goals as goal

pub returns-clause-rising : goal.returns-clause-rising
returns-clause-rising g c =
    IfOk-weaker c.insert.result _ _
    (λ more is. rising_appended g.R.Row.id_of g.R.Row.seen c.in_ok-list.list more c.args.row c.in_ok-list.ensures.rising
    (rw c.in_ok-list.ensures.same c.requires) (is ∙ ap (λ n. insert c.in_ok-list.list n c.args.row) c.len.ensures))
    c.insert.ensures
