use Rattle.std.proofs.lemmas.Result.{IfOk-weaker}
use Rattle.ficus_orphan.specs.Orphan.{AreOrphans}
use Rattle.ficus_rules.specs.Orphans.{AreOrphansIn}
use Rattle.ficus_deciding.specs.View.{tables_view}
use Rattle.ficus_deciding.proofs.Orphanages.{orphans_tables}
use Rattle.ficus_deciding.proofs.orphanage.orphans.Goals as goal

pub returns : goal.returns
returns c =
    let saved = c.args.saved.now in
    IfOk-weaker c.orphans.result (λ orphans. AreOrphans saved.entries saved.files orphans.items)
    (λ orphans. AreOrphansIn (tables_view saved) orphans.items)
    (λ orphans are. orphans_tables c.requires orphans.items are) c.orphans.ensures
