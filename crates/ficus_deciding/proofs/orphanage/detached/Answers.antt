use Rattle.std.proofs.lemmas.Result.{IfOk-weaker}
use Rattle.ficus_rules.specs.Detached.{AreDetachedIn}
use Rattle.ficus_deciding.specs.Chosen.{AreIdsOf, IsApart}
use Rattle.ficus_deciding.specs.View.{tables_view}
use Rattle.ficus_deciding.proofs.ChosenFiles.{detached_tables}
use Rattle.ficus_deciding.proofs.orphanage.detached.Goals as goal

pub returns : goal.returns
returns c =
    let saved = c.args.saved.now in
    let named = c.in_ok-named.named in
    let reached = c.in_ok-reached.reached in
    IfOk-weaker c.chosen.result (λ dirs. AreIdsOf (IsApart named reached) saved.files dirs.items)
    (λ dirs. AreDetachedIn (tables_view saved) dirs.items)
    (λ dirs are. detached_tables c.requires named c.in_ok-named.ensures reached c.in_ok-reached.ensures dirs.items are)
    (rw c.in_ok-files.ensures.same at c.chosen.ensures)
