use Rattle.std.proofs.Common.{◌↔◌}
use Rattle.std.specs.Prelude.{Contains}
use Rattle.std.proofs.lemmas.Result.{IfOk-weaker}
use Rattle.ficus_ids.specs.declared.id.Id.{Id}
use Rattle.ficus_deciding.specs.Chosen.{AreIdsOf, IsShownBy}
use Rattle.ficus_deciding.specs.View.{IsVisibleBy}
use Rattle.ficus_deciding.proofs.ChosenFiles.{visible_tables}
use Rattle.ficus_deciding.proofs.shown.visible_ids.Goals as goal

pub returns-clause-visible : goal.returns-clause-visible
returns-clause-visible c =
    let saved = c.args.saved.now in
    let names = c.in_ok-named.named in
    IfOk-weaker c.chosen.result (λ ids. AreIdsOf (IsShownBy saved.entries names) saved.files ids.items)
    (λ ids. (object : Id) → Contains ids.items object ↔ IsVisibleBy saved object)
    (λ ids are. visible_tables c.requires names c.in_ok-named.ensures ids.items are)
    (rw c.in_ok-files.ensures.same at c.chosen.ensures)
