use Rattle.std.proofs.Common.{◌↔◌}
use Rattle.std.specs.Prelude.{Contains}
use Rattle.std.proofs.lemmas.Result.{IfOk-weaker}
use Rattle.ficus_ids.specs.declared.id.Id.{Id}
use Rattle.ficus_deciding.specs.Chosen.{AreIdsOf, IsClashing}
use Rattle.ficus_deciding.specs.View.{tables_view}
use Rattle.ficus_deciding.proofs.ChosenFiles.{clashing_tables}
use Rattle.ficus_deciding.proofs.clashing.files_in_conflict.Goals as goal

pub returns-clause-files : goal.returns-clause-files
returns-clause-files c =
    let saved = c.args.saved.now in
    let names = c.in_ok-named.named in
    IfOk-weaker c.chosen.result (λ ids. AreIdsOf (IsClashing saved.entries names) saved.files ids.items)
    (λ ids. (file : Id) → Contains ids.items file ↔ (tables_view saved).conflicts file)
    (λ ids are. clashing_tables c.requires names c.in_ok-named.ensures ids.items are)
    (rw c.in_ok-files.ensures.same at c.chosen.ensures)
