use Rattle.std.proofs.Common.{◌≡◌, sym, subst}
use Rattle.std.specs.Prelude.{filter}
use Rattle.std.proofs.lemmas.Result.{IfOk-weaker}
use Rattle.ficus_rules.specs.Marks.{AreMarksIn}
use Rattle.ficus_deciding.specs.Entries.{is_removed}
use Rattle.ficus_deciding.specs.View.{tables_view}
use Rattle.ficus_deciding.proofs.RemovedEntries.{marks_tables}
use Rattle.ficus_deciding.proofs.removed.marks.Goals as goal

pub returns : goal.returns
returns c =
    let saved = c.args.saved.now in
    IfOk-weaker c.removed_of.result (λ removed. removed.items ≡ filter is_removed saved.entries)
    (λ removed. AreMarksIn (tables_view saved) removed.items)
    (λ removed are. subst (AreMarksIn (tables_view saved)) (sym are) (marks_tables saved c.requires.tables.rising))
    (rw c.in_ok-entries.ensures at c.removed_of.ensures)
