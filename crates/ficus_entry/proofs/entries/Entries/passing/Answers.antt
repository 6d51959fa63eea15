use Rattle.std.proofs.Common.{◌∙◌, sym, subst}
use Rattle.std.proofs.lemmas.Bool.{false≢true}
use Rattle.ficus_ids.specs.RisingLaws.{one_item}
use Rattle.ficus_entry.proofs.entries.Entries.passing.Goals as goal
use Rattle.ficus_entry.proofs.entries.Entries.passing.Goals.{in_default-via-in-Some+else-passes, in_default-via-in_default}

pub returns-in_default-clause-none : goal.returns-in_default-clause-none
returns-in_default-clause-none g c = λ entry inside passes is.
    elim c.in_default.branch [
      | in_default-via-in-Some+else-passes w ↦
          let found = w.in-Some.ensures.found in
          let same = one_item (λ e. e.id) c.args.self.now entry w.in-Some.entry.now c.get.ensures.rising inside
          found.0 (is ∙ sym found.1) in
          false≢true (w.if-passes.ensures.1 (subst (λ e. g.T.Test.Passes c.args.test.now e) same passes))
      | in_default-via-in_default w ↦ w.in_default.ensures.found (record { item = entry; inside = inside; has_id = is })
    ]
