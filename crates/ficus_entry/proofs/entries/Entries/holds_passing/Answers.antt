use Rattle.std.proofs.Common.{◌∙◌, sym, subst}
use Rattle.ficus_ids.specs.RisingLaws.{one_item}
use Rattle.ficus_entry.specs.declared.entry.Entry.{Entry}
use Rattle.ficus_entry.proofs.entries.Entries.holds_passing.Goals as goal

pub returns-in-Some : goal.returns-in-Some
returns-in-Some g c =
    let found = c.in-Some.ensures.found in
    let entry : Entry = c.in-Some.entry.now in (
      λ is. record { entry = entry; inside = found.0; so = c.passes.ensures.0 is; has_id = found.1 },
      λ such. c.passes.ensures.1 (subst (g.T.Test.Passes c.args.test.now)
          (one_item (λ e. e.id) c.args.self.now such.entry entry c.get.ensures.rising such.inside found.0
          (such.has_id ∙ sym found.1)) such.so),
    )
