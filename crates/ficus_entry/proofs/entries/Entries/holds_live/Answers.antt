use Rattle.std.proofs.Common.{◌∙◌, sym, ap}
use Rattle.ficus_ids.specs.RisingLaws.{one_item}
use Rattle.ficus_entry.specs.declared.entry.Entry.{Entry}
use Rattle.ficus_entry.proofs.entries.Entries.holds_live.Goals as goal

pub returns-in-Some : goal.returns-in-Some
returns-in-Some c =
    let found = c.in-Some.ensures.found in
    let entry : Entry = c.in-Some.entry.now in (
      λ is. record { entry = entry; inside = found.0; has_id = found.1; live = c.is_live.ensures.0 is },
      λ holds. c.is_live.ensures.1
          (ap (λ (e : Entry). e.state)
          (one_item (λ e. e.id) c.args.self.now entry holds.entry c.get.ensures.rising found.0 holds.inside
          (found.1 ∙ sym holds.has_id)) ∙ holds.live),
    )
