use Rattle.std.proofs.Common.{◌∙◌, sym, ap}
use Rattle.ficus_ids.specs.RisingLaws.{one_item}
use Rattle.ficus_entry.specs.declared.entry.Entry.{Entry}
use Rattle.ficus_entry.proofs.entries.Entries.lies_inside.Goals as goal

pub returns-in-Some : goal.returns-in-Some
returns-in-Some c =
    let found = c.in-Some.ensures.found in
    let entry : Entry = c.in-Some.entry.now in (
      λ is. record { entry = entry; inside = found.0; so = c.is_in.ensures.0 is; has_id = found.1 },
      λ lies. c.is_in.ensures.1
          (ap (λ (e : Entry). e.dir)
          (one_item (λ e. e.id) c.args.self.now entry lies.entry c.get.ensures.rising found.0 lies.inside
          (found.1 ∙ sym lies.has_id)) ∙ lies.so),
    )
