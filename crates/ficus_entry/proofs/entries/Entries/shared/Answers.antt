use Rattle.ficus_ids.specs.RisingLaws.{none_at_place}
use Rattle.ficus_entry.specs.declared.entry.Entry.{Entry}
use Rattle.ficus_entry.proofs.entries.Entries.shared.Goals as goal

pub returns-in-Err : goal.returns-in-Err
returns-in-Err c =
    rw (← c.self.view_is) (none_at_place (λ (e : Entry). e.id) c.self.inside.table.items c.args.id _
    c.in-Err.ensures.place)
