use Rattle.std.proofs.lemmas.Result.{on_ok_weaker}
use Rattle.ficus_ids.specs.RisingLaws.{put_adds}
use Rattle.ficus_entry.specs.declared.entry.Entry.{Entry}
use Rattle.ficus_entry.proofs.entries.Entries.insert.Goals as goal

pub returns-clause-added : goal.returns-clause-added
returns-clause-added c =
    on_ok_weaker c.put.result
    (λ puts. put_adds (λ (e : Entry). e.id) c.args.self.now _ c.args.entry c.requires puts) c.put.ensures.put
