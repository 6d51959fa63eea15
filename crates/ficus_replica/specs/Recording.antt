-- Which record is that of an event after a history.
use Rattle.std.specs.Prelude.{ℕ, List}
use Rattle.ficus_entry.specs.declared.entry.Entry.{Entry}
use Rattle.ficus_file.specs.declared.file.FileReplica.{FileReplica}
use Rattle.ficus_model.specs.declared.event.Event.{Event}
use Rattle.ficus_model.specs.declared.event.Event.TheVariants.{Update, Ask, Accept, Collect}
use Rattle.ficus_model.specs.declared.event.Op.{Op}
use Rattle.ficus_model.specs.Lawful.{Volume}
use Rattle.ficus_record.specs.declared.record.Record.{Record}
use Rattle.ficus_record.specs.declared.record.Record.TheVariants as noted
use Rattle.ficus_replica.specs.Accept.{IsServed}

-- of the replica's updates, asks and collections, and of its taking of the tables that were served to it; nothing else
-- is noted
pub data IsRecordOf (volume : Volume) (H : List Event) (r : ℕ) : Event → Record → Type 0 where
  OfUpdate : {op : Op} → IsRecordOf volume H r (Update r op) (noted.Change op)
  OfAsk : {to : ℕ} → IsRecordOf volume H r (Ask r to) noted.Ask
  OfAccept : {serve piece from number : ℕ} {entries : List Entry} {files : List FileReplica}
      → IsServed volume H r from number entries files serve
      → IsRecordOf volume H r (Accept r serve piece) (noted.Accept entries files)
  OfCollect : IsRecordOf volume H r (Collect r) noted.Collect
