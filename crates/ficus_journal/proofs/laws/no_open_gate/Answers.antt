use Rattle.ficus_journal.proofs.Gates.{journal_shut, two_slots_shut, wants_by_count}
use Rattle.ficus_journal.proofs.laws.no_open_gate.Goals as goal

pub returns : goal.returns
returns c = record { two_slots = two_slots_shut; journal = journal_shut; wants = wants_by_count }
