use Rattle.ficus_journal.proofs.Gates.{same_kept, wants_record}
use Rattle.ficus_journal.proofs.laws.left_by_two_slots.Goals as goal

pub returns : goal.returns
returns c = record { kept = same_kept; wants = wants_record }
