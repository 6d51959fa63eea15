use Rattle.ficus_journal.proofs.Relation.{kept_exactly}
use Rattle.ficus_journal.proofs.laws.what_is_kept.Goals as goal

pub returns : goal.returns
returns c = kept_exactly
