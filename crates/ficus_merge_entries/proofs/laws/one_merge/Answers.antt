use Rattle.ficus_merge_entries.proofs.Determined.{same_entry, same_merge}
use Rattle.ficus_merge_entries.proofs.laws.one_merge.Goals as goal

pub returns : goal.returns
returns c = record { entry = same_entry; list = same_merge }
