use Rattle.ficus_merge_files.proofs.Determined.{same_versions, same_merge}
use Rattle.ficus_merge_files.proofs.laws.one_merge.Goals as goal

pub returns : goal.returns
returns c = record { versions = same_versions; files = same_merge }
