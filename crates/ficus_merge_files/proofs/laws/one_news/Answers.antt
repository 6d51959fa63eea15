use Rattle.ficus_merge_files.proofs.Determined.{same_count, same_news}
use Rattle.ficus_merge_files.proofs.laws.one_news.Goals as goal

pub returns : goal.returns
returns c = record { files = same_news; count = same_count }
