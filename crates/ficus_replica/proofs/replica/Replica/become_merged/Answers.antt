use Rattle.std.proofs.Common.{rules}
use Rattle.ficus_replica.proofs.replica.Replica.become_merged.Goals as goal

pub merge_news-requires : goal.merge_news-requires
merge_news-requires c = search rules

pub overflow_add-self : goal.overflow_add-self
overflow_add-self c = search rules
