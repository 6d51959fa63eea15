use Rattle.std.proofs.lemmas.List.Filters.{dedup_is}
use Rattle.ficus_resolve.proofs.Order.{in_order}
use Rattle.ficus_resolve.proofs.contents.sorted.Goals as goal

pub returns : goal.returns
returns c =
    rw (dedup_is _ _ _ c.dedup.ensures.filtered) (in_order _ _ c.sort_unstable.ensures.permutation c.sort_unstable.ensures.sorted)
