use Rattle.std.specs.List.{dedup}
use Rattle.std.proofs.Common.{◌∙◌, ap}
use Rattle.std.proofs.lemmas.List.Filters.{dedup_is}
use Rattle.ficus_entry.specs.SortLaws.{rising_after, same_items}
use Rattle.ficus_names.proofs.once.once_each.Goals as goal

pub returns-clause-same : goal.returns-clause-same
returns-clause-same g c =
    let order = g.met.T.Ord in
    let kept = dedup_is _ _ _ c.dedup.ensures.filtered
    ∙ ap (λ same. dedup same c.sort_unstable.new.self.items) (λ i a b. order.matches_eq a b i) in
    rw kept (same_items order.total c.requires.exact _ _ c.sort_unstable.ensures.permutation)

pub returns-clause-rising : goal.returns-clause-rising
returns-clause-rising g c =
    let order = g.met.T.Ord in
    let kept = dedup_is _ _ _ c.dedup.ensures.filtered
    ∙ ap (λ same. dedup same c.sort_unstable.new.self.items) (λ i a b. order.matches_eq a b i) in
    rw kept (rising_after order.total _ c.sort_unstable.ensures.sorted)
