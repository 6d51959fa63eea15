use Rattle.std.specs.Prelude.{◌&&◌, nat_eq}
use Rattle.std.specs.Cmp.Rules.{comparing}
use Rattle.std.specs.List.{dedup}
use Rattle.std.specs.Ordering.{eq_by_cmp}
use Rattle.std.proofs.Common.{◌≡◌, ◌∙◌, ap, rules}
use Rattle.std.proofs.lemmas.List.Filters.{dedup_is}
use Rattle.std.proofs.lemmas.Map.Keys.{Less-from_sorted}
use Rattle.ficus_ids.specs.declared.id.Id.{Id}
use Rattle.ficus_ids.specs.Id.{id_cmp}
use Rattle.ficus_ids.specs.IdLaws.{id_cmp_total, id_cmp-Equal}
use Rattle.ficus_entry.specs.SortLaws.{rising_after, same_items}
use Rattle.ficus_entry.proofs.inside.once_each.Goals as goal
use Rattle.ficus_entry.proofs.inside.once_each.Goals.{After-dedup}

-- identifiers are equal where the order doesn't tell them apart
ties : (a b : Id) → (nat_eq a.replica b.replica && nat_eq a.number b.number) ≡ eq_by_cmp id_cmp a b
unfolding id_cmp
ties a b = search (comparing, rules)

equality : (λ (a : Id) (b : Id). nat_eq a.replica b.replica && nat_eq a.number b.number) ≡ eq_by_cmp id_cmp
equality = λ i a b. ties a b i

once : (c : After-dedup) → c.dedup.new.self.items ≡ dedup (eq_by_cmp id_cmp) c.sort_unstable.new.self.items
once c = dedup_is _ _ _ c.dedup.ensures.filtered ∙ ap (λ same. dedup same c.sort_unstable.new.self.items) equality

pub returns-clause-same : goal.returns-clause-same
returns-clause-same c = rw (once c) (same_items id_cmp_total id_cmp-Equal c.args.ids.items c.sort_unstable.new.self.items
    c.sort_unstable.ensures.permutation)

pub returns-clause-rising : goal.returns-clause-rising
unfolding id_cmp
returns-clause-rising c = rw (once c) (record {
  each = λ one other d before within. Less-from_sorted id_cmp _ one other d
      (rising_after id_cmp_total _ c.sort_unstable.ensures.sorted) before within;
})
