use Rattle.std.proofs.lemmas.List.Sorted.{Contains-permutation, IsPermutation-sym}
use Rattle.ficus_ids.specs.Id.{id_cmp}
use Rattle.ficus_orphan.proofs.id_set.IdSet.of.Goals as goal

pub invariant_of-result : goal.invariant_of-result
unfolding id_cmp
invariant_of-result c = c.sort_unstable.ensures.sorted

pub returns : goal.returns
returns c = λ id.
    let ids = c.args.ids.items in
    let sorted = c.sort_unstable.new.self.items in
    let moved = c.sort_unstable.ensures.permutation in (
      Contains-permutation sorted ids id (IsPermutation-sym ids sorted moved),
      Contains-permutation ids sorted id moved,
    )
