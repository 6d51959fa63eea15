use Rattle.std.proofs.Common.{◌≡◌, subst, sym, rules}
use Rattle.std.specs.List.Sorted.{IsSorted}
use Rattle.ficus_ids.specs.Id.{id_cmp}
use Rattle.ficus_orphan.proofs.Sorted.{sorted_has}
use Rattle.ficus_orphan.proofs.id_set.IdSet.has.Goals as goal

pub returns : goal.returns
unfolding id_cmp
returns c =
    let ids = c.deref.result.now in
    let found = c.binary_search.ensures in
    let seen : ids ≡ c.args.self.now = search rules in
    let sorted : IsSorted id_cmp ids = subst (IsSorted id_cmp) (sym c.deref.ensures.value) c.self.invariant in
    rw seen at (sorted_has ids c.args.id c.binary_search.result c.is_ok.result sorted c.is_ok.ensures.value found.bound
    found.position)
