use Rattle.std.proofs.Common.{rules}
use Rattle.std.proofs.lemmas.List.Sorted.{answers_always}
use Rattle.ficus_ids.specs.Id.{id_cmp}
use Rattle.ficus_file.specs.declared.orphan.Orphan.{Orphan}
use Rattle.ficus_collection.proofs.Searched.{holds_by}
use Rattle.ficus_collection.proofs.unneeded.is_orphan.Goals as goal

pub returns : goal.returns
unfolding id_cmp
returns c =
    let facts = c.binary_search_by_key.ensures in
    holds_by (λ (o : Orphan). o.id) c.args.orphans.now c.args.id c.binary_search_by_key.result c.is_ok.result
    c.requires c.is_ok.ensures.value facts.bound
    (facts.position (λ orphan. orphan.id) (answers_always _ _ _ (λ f a r g called. search rules)))
