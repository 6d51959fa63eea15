use Rattle.std.proofs.Common.{◌≡◌, ◌≤◌, Some, length, slice_get, ap, arith}
use Rattle.std.proofs.lemmas.Bool.{both_ways}
use Rattle.ficus_ids.specs.declared.id.Id.{Id}
use Rattle.ficus_file.specs.Files.{id_of}
use Rattle.ficus_file.specs.declared.file.FileReplica.{FileReplica}
use Rattle.ficus_mentions.proofs.Kept.{none_more, one_more, all_kept}
use Rattle.ficus_collection.specs.Chosen.{HoldsOrphan}
use Rattle.ficus_collection.proofs.unneeded.loose.Goals as goal
use Rattle.ficus_collection.proofs.unneeded.loose.Goals.{then-not-is_orphan+in_ok-push, else-not-is_orphan}

pub loop-index-preserved : goal.loop-index-preserved
loop-index-preserved c =
    let files = c.args.files.now in
    let orphans = c.args.orphans.now in
    let index = c.loop-index.index in
    let file : FileReplica = c.at.result.now in
    let rising = c.in_ok-in_order.ensures.files.rising in
    let at : slice_get files index ≡ Some file = rw (← c.in_ok-in_order.ensures.same) c.at.ensures in
    elim c.if-not-is_orphan.branch [
      | then-not-is_orphan+in_ok-push w ↦ rw (w.ids-is, w.in_ok-push.ensures.items)
          (one_more id_of (λ (id : Id). HoldsOrphan orphans id → ⊥) files index file rising at c.loop-index.ids.items
          (λ orphan. both_ways c.is_orphan.result w.if-not-is_orphan.true (c.is_orphan.ensures.1 orphan))
          c.loop-index.invariant)
      | else-not-is_orphan w ↦ rw w.ids-is
          (none_more id_of (λ (id : Id). HoldsOrphan orphans id → ⊥) files index file rising at c.loop-index.ids.items
          (λ none. none (c.is_orphan.ensures.0 w.if-not-is_orphan.false)) c.loop-index.invariant)
    ]

pub returns-clause-loose : goal.returns-clause-loose
returns-clause-loose c =
    let past : length c.args.files.now ≤ c.loop-index.index =
    omega (arith, c.loop-index-test.false, c.len-index-end.ensures.value, ap length c.in_ok-in_order.ensures.same) in
    all_kept id_of (λ (id : Id). HoldsOrphan c.args.orphans.now id → ⊥) c.args.files.now c.loop-index.index
    c.loop-index.ids.items past c.loop-index.invariant
