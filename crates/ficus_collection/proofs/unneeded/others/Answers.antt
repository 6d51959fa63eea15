use Rattle.std.proofs.Common.{◌≡◌, Some, get_or, slice_get, subst, refl}
use Rattle.std.proofs.lemmas.Bool.{both_ways}
use Rattle.std.proofs.lemmas.Option.{slice_get-get_or}
use Rattle.std.specs.Prelude.{Contains}
use Rattle.ficus_ids.specs.declared.id.Id.{Id}
use Rattle.ficus_mentions.proofs.Kept.{none_more, one_more, all_kept}
use Rattle.ficus_collection.proofs.unneeded.others.Goals as goal
use Rattle.ficus_collection.proofs.unneeded.others.Goals.{then-not-is_among+in_ok-push, else-not-is_among}

pub loop-id-preserved : goal.loop-id-preserved
loop-id-preserved c =
    let ids = c.args.ids.now in
    let others = c.args.others.now in
    let index = c.loop-id.id-index in
    let id : Id = get_or ids index (record { replica = 0; number = 0 }) in
    let at : slice_get ids index ≡ Some id =
    slice_get-get_or ids index (record { replica = 0; number = 0 }) c.loop-id-test.true in
    elim c.if-not-is_among.branch [
      | then-not-is_among+in_ok-push w ↦ rw (w.left-is, w.in_ok-push.ensures.items)
          (one_more (λ (i : Id). i) (λ (i : Id). Contains others i → ⊥) ids index id c.requires.ids at
          c.loop-id.left.items
          (λ inside. both_ways c.is_among.result w.if-not-is_among.true (c.is_among.ensures.1 inside))
          c.loop-id.invariant)
      | else-not-is_among w ↦ rw w.left-is
          (none_more (λ (i : Id). i) (λ (i : Id). Contains others i → ⊥) ids index id c.requires.ids at
          c.loop-id.left.items (λ none. none (c.is_among.ensures.0 w.if-not-is_among.false)) c.loop-id.invariant)
    ]

pub returns : goal.returns
returns c id =
    let are = all_kept (λ (i : Id). i) (λ (i : Id). Contains c.args.others.now i → ⊥) c.args.ids.now
    c.loop-id.id-index c.loop-id.left.items c.loop-id-test.false c.loop-id.invariant id in (
      λ inside.
          let held = are.0 inside in
          (subst (Contains c.args.ids.now) held.0.has_id held.0.inside, held.1),
      λ kept. are.1 (record { item = id; inside = kept.0; has_id = refl }, kept.1),
    )
