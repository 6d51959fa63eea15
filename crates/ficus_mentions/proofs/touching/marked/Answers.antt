use Rattle.std.proofs.Common.{◌≡◌, Some, false, get_or, slice_get, ap, ◌∙◌, arith}
use Rattle.std.proofs.lemmas.Option.{slice_get-get_or}
use Rattle.ficus_ids.specs.declared.id.Id.{Id}
use Rattle.ficus_mentions.specs.Touched.{HasMark}
use Rattle.ficus_mentions.proofs.Kept.{none_more, one_more, all_kept}
use Rattle.ficus_mentions.proofs.Marking.{mark_set, mark_clear, kept_is}
use Rattle.ficus_mentions.proofs.touching.marked.Goals as goal
use Rattle.ficus_mentions.proofs.touching.marked.Goals.{then-marks-index+in_ok-push, else-marks-index}

pub loop-index-preserved : goal.loop-index-preserved
loop-index-preserved c =
    let ids = c.args.ids.now in
    let marks = c.args.marks.now in
    let index = c.loop-index.index in
    let id : Id = get_or ids index (record { replica = 0; number = 0 }) in
    let at : slice_get ids index ≡ Some id =
    slice_get-get_or ids index (record { replica = 0; number = 0 }) c.loop-index-test.true in
    let mark : slice_get marks index ≡ Some (get_or marks index false) =
    slice_get-get_or marks index false (omega (arith, c.requires.lengths)) in
    elim c.if-marks-index.branch [
      | then-marks-index+in_ok-push w ↦ rw (w.kept-is, w.in_ok-push.ensures.items)
          (one_more (λ (other : Id). other) (HasMark ids marks) ids index id c.requires.rising at
          c.loop-index.kept.items
          (mark_set ids marks index id at (mark ∙ ap Some w.if-marks-index.true)) c.loop-index.invariant)
      | else-marks-index w ↦ rw w.kept-is
          (none_more (λ (other : Id). other) (HasMark ids marks) ids index id c.requires.rising at
          c.loop-index.kept.items
          (mark_clear ids marks index id c.requires.rising at (mark ∙ ap Some w.if-marks-index.false))
          c.loop-index.invariant)
    ]

pub returns-clause-marked : goal.returns-clause-marked
returns-clause-marked c =
    kept_is c.args.ids.now c.args.marks.now c.loop-index.kept.items
    (all_kept (λ (id : Id). id) (HasMark c.args.ids.now c.args.marks.now) c.args.ids.now c.loop-index.index
    c.loop-index.kept.items (omega arith) c.loop-index.invariant)
