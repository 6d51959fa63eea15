use Rattle.std.proofs.Common.{◌≡◌, ◌-◌, ◌+◌, ◌<◌, ◌≤◌, List, length, get_or, set, drop, ◌∙◌, ap, sym, arith}
use Rattle.std.proofs.lemmas.List.{map-set, length-map}
use Rattle.ficus_table.specs.declared.edit.Edit.{Edit}
use Rattle.ficus_table.specs.Edits.{AreBelow, overlaid}
use Rattle.ficus_table.proofs.Shown.{overlaid_end, overlaid_drop, length_shown}
use Rattle.ficus_table.proofs.Sound.{one_below}
use Rattle.ficus_table.proofs.in_order.overlay.Goals as goal

pub loop-left-init : goal.loop-left-init
loop-left-init g c = (
  omega arith,
  c.requires.list ∙
      overlaid_end g.R.Row.formed g.R.Row.seen c.args.edits.now c.args.list.now (length c.args.edits.now) (omega arith),
)

-- the edit in front of this place is at an index of the list
index_below : {F : Type 0} (edits : List (Edit F)) (end left : _) (edit : Edit F) → AreBelow edits end → 0 < left →
    left ≤ length edits → edit ≡ get_or edits (left - 1) edit → edit.index < end
index_below edits end left edit below some within is =
    rw is (one_below edits end (left - 1) edit below (omega arith))

pub at-requires : goal.at-requires
at-requires g c =
    index_below c.args.edits.now (length c.args.list.now) c.loop-left.left c.index-edits-left.result
    c.requires.within c.loop-left-test.true c.loop-left.invariant.0 c.index-edits-left.is

pub index_mut-requires : goal.index_mut-requires
index_mut-requires g c =
    let within : c.index-edits-left.result.index < length c.args.list.now =
    index_below c.args.edits.now (length c.args.list.now) c.loop-left.left c.index-edits-left.result
    c.requires.within c.loop-left-test.true c.loop-left.invariant.0 c.index-edits-left.is in
    let same : length c.loop-left.seen.items ≡ length c.args.list.now =
    sym (length-map c.loop-left.seen.items (λ one. one.now)) ∙ ap length c.loop-left.invariant.1 ∙
    length_shown g.R.Row.formed g.R.Row.seen 0 (drop c.loop-left.left c.args.edits.now) c.args.list.now in
    omega arith

pub loop-left-preserved : goal.loop-left-preserved
loop-left-preserved g c =
    let edits = c.args.edits.now in
    let edit = c.index-edits-left.result in
    let more : c.loop-left.left ≡ c.loop-left.left - 1 + 1 = omega arith in
    let within : c.loop-left.left - 1 < length edits = omega arith in (
      omega arith,
      map-set (λ one. one.now) c.loop-left.seen.items edit.index c.formed.result ∙
          ap (λ items. set items edit.index c.formed.result.now) c.loop-left.invariant.1 ∙
          ap (λ item. set (overlaid g.R.Row.formed g.R.Row.seen (drop c.loop-left.left edits) c.args.list.now)
          edit.index item) c.formed.ensures ∙
          sym (overlaid_drop g.R.Row.formed g.R.Row.seen edits c.args.list.now c.loop-left.left
          (c.loop-left.left - 1) edit c.at.result.now more within c.index-edits-left.is c.at.ensures),
    )
