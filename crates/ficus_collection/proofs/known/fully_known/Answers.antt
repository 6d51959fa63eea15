use Rattle.std.proofs.Common.{◌≡◌, ◌≤◌, Some, length, slice_get, refl, ap, arith}
use Rattle.std.proofs.lemmas.Bool.{both_ways}
use Rattle.std.proofs.lemmas.Option.{slice_get_within, get_or_from_slice_get}
use Rattle.std.specs.Prelude.{Contains}
use Rattle.ficus_entry.specs.Entry.{IsRising}
use Rattle.ficus_entry.specs.declared.entry.Entry.{Entry}
use Rattle.ficus_mentions.proofs.Kept.{none_more, one_more, all_kept}
use Rattle.ficus_collection.proofs.Left.{HoldsKnown, not_known, of_known}
use Rattle.ficus_collection.proofs.known.fully_known.Goals as goal
use Rattle.ficus_collection.proofs.known.fully_known.Goals.{then-is_fully_known+in_ok-push, else-is_fully_known}

pub loop-index-preserved : goal.loop-index-preserved
loop-index-preserved c =
    let entries = c.args.entries.now in
    let members = c.args.members in
    let index = c.loop-index.index in
    let entry : Entry = c.at-entry.result.now in
    let rising : IsRising entries = rw (← c.in_ok-in_order.ensures) c.len-index-end.ensures.rising in
    let at : slice_get entries index ≡ Some entry = rw (← c.in_ok-in_order.ensures) c.at-entry.ensures in
    let inside : Contains entries entry =
    (index, slice_get_within entries index entry at, get_or_from_slice_get entries index entry entry at) in
    elim c.if-is_fully_known.branch [
      | then-is_fully_known+in_ok-push w ↦ rw (w.ids-is, w.in_ok-push.ensures.items)
          (one_more (λ (e : Entry). e.id) (HoldsKnown members entries) entries index entry rising at
          c.loop-index.ids.items (record {
            entry = entry;
            inside = inside;
            has_id = refl;
            known = c.is_fully_known.ensures.0 w.if-is_fully_known.true;
          }) c.loop-index.invariant)
      | else-is_fully_known w ↦ rw w.ids-is
          (none_more (λ (e : Entry). e.id) (HoldsKnown members entries) entries index entry rising at
          c.loop-index.ids.items
          (not_known members entries rising entry inside
          (λ known. both_ways c.is_fully_known.result w.if-is_fully_known.false (c.is_fully_known.ensures.1 known)))
          c.loop-index.invariant)
    ]

pub returns : goal.returns
returns c =
    let entries = c.args.entries.now in
    let members = c.args.members in
    let past : length entries ≤ c.loop-index.index =
    omega (arith, c.loop-index-test.false, c.len-index-end.ensures.value, ap length c.in_ok-in_order.ensures) in
    of_known members entries (rw (← c.in_ok-in_order.ensures) c.len-index-end.ensures.rising) c.loop-index.ids.items
    (all_kept (λ (e : Entry). e.id) (HoldsKnown members entries) entries c.loop-index.index c.loop-index.ids.items past
    c.loop-index.invariant)
