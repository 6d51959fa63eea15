use Rattle.std.proofs.Common.{◌≤◌, List, length, sym, subst}
use Rattle.ficus_ids.specs.Rising.{IsRisingBy}
use Rattle.ficus_ids.specs.declared.id.Id.{Id}
use Rattle.ficus_names.specs.ListingLaws.{IsListing-along}
use Rattle.ficus_deciding.specs.View.{tables_view}
use Rattle.ficus_deciding.proofs.Tables.{tables_bound, shown_visible}
use Rattle.ficus_deciding.proofs.Trees.{AreFirst, first_more, first_all}
use Rattle.ficus_deciding.proofs.whole_tree.tree.Goals as goal

pub add_lines-requires-clause-visible : goal.add_lines-requires-clause-visible
add_lines-requires-clause-visible c =
    shown_visible c.args.saved.now (IsListing-along (tables_bound c.args.saved.now _)
    (IsListing-along (λ name target. c.in_ok-directories.ensures _ target name) c.in_ok-shown.ensures))

pub loop-dir-preserved : goal.loop-dir-preserved
loop-dir-preserved c =
    let rising : IsRisingBy (λ (id : Id). id) c.deref-dir-items.result.now =
    subst (IsRisingBy (λ (id : Id). id)) (sym c.deref-dir-items.ensures.value) c.in_ok-reached.ensures.rising in
    let added = c.in_ok-add_lines.ensures in
    rw added.2
    (first_more (tables_view c.args.saved.now) c.deref-dir-items.result.now rising c.loop-dir.dir-index _
    c.loop-dir-test.true c.loop-dir.lines.items added.0 c.in_ok-shown.field-0.items
    (IsListing-along (tables_bound c.args.saved.now _)
    (IsListing-along (λ name target. c.in_ok-directories.ensures _ target name) c.in_ok-shown.ensures))
    added.1 c.loop-dir.invariant)

pub returns : goal.returns
returns c =
    let first : AreFirst (tables_view c.args.saved.now) c.in_ok-reached.reached.items c.loop-dir.dir-index
    c.loop-dir.lines.items =
    subst (λ dirs. AreFirst (tables_view c.args.saved.now) dirs c.loop-dir.dir-index c.loop-dir.lines.items)
    c.deref-dir-items.ensures.value c.loop-dir.invariant in
    let past : length c.in_ok-reached.reached.items ≤ c.loop-dir.dir-index =
    subst (λ (dirs : List Id). length dirs ≤ c.loop-dir.dir-index) c.deref-dir-items.ensures.value
    c.loop-dir-test.false in
    first_all c.args.saved.now c.in_ok-reached.reached.items c.loop-dir.dir-index c.loop-dir.lines.items
    c.in_ok-reached.ensures.exact past first
