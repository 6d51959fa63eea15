use Rattle.std.proofs.Common.{◌≡◌, ◌-◌, ◌+◌, ◌<◌, length, map, set, drop, ◌∙◌, ap, sym, arith}
use Rattle.std.proofs.lemmas.List.{map-set}
use Rattle.ficus_table.specs.Edits.{overlaid}
use Rattle.ficus_table.proofs.Shown.{overlaid_end, overlaid_drop}
use Rattle.ficus_table.proofs.Sound.{one_below, rising_whole}
use Rattle.ficus_table.proofs.table.Table.whole.Goals as goal

pub loop-left-init : goal.loop-left-init
loop-left-init g c =
    let edits = c.self.inside.edits in
    let end : c.len-left.result ≡ length edits.items = c.len-left.ensures ∙ edits.ok.0 in (
      omega arith,
      ap (map g.R.Row.seen) c.in_ok-list.ensures ∙
          overlaid_end g.R.Row.formed g.R.Row.seen edits.items c.self.inside.list c.len-left.result (omega arith),
    )

pub at-requires : goal.at-requires
at-requires g c =
    let within : c.loop-left.left - 1 < length c.self.inside.edits.items = omega arith in
    rw c.index-edit.ensures
    (one_below c.self.inside.edits.items (length c.self.inside.list) (c.loop-left.left - 1) c.index-edit.result.now
    c.self.invariant.within within)

pub loop-left-preserved : goal.loop-left-preserved
loop-left-preserved g c =
    let edits = c.self.inside.edits.items in
    let edit = c.index-edit.result.now in
    let more : c.loop-left.left ≡ c.loop-left.left - 1 + 1 = omega arith in
    let within : c.loop-left.left - 1 < length edits = omega arith in (
      omega arith,
      ap (map g.R.Row.seen) c.in_ok-list-2.ensures ∙
          map-set g.R.Row.seen c.loop-left.list edit.index c.in_ok-row.row ∙
          ap (λ items. set items edit.index (g.R.Row.seen c.in_ok-row.row)) c.loop-left.invariant.1 ∙
          ap (λ item. set (overlaid g.R.Row.formed g.R.Row.seen (drop c.loop-left.left edits) c.self.inside.list)
          edit.index item) c.in_ok-row.ensures ∙
          sym (overlaid_drop g.R.Row.formed g.R.Row.seen edits c.self.inside.list c.loop-left.left
          (c.loop-left.left - 1) edit c.at.result.now more within c.index-edit.ensures c.at.ensures),
    )

pub returns-clause-rising : goal.returns-clause-rising
returns-clause-rising g c =
    let edits = c.self.inside.edits.items in
    let none : c.loop-left.left ≡ 0 = omega arith in
    rising_whole g.R.Row.id_of g.R.Row.seen g.R.Row.formed edits c.self.inside.list c.loop-left.list _ c.self.invariant
    (c.loop-left.invariant.1 ∙
    ap (λ n. overlaid g.R.Row.formed g.R.Row.seen (drop n edits) c.self.inside.list) none)

pub loop-left-smaller : goal.loop-left-smaller
loop-left-smaller g c = omega (arith, c.loop-left-test.true)
