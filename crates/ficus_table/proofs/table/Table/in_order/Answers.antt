use Rattle.std.proofs.Common.{◌≡◌, ◌≤◌, length, map, ◌∙◌, ap, sym, arith}
use Rattle.std.proofs.lemmas.Bool.{eqb-true}
use Rattle.ficus_table.proofs.Shown.{overlaid_end}
use Rattle.ficus_table.proofs.Sound.{rising_shown}
use Rattle.ficus_table.proofs.table.Table.in_order.Goals as goal

pub of-requires : goal.of-requires
of-requires g c =
    rw (c.overlay.ensures, c.deref.ensures.value) (rising_shown g.R.Row.id_of g.R.Row.seen g.R.Row.formed
    c.self.inside.edits.items c.self.inside.list _ c.self.invariant)

pub returns-then-is_empty : goal.returns-then-is_empty
returns-then-is_empty g c =
    let edits = c.self.inside.edits.items in
    let zero : c.self.inside.edits.len ≡ 0 = eqb-true c.self.inside.edits.len 0 (sym c.is_empty.ensures ∙ c.if-is_empty.true) in
    let none : length edits ≤ 0 = omega (arith, zero, c.self.inside.edits.ok) in
    let whole = overlaid_end g.R.Row.formed g.R.Row.seen edits c.self.inside.list 0 none in
    c.gathered.ensures ∙ ap (map g.R.Row.seen) c.in_ok-rows_of.ensures ∙ whole ∙ ap (λ rows. rows.items) c.self.view_is
