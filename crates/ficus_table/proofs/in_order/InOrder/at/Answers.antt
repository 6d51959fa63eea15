use Rattle.std.proofs.Common.{◌≡◌, ◌<◌, ℕ, List, length, map, slice_get, Some, ◌∙◌, ap, refl, subst, sym}
use Rattle.std.specs.Prelude.{option_map}
use Rattle.std.proofs.lemmas.List.{length-map}
use Rattle.std.proofs.lemmas.Option.{slice_get-map, slice_get_read}
use Rattle.ficus_table.specs.InOrder.{shown}
use Rattle.ficus_table.proofs.in_order.InOrder.at.Goals as goal

-- what stands at a place is shown there
at_place : {A B : Type 0} (f : A → B) (xs : List A) (i : ℕ) (x : A) → slice_get xs i ≡ Some x →
    slice_get (map f xs) i ≡ Some (f x)
at_place f xs i x is = slice_get-map f xs i ∙ ap (option_map f) is

pub returns-in-Seen : goal.returns-in-Seen
returns-in-Seen g c =
    let items = c.in-Seen.seen.items in
    let shows : c.args.self.now ≡ map (λ one. one.now) items =
    sym c.self.view_is ∙ ap (shown g.R.Row.seen) c.in-Seen.is in
    let count : length c.args.self.now ≡ length items = ap length shows ∙ length-map items (λ one. one.now) in
    let within : c.args.index < length items = subst (λ (n : ℕ). c.args.index < n) count c.requires in
    ap (λ rows. slice_get rows c.args.index) shows ∙
    at_place (λ one. one.now) items c.args.index c.index.result.now
    (slice_get_read items (length items) c.args.index c.index.result.now refl within c.index.ensures)

pub returns-in-Gathered : goal.returns-in-Gathered
returns-in-Gathered g c =
    let items = c.in-Gathered.rows.items in
    let row = c.index-in-Gathered.result.now in
    let shows : c.args.self.now ≡ map g.R.Row.seen (map (λ one. one.now) items) =
    sym c.self.view_is ∙ ap (shown g.R.Row.seen) c.in-Gathered.is in
    let count : length c.args.self.now ≡ length items =
    ap length shows ∙ length-map (map (λ one. one.now) items) g.R.Row.seen ∙ length-map items (λ one. one.now) in
    let within : c.args.index < length items = subst (λ (n : ℕ). c.args.index < n) count c.requires in
    ap (λ rows. slice_get rows c.args.index) shows ∙
    at_place g.R.Row.seen (map (λ one. one.now) items) c.args.index row.now
    (at_place (λ one. one.now) items c.args.index row
    (slice_get_read items (length items) c.args.index row refl within c.index-in-Gathered.ensures)) ∙
    ap Some (sym c.look.ensures)

pub returns-in-Rows : goal.returns-in-Rows
returns-in-Rows g c =
    ap (λ rows. slice_get rows c.args.index) (sym c.self.view_is ∙ ap (shown g.R.Row.seen) c.in-Rows.is) ∙
    at_place g.R.Row.seen c.in-Rows.rows.now c.args.index c.row_at.result.now c.row_at.ensures ∙
    ap Some (sym c.look-in-Rows.ensures)
