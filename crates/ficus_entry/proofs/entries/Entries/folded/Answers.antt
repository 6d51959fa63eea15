use Rattle.std.proofs.Common.{◌≡◌, ◌+◌, ◌∷◌, drop, get_or, ◌∙◌, ap, subst, arith}
use Rattle.std.specs.Prelude.{List, ℕ}
use Rattle.std.proofs.lemmas.List.{drop_all, drop_more}
use Rattle.std.proofs.lemmas.Option.{slice_get_within, get_or_from_slice_get}
use Rattle.ficus_entry.specs.Place.{AreNotedBut}
use Rattle.ficus_entry.proofs.Noted.{noted_folded, whole_noted, none_again, edit_within}
use Rattle.ficus_entry.proofs.entries.Entries.folded.Goals as goal

pub at-entry-requires : goal.at-entry-requires
at-entry-requires c =
    edit_within c.self.inside.table.items c.self.inside.table.edited c.self.inside.index c.self.invariant
    c.loop-place.place c.edited_at.result c.edited_at.ensures

pub loop-place-preserved : goal.loop-place-preserved
loop-place-preserved c =
    let edited = c.self.inside.table.edited in
    let n = c.loop-place.place in
    let index = c.edited_at.result in
    let within = slice_get_within edited n index c.edited_at.ensures in
    let is : get_or edited n index ≡ index = get_or_from_slice_get edited n index index c.edited_at.ensures in
    let more : drop n edited ≡ index ∷ drop (n + 1) edited =
    drop_more edited n index within ∙ ap (λ (i : ℕ). i ∷ drop (n + 1) edited) is in
    noted_folded c.self.inside.table.items index (drop (n + 1) edited) c.loop-place.index c.in_ok-index-2.index
    c.at-entry.result.now
    (subst (λ (l : List ℕ). AreNotedBut c.self.inside.table.items l c.loop-place.index) more c.loop-place.invariant)
    (none_again edited n index c.edit_count-place-end.ensures.once within is) c.at-entry.ensures
    (rw c.note.ensures at c.in_ok-index-2.ensures)

pub returns : goal.returns
returns c =
    let table = c.self.inside.table in
    rw (← c.self.view_is)
    (whole_noted table.items c.loop-place.index
    (rw (drop_all c.loop-place.place table.edited (omega (arith, c.loop-place-test.false, c.edit_count-place-end.ensures.value))) at c.loop-place.invariant))
