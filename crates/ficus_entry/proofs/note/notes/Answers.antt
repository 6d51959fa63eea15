use Rattle.std.proofs.Common.{◌≡◌, ◌+◌, ◌++◌, ◌∷◌, [], ◌∙◌, take, ap}
use Rattle.std.specs.List.{filter}
use Rattle.std.proofs.lemmas.List.{take_more, map-append}
use Rattle.std.proofs.lemmas.List.Elements.{filter-append}
use Rattle.std.proofs.lemmas.Option.{slice_get_within, get_or_from_slice_get}
use Rattle.ficus_entry.specs.Kill.{is_live}
use Rattle.ficus_entry.specs.Place.{note_of}
use Rattle.ficus_entry.proofs.note.notes.Goals as goal

pub loop-index-preserved : goal.loop-index-preserved
loop-index-preserved c =
    let entries = c.args.entries.now in
    let n = c.loop-index.index in
    let entry = c.at.result.now in
    let more : take (n + 1) entries ≡ take n entries ++ entry ∷ [] =
    take_more entries n entry (slice_get_within entries n entry c.at.ensures) ∙
    ap (λ e. take n entries ++ e ∷ []) (get_or_from_slice_get entries n entry entry c.at.ensures) in
    rw (
      more,
      filter-append is_live (take n entries) (entry ∷ []),
      map-append note_of (filter is_live (take n entries))
          (filter is_live (entry ∷ [])),
      ← c.loop-index.invariant,
    ) c.in_ok-push_note.ensures
