use Rattle.std.specs.Prelude.{[]}
use Rattle.std.proofs.lemmas.List.Sorted.{IsPermutation-refl}
use Rattle.ficus_index.specs.NoteLaws.{notes_anew}
use Rattle.ficus_entry.specs.Kill.{is_live}
use Rattle.ficus_entry.specs.Place.{note_of}
use Rattle.ficus_entry.proofs.Noted.{noted_whole}
use Rattle.ficus_entry.proofs.entries.Entries.new.Goals as goal

pub invariant_of-result : goal.invariant_of-result
invariant_of-result c =
    rw (c.new.ensures.items, c.new.ensures.edited, c.new-2.ensures)
    (noted_whole [] [] (notes_anew is_live note_of [] [] (IsPermutation-refl [])))
