use Rattle.ficus_index.specs.NoteLaws.{notes_anew}
use Rattle.ficus_entry.specs.Kill.{is_live}
use Rattle.ficus_entry.specs.Place.{AreNoted, note_of}
use Rattle.ficus_entry.proofs.Noted.{noted_whole}
use Rattle.ficus_entry.proofs.entries.Entries.of_rows.Goals as goal

pub invariant_of-result : goal.invariant_of-result
invariant_of-result c =
    let table = c.in_ok-table.table in
    let index = c.in_ok-index.index in
    let noted : AreNoted table.items index =
    notes_anew is_live note_of table.items index
    (rw (c.in_ok-notes.ensures, c.of_rows.ensures, ← c.in_ok-table.ensures.items) at c.in_ok-index.ensures) in
    rw c.in_ok-table.ensures.edited (noted_whole table.items index noted)
