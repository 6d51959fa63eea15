-- The bytes at the last sync, by the bytes now and what was kept where they were written over.
use Rattle.std.specs.Prelude.{ℕ, List, take, vec_capacity}
use Rattle.ficus_disk.specs.Bytes.{patch}
use Rattle.ficus_disk.specs.declared.undo.Undo.{Undo}

-- the bytes at the last sync: what is kept stands in its place again, and nothing behind so many
abbrev pub synced_in : Undo → List ℕ → List ℕ
synced_in undo bytes = take undo.count (patch bytes undo.from undo.kept.items)

-- so many bytes are kept without memory
abbrev pub undo_room : Undo → ℕ
undo_room undo = vec_capacity undo.kept
