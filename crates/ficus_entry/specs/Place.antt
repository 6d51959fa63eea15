-- What the index notes of entries.
use Rattle.std.specs.Prelude.{◌≡◌, ℕ, ◌<◌, false, List, length, get_or, Contains}
use Rattle.ficus_index.specs.Digest.{digest_of}
use Rattle.ficus_index.specs.declared.place.Note.{Note}
use Rattle.ficus_index.specs.declared.place.Place.{Place}
use Rattle.ficus_index.specs.Place.{AreNotesOf, AddsRow, TakesRow}
use Rattle.ficus_entry.specs.declared.entry.Entry.{Entry}
use Rattle.ficus_entry.specs.declared.entry.State.TheVariants.{Live}
use Rattle.ficus_entry.specs.Kill.{is_live}

-- the place of an entry: its directory, and there the digest of its name
abbrev pub place_of : Entry → Place
place_of entry = record { dir = entry.dir; rank = digest_of entry.name }

-- what the index notes of an entry that isn't removed
abbrev pub note_of : Entry → Note
note_of entry = record { place = place_of entry; id = entry.id }

-- the notes are those of the entries that aren't removed, each as often
abbrev pub AreNoted : List Entry → List Note → Type 0
AreNoted entries notes = AreNotesOf is_live note_of entries notes

-- the entry as it was while it lived
abbrev pub alive : Entry → Entry
alive entry = record entry { state = Live }

-- as what the entry at an index is noted: as itself, or, where it was edited and so is dead, as it was while it lived
pub record IsNotedAs (edited : List ℕ) (index : ℕ) (entry noted : Entry) : Type 0 where
  pub dead : Contains edited index → is_live entry ≡ false
  pub earlier : Contains edited index → noted ≡ alive entry
  pub same : (Contains edited index → ⊥) → noted ≡ entry

-- the notes are those of the entries, but that those at the edited indices, which are removed, are noted as while they
-- lived
pub record AreNotedBut (entries : List Entry) (edited : List ℕ) (notes : List Note) : Type 0 where
  pub before : List Entry
  pub noted : AreNoted before notes
  pub lengths : length before ≡ length entries
  pub within : (index : ℕ) → Contains edited index → index < length entries
  pub each : (index : ℕ) (d : Entry) → index < length entries →
      IsNotedAs edited index (get_or entries index d) (get_or before index d)

-- the new notes are the old ones, but for what is noted of this entry in place of what is of another
pub record ReplacesNote (old : List Note) (was entry : Entry) (new : List Note) : Type 0 where
  pub others : List Note
  pub taken : TakesRow is_live note_of old was others
  pub added : AddsRow is_live note_of others entry new
