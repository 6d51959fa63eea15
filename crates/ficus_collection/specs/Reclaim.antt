-- What a collection leaves of entries and files, and how much it gives up.
use Rattle.std.specs.Prelude.{◌≡◌, ◌⊎◌, ◌↔◌, ℕ, ◌+◌, List, length, Contains}
use Rattle.ficus_ids.specs.Marks.{IsFull}
use Rattle.ficus_ids.specs.Rising.{HoldsBy}
use Rattle.ficus_entry.specs.Entry.{IsRising}
use Rattle.ficus_entry.specs.declared.entry.Entry.{Entry}
use Rattle.ficus_entry.specs.declared.entry.State.{State}
use Rattle.ficus_entry.specs.declared.entry.State.TheVariants.{Live, Dead}
use Rattle.ficus_file.specs.Files.{AreFiles}
use Rattle.ficus_file.specs.declared.file.FileReplica.{FileReplica}
use Rattle.ficus_file.specs.declared.orphan.Orphan.{Orphan}
use Rattle.ficus_mentions.specs.Touched.{touched_by}
use Rattle.ficus_collection.specs.declared.reclaiming.Reclaimed.{Reclaimed}

-- removed, and the second set of marks has every member
abbrev pub IsFullyKnown : ℕ → State → Type 0
IsFullyKnown members Live = ⊥
IsFullyKnown members (Dead one two) = IsFull two members

-- of the entries are left those of which not everybody is known to know that all know
abbrev pub AreUndropped : ℕ → List Entry → List Entry → Type 0
AreUndropped members entries after = (entry : Entry) → Contains after entry ↔
    (Contains entries entry × (IsFullyKnown members entry.state → ⊥))

-- of the files are left those that one of the entries names or lies in, and those under the orphans' identifiers
abbrev pub AreFilesLeft : List FileReplica → List Entry → List Orphan → List FileReplica → Type 0
AreFilesLeft files entries orphans after = (file : FileReplica) → Contains after file ↔
    (Contains files file ×
    (Contains (touched_by entries) file.id ⊎ HoldsBy (λ (orphan : Orphan). orphan.id) orphans file.id))

-- what is left of the entries, and of the files by the entries that are left, each by identifier; and how many fewer
pub record IsReclaimed (members : ℕ) (entries : List Entry) (files : List FileReplica) (orphans : List Orphan)
    (reclaimed : Reclaimed) : Type 0 where
  pub rising : IsRising reclaimed.entries
  pub undropped : AreUndropped members entries reclaimed.entries
  pub held : AreFiles reclaimed.files
  pub left : AreFilesLeft files reclaimed.entries orphans reclaimed.files
  pub entries_counted : length reclaimed.entries + reclaimed.dropped_entries ≡ length entries
  pub files_counted : length reclaimed.files + reclaimed.dropped_files ≡ length files
