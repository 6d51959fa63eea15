-- Which identifiers leave at a collection.
use Rattle.std.specs.Prelude.{◌↔◌, ℕ, List, Contains}
use Rattle.ficus_ids.specs.declared.id.Id.{Id}
use Rattle.ficus_ids.specs.Rising.{HoldsBy}
use Rattle.ficus_entry.specs.declared.entry.Entry.{Entry}
use Rattle.ficus_file.specs.declared.file.FileReplica.{FileReplica}
use Rattle.ficus_file.specs.declared.orphan.Orphan.{Orphan}
use Rattle.ficus_mentions.specs.Touched.{touched_by}
use Rattle.ficus_collection.specs.Reclaim.{IsFullyKnown}

-- of the entries exactly the fully known ones have one of the identifiers
abbrev pub AreOfKnown : ℕ → List Entry → List Id → Type 0
AreOfKnown members entries ids = (entry : Entry) → Contains entries entry →
    Contains ids entry.id ↔ IsFullyKnown members entry.state

-- the identifier is that of one of the orphans
abbrev pub HoldsOrphan : List Orphan → Id → Type 0
HoldsOrphan orphans id = HoldsBy (λ (orphan : Orphan). orphan.id) orphans id

-- no entry names the object or lies in it, and it is none of the orphans
pub record IsUnneeded (entries : List Entry) (orphans : List Orphan) (id : Id) : Type 0 where
  pub untouched : Contains (touched_by entries) id → ⊥
  pub no_orphan : HoldsOrphan orphans id → ⊥

-- of the files exactly the unneeded ones have one of the identifiers
abbrev pub AreUnneeded : List Entry → List FileReplica → List Orphan → List Id → Type 0
AreUnneeded entries files orphans ids = (file : FileReplica) → Contains files file →
    Contains ids file.id ↔ IsUnneeded entries orphans file.id
