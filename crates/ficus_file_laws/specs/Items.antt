-- The versions of a file as tables keep them, in the terms of the laws of versions.
use Rattle.std.specs.Prelude.{◌≡◌, ℕ, List, map, Contains}
use Rattle.ficus_ids.specs.Members.{IsMember}
use Rattle.ficus_ids.specs.declared.id.Id.{Id}
use Rattle.ficus_vectors.specs.Vector.{count_of}
use Rattle.ficus_file.specs.declared.version.Version.{Version}
use Rattle.ficus_model.specs.declared.event.Event.{Event}
use Rattle.ficus_merge_files.specs.Versions.{AreOrdered}
use Rattle.ficus_version_laws.specs.Listed.{Item, AreShown}

-- the version, its vector as the counts of all replicas
abbrev pub item_of : Version → Item
item_of version = record { vector = count_of version.vector; bytes = version.bytes }

-- each of the versions
abbrev pub items_of : List Version → List Item
items_of versions = map item_of versions

-- the versions of the file that are shown where what U knows is known, in the order of vectors
pub record AreVersionsOf (H : List Event) (U : ℕ → Type 0) (file : Id) (versions : List Version) : Type 0 where
  pub shown : AreShown H U file (items_of versions)
  pub ordered : AreOrdered versions

-- the vectors count nothing of a replica that is no member
pub record CountMembersOnly (members : ℕ) (versions : List Version) : Type 0 where
  pub each : (version : Version) → Contains versions version →
      (replica : ℕ) → (IsMember members replica → ⊥) → count_of version.vector replica ≡ 0
