-- Images: how what a replica saves is spelled. Which of it may stand in an image says `FitsImage` of the crate
-- `ficus_durable_state`.
use Rattle.std.specs.Prelude.{◌≡◌, ◌≢◌, ℕ, List, ◌++◌, Contains, codes}
use Rattle.ficus_ids.specs.Members.{IsCount}
use Rattle.ficus_ids.specs.declared.kind.Kind.TheVariants.{Symlink}
use Rattle.ficus_file.specs.declared.file.FileReplica.{FileReplica}
use Rattle.ficus_formats.specs.Format.{Begins, Format, byte, number32, number64, ◌then◌, shaped, meeting}
use Rattle.ficus_codec.specs.Formats.{tables_bytes}
use Rattle.ficus_durable_state.specs.Saved.{FitsImage}
use Rattle.ficus_durable_state.specs.Tables.{FitsTables}
use Rattle.ficus_durable_state.specs.declared.saved.Saved.{Saved}
use Rattle.ficus_image.specs.declared.decoding.Spelled.{Spelled}
use Rattle.ficus_image.specs.declared.front.Front.{Front}
use Rattle.ficus_image.specs.declared.image_version.ImageVersion.{ImageVersion}
use Rattle.ficus_image.specs.declared.image_version.ImageVersion.TheVariants.{First, Second}

-- the bytes with which an image of each version begins
abbrev pub magic_bytes : ImageVersion → List ℕ
magic_bytes First = codes "FIC1"
magic_bytes Second = codes "FIC2"

abbrev pub magic : Format ImageVersion
magic = record { spell = magic_bytes; fits = λ _. Unit {0} }

-- how many members there are, in a byte
abbrev pub member_count : Format ℕ
member_count = meeting IsCount byte

-- what stands in front of the tables, in the order in which it is spelled
abbrev pub front_parts : Front → ImageVersion × (ℕ × (ℕ × (ℕ × (ℕ × (ℕ × (ℕ × ℕ))))))
front_parts f = (f.version, (f.me, (f.members, (f.ids, (f.bytes, (f.next, (f.used, f.generation)))))))

abbrev pub front : Format Front
front = shaped front_parts
    (magic then byte then member_count then number32 then number32 then number32 then number32 then number64)

abbrev pub front_of : ImageVersion → Saved → Front
front_of version saved = record {
  version = version;
  me = saved.me;
  members = saved.members;
  ids = saved.ids;
  bytes = saved.bytes;
  next = saved.next;
  used = saved.used;
  generation = saved.generation;
}

-- nothing that is saved is a symbolic link
pub record HasNoLinks (saved : Saved) : Type 0 where
  pub none : (file : FileReplica) → Contains saved.files file → file.kind ≢ Symlink

-- the version spells it: the first none that has symbolic links
abbrev pub HasVersion : ImageVersion → Saved → Type 0
HasVersion First saved = HasNoLinks saved
HasVersion Second saved = Unit {0}

-- in this version: what stands in front of the tables, and the tables to the end
abbrev pub version_bytes : ImageVersion → Saved → List ℕ
version_bytes version saved =
    front.spell (front_of version saved) ++ tables_bytes saved.members saved.entries saved.files

-- the spelling that is written
abbrev pub image_bytes : Saved → List ℕ
image_bytes saved = version_bytes Second saved

-- the two parts, each by itself, in a version
abbrev pub image_parts : Format Spelled
image_parts = record {
  spell = λ s. version_bytes s.version s.saved;
  fits = λ s. front.fits (front_of s.version s.saved) × FitsTables s.saved.members s.saved.entries s.saved.files;
}

-- what may stand in an image of its version
pub record FitsSpelled (s : Spelled) : Type 0 where
  pub fits : FitsImage s.saved
  pub version : HasVersion s.version s.saved

abbrev pub image : Format Spelled
image = meeting FitsSpelled image_parts

-- the bytes are an image of what is saved, of either version
pub record IsImageOf (bytes : List ℕ) (saved : Saved) : Type 0 where
  pub fits : FitsImage saved
  pub version : ImageVersion
  pub has : HasVersion version saved
  pub is : bytes ≡ version_bytes version saved

-- the bytes begin with what stands in front of the tables of an image
pub record BeginsFront (bytes : List ℕ) : Type 0 where
  pub front_is : Front
  pub rest : List ℕ
  pub begins : Begins front bytes front_is rest
