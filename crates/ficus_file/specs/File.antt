-- Files and directories as a replica has them, and what becomes of them.
use Rattle.std.specs.Prelude.{◌≡◌, ◌≢◌, ℕ, ◌<◌, List, [], ◌∷◌, Contains}
use Rattle.ficus_ids.specs.declared.id.Id.{Id}
use Rattle.ficus_ids.specs.Kind.{sort_of, IsFixedText}
use Rattle.ficus_ids.specs.declared.kind.Kind.{Kind}
use Rattle.ficus_ids.specs.declared.kind.Kind.TheVariants.{Dir}
use Rattle.ficus_ids.specs.declared.kind.Sort.{Sort}
use Rattle.ficus_ids.specs.declared.kind.Sort.TheVariants.{Directory, Versioned, Fixed}
use Rattle.ficus_vectors.specs.Vector.{no_counts, count_of, join, bump, Covers}
use Rattle.ficus_file.specs.declared.file.FileReplica.{FileReplica}
use Rattle.ficus_file.specs.declared.version.Version.{Version}
use Rattle.ficus_file.specs.Version.{join_all, AreCurrent}

-- the most versions that an object for this has
abbrev pub most_versions : Sort → ℕ
most_versions Directory = 0
most_versions Versioned = 8
most_versions Fixed = 1

-- there is one version, with a text that may stay
pub record HaveOneText (versions : List Version) : Type 0 where
  pub version : Version
  pub alone : versions ≡ version ∷ []
  pub text : IsFixedText version.bytes

-- a directory has no version, a file has those that are current, and what has a text that stays has one alone
pub record IsWellFormed (file : FileReplica) : Type 0 where
  pub directory : file.kind ≡ Dir → file.versions ≡ []
  pub current : file.kind ≢ Dir → AreCurrent file.versions
  pub fixed : sort_of file.kind ≡ Fixed → HaveOneText file.versions

-- the version that a write by a replica leaves: it is over all of these
abbrev pub over_all : ℕ → List ℕ → List Version → Version
over_all by bytes versions = record { vector = bump by (join_all versions); bytes = bytes }

-- what is there at first of an object for this that was made with a text: of a directory nothing, and of all else one
-- version, with the text as bytes
abbrev pub first_of : Sort → ℕ → List ℕ → List Version
first_of Directory by text = []
first_of Versioned by text = over_all by text [] ∷ []
first_of Fixed by text = over_all by text [] ∷ []

-- and where the object is of this kind
abbrev pub first_versions : Kind → ℕ → List ℕ → List Version
first_versions kind by text = first_of (sort_of kind) by text

-- the object that a replica makes with a text
abbrev pub made_file : Id → Kind → ℕ → List ℕ → FileReplica
made_file id kind by text =
    record { id = id; kind = kind; versions = first_versions kind by text; covered = no_counts }

-- the file with one version in place of all: over them, by a replica, and with these bytes
abbrev pub advanced : ℕ → List ℕ → FileReplica → FileReplica
advanced by bytes file = record file { versions = over_all by bytes file.versions ∷ [] }

-- the file with each version covered
abbrev pub covered_file : FileReplica → FileReplica
covered_file file = record file { covered = join file.covered (join_all file.versions) }

-- it is a file whose versions change, and the replica's count can be one more
pub record MayAdvance (by : ℕ) (file : FileReplica) : Type 0 where
  pub changes : sort_of file.kind ≡ Versioned
  pub room : count_of (join_all file.versions) by < 4294967295

-- some version's vector isn't covered
pub record HasUncovered (file : FileReplica) : Type 0 where
  pub version : Version
  pub inside : Contains file.versions version
  pub beyond : Covers file.covered version.vector → ⊥
