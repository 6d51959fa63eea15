-- What tables ask of the entries and the files in them.
use Rattle.std.specs.Prelude.{◌≡◌, ◌⊎◌, ℕ, ◌≤◌, List, length, All, Contains, IsTrue}
use Rattle.ficus_ids.specs.Marks.{has, HasMembersOnly}
use Rattle.ficus_ids.specs.Members.{IsMember}
use Rattle.ficus_ids.specs.Name.{IsName}
use Rattle.ficus_ids.specs.declared.id.Id.{Id}
use Rattle.ficus_ids.specs.declared.id.TheConstants.{ROOT, ATTIC}
use Rattle.ficus_ids.specs.declared.kind.Kind.TheVariants.{Dir}
use Rattle.ficus_vectors.specs.Vector.{Counts, count_of, no_counts}
use Rattle.ficus_entry.specs.Entry.{IsRising}
use Rattle.ficus_entry.specs.declared.entry.Entry.{Entry}
use Rattle.ficus_entry.specs.declared.entry.State.{State}
use Rattle.ficus_entry.specs.declared.entry.State.TheVariants.{Live, Dead}
use Rattle.ficus_file.specs.File.{IsWellFormed}
use Rattle.ficus_file.specs.Files.{IsRising as AreRisingFiles, Holds}
use Rattle.ficus_file.specs.declared.file.FileReplica.{FileReplica}
use Rattle.ficus_file.specs.declared.version.Version.{Version}
use Rattle.ficus_durable_state.specs.Limits.{update_limit, file_limit}

-- some member may have issued it
pub record IsIssuable (members : ℕ) (id : Id) : Type 0 where
  pub replica : IsMember members id.replica
  pub at_least : 1 ≤ id.number
  pub at_most : id.number ≤ update_limit

-- entries may lie in it
abbrev pub MayHoldEntries : ℕ → Id → Type 0
MayHoldEntries members dir = IsIssuable members dir ⊎ (dir ≡ ROOT) ⊎ (dir ≡ ATTIC)

-- the sets of a removed entry hold members alone, and somebody knows of the removal
pub record FitsMarks (members one two : ℕ) : Type 0 where
  pub first : HasMembersOnly one members
  pub second : HasMembersOnly two members
  pub somebody : ℕ
  pub knows : IsTrue (has one somebody)

abbrev pub FitsState : ℕ → State → Type 0
FitsState members Live = Unit {0}
FitsState members (Dead one two) = FitsMarks members one two

-- nothing in the attic is alive
abbrev pub FitsAttic : Id → State → Type 0
FitsAttic dir Live = dir ≡ ATTIC → ⊥
FitsAttic dir (Dead one two) = Unit {0}

-- the entry may stand in tables
pub record FitsEntry (members : ℕ) (entry : Entry) : Type 0 where
  pub id : IsIssuable members entry.id
  pub dir : MayHoldEntries members entry.dir
  pub name : IsName entry.name
  pub target : IsIssuable members entry.target
  pub state : FitsState members entry.state
  pub attic : FitsAttic entry.dir entry.state

-- each count is one of updates, and only members have counts
pub record FitsCounts (members : ℕ) (counts : Counts) : Type 0 where
  pub at_most : (replica : ℕ) → count_of counts replica ≤ update_limit
  pub members_only : (replica : ℕ) → (IsMember members replica → ⊥) → count_of counts replica ≡ 0

-- the version may stand in tables
pub record FitsVersion (members : ℕ) (version : Version) : Type 0 where
  pub vector : FitsCounts members version.vector
  pub bytes : length version.bytes ≤ file_limit

-- the file or directory may stand in tables: of a directory nothing is covered
pub record FitsFile (members : ℕ) (file : FileReplica) : Type 0 where
  pub id : IsIssuable members file.id
  pub well_formed : IsWellFormed file
  pub versions : (version : Version) → Contains file.versions version → FitsVersion members version
  pub covered : FitsCounts members file.covered
  pub directory : file.kind ≡ Dir → file.covered ≡ no_counts

-- the directory is the root, the attic, or one of the files and directories
abbrev pub IsPlaceIn : List FileReplica → Id → Type 0
IsPlaceIn files dir = Holds files dir ⊎ (dir ≡ ROOT) ⊎ (dir ≡ ATTIC)

-- what the entry leads to is one of the files and directories, and what it lies in too, if not the root or the attic
pub record HasObjectsIn (files : List FileReplica) (entry : Entry) : Type 0 where
  pub target : Holds files entry.target
  pub dir : IsPlaceIn files entry.dir

-- the entries and files are those of tables: the identifiers of both rise strictly, each of them fits, and the files
-- have the objects of each entry
pub record FitsTables (members : ℕ) (entries : List Entry) (files : List FileReplica) : Type 0 where
  pub rising : IsRising entries
  pub each : All (FitsEntry members) entries
  pub rising_files : AreRisingFiles files
  pub each_file : All (FitsFile members) files
  pub objects : All (HasObjectsIn files) entries
