-- The versions of files: which are shown, and when a file is in conflict.
-- Source: Parker and others 1983, mutual inconsistency, by the pasts of the versions in place of their vectors.
use Rattle.std.specs.Prelude.{◌≡◌, ◌≢◌, ℕ, List, [], length, sum_by, if◌then◌else◌, Option, Some, None}
use Rattle.std.specs.Option.{option_flatten, option_map, unwrap_or}
use Rattle.ficus_ids.specs.declared.id.Id.{Id}
use Rattle.ficus_ids.specs.Kind.{sort_of}
use Rattle.ficus_ids.specs.declared.kind.Kind.{Kind}
use Rattle.ficus_ids.specs.declared.kind.Sort.{Sort}
use Rattle.ficus_ids.specs.declared.kind.Sort.TheVariants.{Directory, Versioned, Fixed}
use Rattle.ficus_model.specs.declared.event.Event.{Event}
use Rattle.ficus_model.specs.declared.event.Op.{Op}
use Rattle.ficus_model.specs.declared.event.Op.TheVariants.{Make, Link, Remove, Move, Write, Settle, Resolve, Adopt, Discard}
use Rattle.ficus_model.specs.Events.{IsUpdate, is_update_of, traits}
use Rattle.ficus_model.specs.Known.{HasInPast}

-- the file whose first version the Make of an object for this is: the object made, unless it is a directory
abbrev pub made_of : Id → Sort → Option Id
made_of number Directory = None
made_of number Versioned = Some number
made_of number Fixed = Some number

-- and where the object is of this kind
abbrev pub made_file : Id → Kind → Option Id
made_file number kind = made_of number (sort_of kind)

-- the file of which the update with this number is a version event, if of one
abbrev pub version_of : Id → Op → Option Id
version_of number (Make dir name kind text) = made_file number kind
version_of number (Link dir name target) = None
version_of number (Remove entries target) = None
version_of number (Move entries dir name target) = None
version_of number (Write file bytes) = Some file
version_of number (Settle file bytes) = Some file
version_of number (Resolve file bytes) = Some file
version_of number (Adopt file dir name) = None
version_of number (Discard file) = None

-- the bytes that an operation gives a file, if it gives one any: a Make gives it the text with which it is made, which
-- is empty but for a symbolic link
abbrev pub given_by : Op → Option (List ℕ)
given_by (Make dir name kind text) = Some text
given_by (Link dir name target) = None
given_by (Remove entries target) = None
given_by (Move entries dir name target) = None
given_by (Write file bytes) = Some bytes
given_by (Settle file bytes) = Some bytes
given_by (Resolve file bytes) = Some bytes
given_by (Adopt file dir name) = None
given_by (Discard file) = None

-- the bytes that an operation writes, a Make its text
abbrev pub bytes_of : Op → List ℕ
bytes_of op = unwrap_or (given_by op) []

-- the bytes that an event gives a file, if it gives one any
abbrev pub given_in : Event → Option (List ℕ)
given_in event = option_flatten (option_map given_by (traits event).update)

-- how many bytes an event of the replica writes
abbrev pub written_in : ℕ → Event → ℕ
written_in replica event = if is_update_of replica event then length (unwrap_or (given_in event) []) else 0

-- how many bytes the replica has written
abbrev pub written_of : ℕ → List Event → ℕ
written_of replica H = sum_by (written_in replica) H

-- the object that an operation covers, if one: it gives up what its replica knew of the object's versions
abbrev pub covered_by : Op → Option Id
covered_by (Make dir name kind text) = None
covered_by (Link dir name target) = None
covered_by (Remove entries target) = Some target
covered_by (Move entries dir name target) = None
covered_by (Write file bytes) = None
covered_by (Settle file bytes) = None
covered_by (Resolve file bytes) = None
covered_by (Adopt file dir name) = None
covered_by (Discard file) = Some file

-- at this position stands a version event of the file
pub record IsVersion (H : List Event) (file : Id) (position : ℕ) : Type 0 where
  pub number : Id
  pub op : Op
  pub update : IsUpdate H position number op
  pub versions : version_of number op ≡ Some file

-- at this position stands a Remove or a Discard of the object
pub record IsCovering (H : List Event) (object : Id) (position : ℕ) : Type 0 where
  pub number : Id
  pub op : Op
  pub update : IsUpdate H position number op
  pub covers : covered_by op ≡ Some object

-- a known version of the file that lies in the past of no other known one is shown
pub record IsShown (H : List Event) (U : ℕ → Type 0) (file : Id) (position : ℕ) : Type 0 where
  pub version : IsVersion H file position
  pub known : U position
  pub latest : (other : ℕ) → IsVersion H file other → U other → HasInPast H other position → ⊥

-- a known version of the file that lies in the past of no known Remove or Discard of the file is uncovered
pub record IsUncovered (H : List Event) (U : ℕ → Type 0) (file : Id) (position : ℕ) : Type 0 where
  pub version : IsVersion H file position
  pub known : U position
  pub uncovered : (cover : ℕ) → IsCovering H file cover → U cover → HasInPast H cover position → ⊥

-- the update at this position has these bytes
pub record HasBytes (H : List Event) (position : ℕ) (bytes : List ℕ) : Type 0 where
  pub number : Id
  pub op : Op
  pub update : IsUpdate H position number op
  pub are : bytes_of op ≡ bytes

-- a version of the file that is shown, and its bytes
pub record ShowsBytes (H : List Event) (U : ℕ → Type 0) (file : Id) (bytes : List ℕ) : Type 0 where
  pub position : ℕ
  pub shown : IsShown H U file position
  pub has : HasBytes H position bytes

-- two shown versions of the file differ in bytes
pub record IsInConflict (H : List Event) (U : ℕ → Type 0) (file : Id) : Type 0 where
  pub one : List ℕ
  pub other : List ℕ
  pub shows_one : ShowsBytes H U file one
  pub shows_other : ShowsBytes H U file other
  pub differ : one ≢ other
