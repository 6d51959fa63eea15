-- What operations do to files, by their names.
use Rattle.std.proofs.Common.{◌≡◌, ◌≢◌, ℕ, List, Some, refl, subst}
use Rattle.std.proofs.lemmas.Option.{same_Some}
use Rattle.ficus_ids.specs.declared.id.Id.{Id}
use Rattle.ficus_ids.specs.declared.kind.Kind.{Kind}
use Rattle.ficus_ids.specs.declared.kind.Kind.TheVariants.{Dir}
use Rattle.ficus_model.specs.declared.event.Op.{Op}
use Rattle.ficus_model.specs.declared.event.Op.TheVariants.{Make, Remove, Write, Settle, Resolve, Discard}
use Rattle.ficus_model.specs.Versions.{made_file, version_of, covered_by, bytes_of}
use Rattle.ficus_version_laws.specs.Operations.{Writes, GivesUp}
use Rattle.ficus_version_laws.specs.Operations.Writes.{ByMake, ByWrite, BySettle, ByResolve}
use Rattle.ficus_version_laws.specs.Operations.GivesUp.{ByRemove, ByDiscard}
use Rattle.ficus_version_laws.proofs.Objects.{made_file_is, none_is}

pub made_file_of : (number : Id) (kind : Kind) → kind ≢ Dir → made_file number kind ≡ Some number
made_file_of number Dir differs = absurd (differs refl)
made_file_of number kind differs = refl

-- the operations that write are the version events
pub writes_version : {number file : Id} {op : Op} {bytes : List ℕ} → Writes number op file bytes →
    (version_of number op ≡ Some file) × (bytes_of op ≡ bytes)
writes_version {number} (ByMake {kind = kind} differs) = (made_file_of number kind differs, refl)
writes_version ByWrite = (refl, refl)
writes_version BySettle = (refl, refl)
writes_version ByResolve = (refl, refl)

pub version_writes : (number file : Id) (op : Op) → version_of number op ≡ Some file →
    Writes number op file (bytes_of op)
version_writes number file (Make dir name kind text) e =
    let is = made_file_is number file kind e in
    subst (λ object. Writes number (Make dir name kind text) object text) is.0 (ByMake is.1)
version_writes number file (Write object bytes) e =
    subst (λ same. Writes number (Write object bytes) same bytes) (same_Some object file e) ByWrite
version_writes number file (Settle object bytes) e =
    subst (λ same. Writes number (Settle object bytes) same bytes) (same_Some object file e) BySettle
version_writes number file (Resolve object bytes) e =
    subst (λ same. Writes number (Resolve object bytes) same bytes) (same_Some object file e) ByResolve
version_writes number file op e = absurd (none_is file e)

-- and those that give up are the ones that cover
pub gives_up_covers : {op : Op} {file : Id} → GivesUp op file → covered_by op ≡ Some file
gives_up_covers ByRemove = refl
gives_up_covers ByDiscard = refl

pub covers_gives_up : (op : Op) (file : Id) → covered_by op ≡ Some file → GivesUp op file
covers_gives_up (Remove entries target) file e =
    subst (GivesUp (Remove entries target)) (same_Some target file e) ByRemove
covers_gives_up (Discard object) file e = subst (GivesUp (Discard object)) (same_Some object file e) ByDiscard
covers_gives_up op file e = absurd (none_is file e)
