-- Versions are of files that are known, and what is covered is known too.
use Rattle.std.proofs.Common.{◌≡◌, ◌≢◌, ℕ, List, Some, None, subst, arith}
use Rattle.std.proofs.lemmas.Option.{same_Some}
use Rattle.ficus_ids.specs.declared.id.Id.{Id}
use Rattle.ficus_ids.specs.declared.kind.Kind.{Kind}
use Rattle.ficus_ids.specs.declared.kind.Kind.TheVariants.{Dir}
use Rattle.ficus_model.specs.declared.event.Event.{Event}
use Rattle.ficus_model.specs.declared.event.Event.TheVariants.{Update}
use Rattle.ficus_model.specs.declared.event.Op.{Op}
use Rattle.ficus_model.specs.declared.event.Op.TheVariants.{Make, Remove, Write, Settle, Resolve, Discard}
use Rattle.ficus_model.specs.Events.{IsUpdate, before}
use Rattle.ficus_model.specs.Known.{Knows}
use Rattle.ficus_model.specs.Live.{IsMade, IsFile}
use Rattle.ficus_model.specs.Lawful.{Volume, MayUpdate, IsLawful}
use Rattle.ficus_model.specs.Versions.{made_file, version_of, covered_by, IsVersion, IsCovering}
use Rattle.ficus_laws.specs.Updates.{next_number, UpdatesWithin}
use Rattle.ficus_laws.proofs.Positions.{of_at}
use Rattle.ficus_laws.proofs.Shown.{made_within}
use Rattle.ficus_laws.proofs.Views.{file_within}
use Rattle.ficus_laws.proofs.Issued.{made_issued}
use Rattle.ficus_laws.proofs.Lawful.{lawful_before}
use Rattle.ficus_laws.proofs.Places.{within_past, some_inside, entered_target}

-- a kind whose Make is a version isn't that of directories
pub made_file_is : (number file : Id) (kind : Kind) → made_file number kind ≡ Some file → (number ≡ file) × (kind ≢ Dir)
made_file_is number file Dir e = cc
made_file_is number file kind e = (same_Some number file e, λ d. cc)

pub none_is : (file : Id) → None ≡ Some file → ⊥
none_is file e = cc

-- Who knows an update of a lawful history knows the object that it writes or covers.
module _ (volume : Volume) (H : List Event) (lawful : IsLawful volume H) (reader : ℕ) where
  may : {position : ℕ} {number : Id} {op : Op} → IsUpdate H position number op →
      MayUpdate volume (before position H) number.replica op
  may {position} {number} {op} u = lawful.each position (Update number.replica op) u.at

  more : {position : ℕ} {number : Id} {op : Op} → IsUpdate H position number op → Knows H reader position →
      UpdatesWithin (before position H) (Knows (before position H) number.replica) H (Knows H reader)
  more u k = within_past (of_at u.at) k

  written : {position : ℕ} {number file : Id} (op : Op) → IsUpdate H position number op → Knows H reader position →
      version_of number op ≡ Some file → IsFile H (Knows H reader) file
  written {position} {number} {file} (Make dir name kind text) u k e =
      let is = made_file_is number file kind e in
      record {
        kind = kind;
        made = record {
          position = position;
          dir = dir;
          name = name;
          text = text;
          known = k;
          update = subst (λ id. IsUpdate H position id (Make dir name kind text)) is.0 u;
        };
        other = is.1;
      }
  written {file = file} (Write object bytes) u k e = subst (IsFile H (Knows H reader)) (same_Some object file e)
      (file_within (more u k) (may u).allowed.in_reach.is_file)
  written {file = file} (Settle object bytes) u k e = subst (IsFile H (Knows H reader)) (same_Some object file e)
      (file_within (more u k) (may u).allowed.in_reach.is_file)
  written {file = file} (Resolve object bytes) u k e = subst (IsFile H (Knows H reader)) (same_Some object file e)
      (file_within (more u k) (may u).allowed.in_reach.is_file)
  written {file = file} op u k e = absurd (none_is file e)

  -- where a version is known, its file is
  pub version_file : {file : Id} {position : ℕ} → IsVersion H file position → Knows H reader position →
      IsFile H (Knows H reader) file
  version_file v k = written v.op v.update k v.versions

  abbrev IsKnownObject : Id → Type 0
  IsKnownObject object = (kind : Kind) × IsMade H (Knows H reader) object kind

  removed_object : {position : ℕ} {number object : Id} {entries : List Id} →
      IsUpdate H position number (Remove entries object) →
      Knows H reader position → IsKnownObject object
  removed_object {position} {number} {object} {entries} u k =
      let id = some_inside entries (may u).allowed.names.some in
      let bound = (((may u).allowed.names.all id.0).0 id.1).bound in
      let target = entered_target volume (before position H) (lawful_before volume H position lawful) bound.live.entered in (
        target.0,
        made_within (more u k)
            (subst
            (λ o. IsMade (before position H) (Knows (before position H) number.replica) o target.0)
            bound.leads target.1),
      )

  covered : {position : ℕ} {number object : Id} (op : Op) → IsUpdate H position number op → Knows H reader position →
      covered_by op ≡ Some object → IsKnownObject object
  covered {object = object} (Remove entries target) u k e = subst IsKnownObject (same_Some target object e) (removed_object u k)
  covered {object = object} (Discard file) u k e =
      let f = file_within (more u k) (may u).allowed.is_file in
      subst IsKnownObject (same_Some file object e) (f.kind, f.made)
  covered {object = object} op u k e = absurd (none_is object e)

  -- where a Remove or a Discard of an object is known, the object is
  pub covering_object : {object : Id} {position : ℕ} → IsCovering H object position → Knows H reader position →
      (kind : Kind) × IsMade H (Knows H reader) object kind
  covering_object c k = covered c.op c.update k c.covers

-- the object that the next update would make isn't made yet
next_not_made : (H : List Event) (replica : ℕ) {U : ℕ → Type 0} {kind : Kind} →
    IsMade H U (next_number replica H) kind → ⊥
next_not_made H replica m = let i = made_issued m in omega (arith, i.at_most)

-- so nothing is known of it
pub next_no_version : (volume : Volume) (H : List Event) (replica reader : ℕ) {position : ℕ} → IsLawful volume H →
    IsVersion H (next_number replica H) position → Knows H reader position → ⊥
next_no_version volume H replica reader lawful v k = next_not_made H replica (version_file volume H lawful reader v k).made

pub next_not_covered : (volume : Volume) (H : List Event) (replica reader : ℕ) {position : ℕ} → IsLawful volume H →
    IsCovering H (next_number replica H) position → Knows H reader position → ⊥
next_not_covered volume H replica reader lawful c k = next_not_made H replica (covering_object volume H lawful reader c k).1
