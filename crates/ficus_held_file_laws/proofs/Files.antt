-- What a list of files that a replica holds has.
use Rattle.std.proofs.Common.{◌≡◌, ℕ, ◌≤◌, List, Option, Some, None, ap, ◌∙◌, subst}
use Rattle.std.specs.Prelude.{Contains}
use Rattle.ficus_ids.specs.ListLaws.{into_map, from_map}
use Rattle.ficus_ids.specs.Members.{IsMember}
use Rattle.ficus_ids.specs.RisingLaws.{held_or_not, same_items}
use Rattle.ficus_ids.specs.declared.id.Id.{Id}
use Rattle.ficus_ids.specs.declared.kind.Kind.{Kind}
use Rattle.ficus_vectors.specs.Vector.{count_of}
use Rattle.ficus_vectors.specs.VectorLaws.{same_vector}
use Rattle.ficus_file.specs.Files.{id_of, Holds, HoldsUnder}
use Rattle.ficus_file.specs.declared.file.FileReplica.{FileReplica}
use Rattle.ficus_file.specs.declared.version.Version.{Version}
use Rattle.ficus_model.specs.declared.event.Event.{Event}
use Rattle.ficus_model.specs.Events.{count_of as updates_of}
use Rattle.ficus_model.specs.Held.{IsHeldObject}
use Rattle.ficus_model.specs.Known.{Knows}
use Rattle.ficus_model.specs.Lawful.{Volume, IsLawful}
use Rattle.ficus_model.specs.Live.{IsMade, HasName}
use Rattle.ficus_model.specs.Vectors.{IsCoverOf}
use Rattle.ficus_laws.proofs.Issued.{made_once, made_issued}
use Rattle.ficus_version_laws.proofs.Counting.{counts_once}
use Rattle.ficus_version_laws.proofs.Fitting.{vector_fits, cover_fits}
use Rattle.ficus_final_laws.proofs.Finishing.{final}
use Rattle.ficus_held_laws.specs.Objects.{KeptObject, IsKeptObject, HasObject, HasKind}
use Rattle.ficus_held_laws.proofs.Leaving.{held_listed}
use Rattle.ficus_file_laws.specs.Items.{AreVersionsOf}
use Rattle.ficus_file_laws.proofs.Items.{shown_item}
use Rattle.ficus_file_laws.proofs.Listing.{one_list}
use Rattle.ficus_held_file_laws.specs.Tables.{object_of, objects_of, AreHeldFiles}
use Rattle.ficus_held_file_laws.specs.Laws.{IsKnownFile, ListsObject, IsFileOfHistory}

-- the list has an object with an identifier where it holds a file under it
pub object_held : (files : List FileReplica) {id : Id} → Holds files id → HasObject (objects_of files) id
object_held files h =
    record { object = object_of h.item; inside = into_map object_of files h.item h.inside; named = h.has_id }

pub held_object : (files : List FileReplica) {id : Id} → HasObject (objects_of files) id → Holds files id
held_object files has =
    let found = from_map object_of files has.object has.inside in
    record { item = found.0; inside = found.1; has_id = ap (λ (object : KeptObject). object.id) found.2 ∙ has.named }

-- each file of the list is an object that is kept, with the versions that are shown
module _ {members : ℕ} {H : List Event} {replica : ℕ} {files : List FileReplica} {file : FileReplica}
    (held : AreHeldFiles members H replica files) (inside : Contains files file) where
  pub kept_file : IsKeptObject members H replica (object_of file)
  kept_file = held.kept.each (object_of file) (into_map object_of files file inside)

  pub versions_held : AreVersionsOf H (Knows H replica) file.id file.versions
  versions_held = record { shown = kept_file.versions; ordered = held.ordered file inside }

  pub known_file : IsKnownFile H (Knows H replica) file
  known_file = record { made = kept_file.held.made; versions = versions_held }

  version_counts : (version : Version) → Contains file.versions version →
      (by : ℕ) → count_of version.vector by ≤ updates_of by H
  version_counts version listed by =
      vector_fits (shown_item file.versions version versions_held listed).is.vector by

  pub file_of_history : IsFileOfHistory H file
  file_of_history = record {
    id = made_issued kept_file.held.made;
    versions = version_counts;
    covered = λ by. cover_fits kept_file.cover by;
  }

module _ {members : ℕ} {H : List Event} {replica : ℕ} {files others : List FileReplica}
    (held : AreHeldFiles members H replica files) (held_too : AreHeldFiles members H replica others) where
  -- a file is held as one file
  file_once : {file other : FileReplica} → Contains files file → Contains others other → other.id ≡ file.id →
      other ≡ file
  file_once {file} {other} inside inside_too same =
      let k = kept_file held inside in
      let l = kept_file held_too inside_too in
      let made = subst (λ id. IsMade H (Knows H replica) id other.kind) same l.held.made in
      let kind : other.kind ≡ file.kind = made_once made k.held.made in
      let his = subst (λ id. AreVersionsOf H (Knows H replica) id other.versions) same
      (versions_held held_too inside_too) in
      let versions = one_list other.versions file.versions his (versions_held held inside) in
      let cover = subst (λ id. IsCoverOf H (Knows H replica) id (count_of other.covered)) same l.cover in
      let covered : other.covered ≡ file.covered =
      same_vector other.covered file.covered (λ by. counts_once (cover.counts by) (k.cover.counts by)) in
      λ i. record { id = same i; kind = kind i; versions = versions i; covered = covered i }

  -- and each file of the one list is one of the other
  file_inside : (file : FileReplica) → Contains files file → Contains others file
  file_inside file inside = go (held_or_not id_of others file.id)
    where
      k : IsKeptObject members H replica (object_of file)
      k = kept_file held inside

      go : (found : Option FileReplica) × HoldsUnder others file.id found → Contains others file
      go (None, none) =
          let g = held_too.kept.absent file.id file.kind k.held.made (λ has. none (held_object others has)) in
          absurd (k.held.held g.position g.done)
      go (Some other, (inside_too, same)) = subst (Contains others) (file_once inside inside_too same) inside_too

pub files_once : {members : ℕ} {H : List Event} {replica : ℕ} {files others : List FileReplica} →
    AreHeldFiles members H replica files → AreHeldFiles members H replica others → files ≡ others
files_once {files = files} {others = others} held held_too =
    same_items id_of files others held.rising held_too.rising
    (λ file. (file_inside held held_too file, file_inside held_too held file))

-- an object that is held is listed
pub object_listed : {members : ℕ} {H : List Event} {replica : ℕ} {files : List FileReplica} {object : Id} {kind : Kind} →
    AreHeldFiles members H replica files → IsHeldObject members H replica object kind → ListsObject files object kind
object_listed {files = files} {object = object} {kind = kind} held h = record {
  file = found.0;
  inside = found.1;
  has_id = ap (λ (o : KeptObject). o.id) found.2 ∙ listed.has.named;
  of_kind = ap (λ (o : KeptObject). o.kind) found.2 ∙ listed.of;
}
  where
    listed : HasKind (objects_of files) object kind
    listed = held_listed held.kept h

    found : (file : FileReplica) × Contains files file × (object_of file ≡ listed.has.object)
    found = from_map object_of files listed.has.object listed.has.inside

-- one with a live name isn't done, so it is
pub named_listed : (volume : Volume) (H : List Event) (replica : ℕ) (files : List FileReplica) (object : Id)
    (kind : Kind) → IsLawful volume H → IsMember volume.members replica →
    AreHeldFiles volume.members H replica files → HasName H (Knows H replica) object →
    IsMade H (Knows H replica) object kind → ListsObject files object kind
named_listed volume H replica files object kind lawful m held named made = object_listed held (record {
  made = made;
  held = λ position d. (final volume H lawful).nameless replica position replica object d m named;
})
