-- In a lawful history of at most eight members there is a list of the files that a replica holds.
use Rattle.std.proofs.Common.{◌≡◌, ◌⊎◌, ℕ, List, length, refl, subst, sym, inl, inr}
use Rattle.std.specs.Prelude.{Contains}
use Rattle.ficus_ids.specs.ListLaws.{from_map, into_map}
use Rattle.ficus_ids.specs.Members.{IsCount}
use Rattle.ficus_ids.specs.declared.id.Id.{Id}
use Rattle.ficus_ids.specs.declared.kind.Kind.{Kind}
use Rattle.ficus_vectors.specs.Vector.{count_of}
use Rattle.ficus_vectors.specs.VectorLaws.{same_vector}
use Rattle.ficus_file.specs.declared.file.FileReplica.{FileReplica}
use Rattle.ficus_merge_files.specs.Versions.{AreOrdered}
use Rattle.ficus_model.specs.declared.event.Event.{Event}
use Rattle.ficus_model.specs.declared.event.Op.{Op}
use Rattle.ficus_model.specs.declared.event.Op.TheVariants.{Make}
use Rattle.ficus_model.specs.Events.{IsUpdate}
use Rattle.ficus_model.specs.Known.{Knows}
use Rattle.ficus_model.specs.Lawful.{Volume, IsLawful}
use Rattle.ficus_model.specs.Live.{IsMade}
use Rattle.ficus_model.specs.Vectors.{IsCoverOf}
use Rattle.ficus_laws.proofs.Deciding.{Decided, knows_decided}
use Rattle.ficus_laws.proofs.Issued.{made_once}
use Rattle.ficus_laws.proofs.Past.{update_same}
use Rattle.ficus_laws.proofs.Positions.{at_within}
use Rattle.ficus_version_laws.proofs.Counting.{counts_once}
use Rattle.ficus_held_laws.specs.Objects.{HasDone, IsKeptObject}
use Rattle.ficus_file_laws.specs.Items.{AreVersionsOf}
use Rattle.ficus_file_laws.proofs.Listing.{one_list}
use Rattle.ficus_held_file_laws.specs.Tables.{object_of}
use Rattle.ficus_view_laws.proofs.Objects.{done_or_not, unless_refuted}
use Rattle.ficus_view_laws.proofs.Positions.{HasUpdateAt, update_or_none}
use Rattle.ficus_table_laws.specs.Laws.{HasFiles}
use Rattle.ficus_table_laws.proofs.Gathering.{Gathered, gathered, in_order}
use Rattle.ficus_table_laws.proofs.Versions.{cover_of_counts, list_of_versions}

module _ (volume : Volume) (H : List Event) (replica : ℕ) (lawful : IsLawful volume H)
    (count : IsCount volume.members) where
  abbrev U : ℕ → Type 0
  U = Knows H replica

  -- the replica holds the file, as tables keep it
  record IsKeptFile (file : FileReplica) : Type 0 where
    object : IsKeptObject volume.members H replica (object_of file)
    ordered : AreOrdered file.versions

  -- at the position the file or directory is made, which the replica holds
  record Stands (position : ℕ) (file : FileReplica) : Type 0 where
    known : U position
    dir : Id
    name : List ℕ
    text : List ℕ
    update : IsUpdate H position file.id (Make dir name file.kind text)
    kept : IsKeptFile file

  file_once : (file other : FileReplica) → IsKeptFile file → IsKeptFile other → file.id ≡ other.id → file ≡ other
  file_once file other kept kept_too same =
      let made = subst (λ id. IsMade H U id other.kind) (sym same) kept_too.object.held.made in
      let kind : file.kind ≡ other.kind = made_once kept.object.held.made made in
      let own : AreVersionsOf H U file.id file.versions =
      record { shown = kept.object.versions; ordered = kept.ordered } in
      let his : AreVersionsOf H U other.id other.versions =
      record { shown = kept_too.object.versions; ordered = kept_too.ordered } in
      let versions = one_list file.versions other.versions own
      (subst (λ id. AreVersionsOf H U id other.versions) (sym same) his) in
      let cover = subst (λ id. IsCoverOf H U id (count_of other.covered)) (sym same) kept_too.object.cover in
      let covered : file.covered ≡ other.covered =
      same_vector file.covered other.covered (λ by. counts_once (kept.object.cover.counts by) (cover.counts by)) in
      λ i. record { id = same i; kind = kind i; versions = versions i; covered = covered i }

  kept_exists : (object : Id) (kind : Kind) → IsMade H U object kind →
      (HasDone volume.members H replica object → ⊥) → (file : FileReplica) × (file.id ≡ object) × (file.kind ≡ kind) ×
      IsKeptFile file
  kept_exists object kind made undone =
      let versions = list_of_versions volume H lawful count replica object in
      let cover = cover_of_counts volume H lawful count replica object in (
        record { id = object; kind = kind; versions = versions.0; covered = cover.0 },
        refl,
        refl,
        record {
          object = record {
            held = record { made = made; held = λ position done. undone (record { position = position; done = done }) };
            versions = versions.1.shown;
            cover = cover.1;
          };
          ordered = versions.1.ordered;
        },
      )

  find : (position : ℕ) → ((file : FileReplica) × Stands position file) ⊎
      ((file : FileReplica) → Stands position file → ⊥)
  find position = go (knows_decided H replica position) (update_or_none H position)
    where
      Found : Type 0
      Found = ((file : FileReplica) × Stands position file) ⊎ ((file : FileReplica) → Stands position file → ⊥)

      none : (number : Id) (op : Op) → IsUpdate H position number op →
          ((dir : Id) (name : List ℕ) (kind : Kind) (text : List ℕ) → op ≡ Make dir name kind text → ⊥) →
          ((file : FileReplica) × Stands position file) ⊎ ((file : FileReplica) → Stands position file → ⊥)
      none number op update other = inr (λ file there.
          other there.dir there.name file.kind there.text (update_same update there.update).1)

      made : U position → (object dir : Id) (name : List ℕ) (kind : Kind) (text : List ℕ) →
          IsUpdate H position object (Make dir name kind text) →
          ((file : FileReplica) × Stands position file) ⊎ ((file : FileReplica) → Stands position file → ⊥)
      made known object dir name kind text update = pick (done_or_not volume.members H replica object)
        where
          pick : Decided (HasDone volume.members H replica object) →
              ((file : FileReplica) × Stands position file) ⊎ ((file : FileReplica) → Stands position file → ⊥)
          pick (inr undone) =
              let kept = kept_exists object kind
              (record { position = position; dir = dir; name = name; text = text; known = known; update = update }) undone in
              inl (
                kept.0,
                record {
                  known = known;
                  dir = dir;
                  name = name;
                  text = text;
                  update = rw (kept.1, kept.2) update;
                  kept = kept.3;
                },
              )
          pick (inl done) = inr (λ file there.
              let same : object ≡ file.id = (update_same update there.update).0 in
              let at = subst (HasDone volume.members H replica) same done in
              there.kept.object.held.held at.position at.done)

      by : U position → (number : Id) (op : Op) → IsUpdate H position number op →
          ((file : FileReplica) × Stands position file) ⊎ ((file : FileReplica) → Stands position file → ⊥)
      by known number (Make dir name kind text) update = made known number dir name kind text update
      by known number op update = none number op update (λ d n k t e. cc)

      go : Decided (U position) → Decided (HasUpdateAt H position) →
          ((file : FileReplica) × Stands position file) ⊎ ((file : FileReplica) → Stands position file → ⊥)
      go (inr unknown) update = inr (λ file there. unknown there.known)
      go (inl known) (inr nothing) = inr (λ file there.
          nothing (record { number = file.id; op = Make there.dir there.name file.kind there.text; update = there.update }))
      go (inl known) (inl here) = by known here.number here.op here.update

  all : Gathered Stands find (length H)
  all = gathered Stands find (length H)

  kept : (file : FileReplica) → Contains all.items file → IsKeptFile file
  kept file inside = (all.each file inside).1.kept

  -- what is known and isn't done is in the list
  listed : (object : Id) (kind : Kind) → IsMade H U object kind → (HasDone volume.members H replica object → ⊥) →
      (file : FileReplica) × Contains all.items file × (file.id ≡ object)
  listed object kind made undone =
      let one = kept_exists object kind made undone in
      let found = all.all made.position one.0 (at_within made.update.at) (record {
        known = made.known;
        dir = made.dir;
        name = made.name;
        text = made.text;
        update = rw (one.1, one.2) made.update;
        kept = one.3;
      }) in
      (found.item, found.inside, (update_same found.stands.update made.update).0)

  pub files_exist : HasFiles volume.members H replica
  files_exist =
      let rising = in_order (λ (file : FileReplica). file.id) all.items
      (λ x y inside inside_too same. file_once x y (kept x inside) (kept y inside_too) same) in
      record {
        files = rising.0;
        are = record {
          rising = rising.1.rising;
          ordered = λ file inside. (kept file (rising.1.each file inside)).ordered;
          kept = record {
            each = λ object inside.
                let found = from_map object_of rising.0 object inside in
                subst (IsKeptObject volume.members H replica) found.2
                (kept found.0 (rising.1.each found.0 found.1)).object;
            absent = λ id kind made none. unless_refuted (done_or_not volume.members H replica id)
                (λ undone.
                let found = listed id kind made undone in
                none (record {
                  object = object_of found.0;
                  inside = into_map object_of rising.0 found.0 (rising.1.all found.0 found.1);
                  named = found.2;
                }));
          };
        };
      }
