-- An orphan isn't done, so it is listed; and which files of a list have an uncovered version.
use Rattle.std.proofs.Common.{ℕ, List, subst, ◌∙◌, inl, inr}
use Rattle.std.specs.Prelude.{Contains}
use Rattle.ficus_ids.specs.Members.{IsMember}
use Rattle.ficus_ids.specs.declared.id.Id.{Id}
use Rattle.ficus_ids.specs.declared.kind.Kind.{Kind}
use Rattle.ficus_vectors.specs.Vector.{count_of}
use Rattle.ficus_file.specs.File.{HasUncovered}
use Rattle.ficus_file.specs.declared.file.FileReplica.{FileReplica}
use Rattle.ficus_model.specs.declared.event.Event.{Event}
use Rattle.ficus_model.specs.Events.{before}
use Rattle.ficus_model.specs.Held.{IsDone}
use Rattle.ficus_model.specs.Known.{Knows}
use Rattle.ficus_model.specs.Lawful.{Volume, IsLawful}
use Rattle.ficus_model.specs.Live.{ModelEntry, IsEntered, IsRemoved, IsMade, IsFile}
use Rattle.ficus_model.specs.View.{IsFilled, HasUnseen, IsOrphan}
use Rattle.ficus_laws.proofs.Issued.{made_once}
use Rattle.ficus_laws.proofs.Knowledge.{knows_later}
use Rattle.ficus_version_laws.specs.Compared.{IsAtMost}
use Rattle.ficus_version_laws.specs.Listed.{Item}
use Rattle.ficus_version_laws.proofs.Orphaned.{unseen_beyond, beyond_unseen}
use Rattle.ficus_final_laws.specs.Laws.{KnowsAllOf}
use Rattle.ficus_final_laws.proofs.Finishing.{knows_all_of}
use Rattle.ficus_held_laws.specs.Objects.{IsKeptObject}
use Rattle.ficus_file_laws.specs.Items.{item_of}
use Rattle.ficus_file_laws.proofs.Items.{item_inside, from_items}
use Rattle.ficus_file_laws.proofs.Merging.{count_members, covers_from}
use Rattle.ficus_held_file_laws.specs.Tables.{object_of, AreHeldFiles}
use Rattle.ficus_held_file_laws.specs.Laws.{ListsObject}
use Rattle.ficus_held_file_laws.proofs.Files.{kept_file, object_listed, versions_held}

module _ (volume : Volume) (H : List Event) (lawful : IsLawful volume H) {replica position : ℕ} {object : Id}
    (m : IsMember volume.members replica) (done : IsDone volume.members H replica object position) where
  -- what the replica knew when it collected
  abbrev Then : ℕ → Type 0
  Then = Knows (before position H) replica

  all : KnowsAllOf H position replica object
  all = knows_all_of volume H lawful done m

  now : {at : ℕ} → Then at → Knows H replica at
  now known = knows_later position known

  entered_now : {entry : ModelEntry} → IsEntered H Then entry → IsEntered H (Knows H replica) entry
  entered_now e =
      record { position = e.position; op = e.op; known = now e.known; update = e.update; enters = e.enters }

  removed_now : {id : Id} → IsRemoved H Then id → IsRemoved H (Knows H replica) id
  removed_now r = record {
    position = r.position;
    number = r.number;
    op = r.op;
    known = now r.known;
    update = r.update;
    removes = r.removes;
  }

  not_filled : IsFilled H (Knows H replica) object → ⊥
  not_filled filled =
      let inside = filled.inside in
      inside.live.not_removed (removed_now (all.entries replica inside.entry inside.live.entered (inr inside.in_dir)))

  file_then : IsFile H (Knows H replica) object → IsFile H Then object
  file_then is_file = record {
    kind = all.made.0;
    made = all.made.1;
    other = λ dir. is_file.other (made_once is_file.made all.made.1 ∙ dir);
  }

  not_unseen : HasUnseen H (Knows H replica) object → ⊥
  not_unseen unseen = done.no_orphan (record {
    nameless = λ named. named.live.not_removed
        (all.entries replica named.entry (entered_now named.live.entered) (inl named.leads));
    kept = inr (record {
      is_file = file_then unseen.is_file;
      position = unseen.position;
      uncovered = record {
        version = unseen.uncovered.version;
        known = all.versions unseen.position unseen.uncovered.version;
        uncovered = λ cover covering known past. unseen.uncovered.uncovered cover covering (now known) past;
      };
    });
  })

  pub not_orphan : IsOrphan H (Knows H replica) object → ⊥
  not_orphan orphan = elim orphan.kept [ inl filled ↦ not_filled filled | inr unseen ↦ not_unseen unseen ]

pub orphan_listed : (volume : Volume) (H : List Event) (replica : ℕ) (files : List FileReplica) (object : Id)
    (kind : Kind) → IsLawful volume H → IsMember volume.members replica →
    AreHeldFiles volume.members H replica files → IsOrphan H (Knows H replica) object →
    IsMade H (Knows H replica) object kind → ListsObject files object kind
orphan_listed volume H replica files object kind lawful m held orphan made = object_listed held (record {
  made = made;
  held = λ position done. not_orphan volume H lawful m done orphan;
})

-- a version of a file of the list is uncovered exactly where the vector of one isn't at most the cover
module _ (volume : Volume) (H : List Event) {replica : ℕ} {files : List FileReplica} {file : FileReplica}
    (lawful : IsLawful volume H) (held : AreHeldFiles volume.members H replica files)
    (inside : Contains files file) where
  kept : IsKeptObject volume.members H replica (object_of file)
  kept = kept_file held inside

  pub unseen_uncovered : HasUnseen H (Knows H replica) file.id → HasUncovered file
  unseen_uncovered unseen =
      let beyond = unseen_beyond volume H lawful replica kept.versions kept.cover unseen in
      let found = from_items file.versions beyond.item beyond.inside in
      record {
        version = found.version;
        inside = found.inside;
        beyond = λ covers. beyond.beyond
            (subst (λ (item : Item). IsAtMost volume.members item.vector (count_of file.covered)) found.is
            (record { each = λ member is. covers.each member }));
      }

  pub uncovered_unseen : HasUncovered file → HasUnseen H (Knows H replica) file.id
  uncovered_unseen uncovered =
      let counted = count_members volume H file.versions lawful (versions_held held inside) in
      beyond_unseen volume H lawful replica kept.versions kept.cover (record {
        item = item_of uncovered.version;
        inside = item_inside file.versions uncovered.version uncovered.inside;
        beyond = λ below. uncovered.beyond (covers_from volume.members file.covered uncovered.version.vector
            (counted.each uncovered.version uncovered.inside) below);
      })
