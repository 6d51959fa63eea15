-- What a replica's tables show is what the history shows for which it stands.
use Rattle.std.proofs.Common.{◌≡◌, ◌↔◌, ℕ, List, refl, sym, subst, ◌∙◌, inl, inr, arith}
use Rattle.std.specs.Prelude.{Contains}
use Rattle.ficus_ids.specs.declared.id.Id.{Id}
use Rattle.ficus_ids.specs.declared.kind.Kind.{Kind}
use Rattle.ficus_ids.specs.declared.kind.Kind.TheVariants.{Dir}
use Rattle.ficus_entry.specs.Inside.{HasLiveInside, IsNamedBy}
use Rattle.ficus_file.specs.Version.{HasTwoTexts}
use Rattle.ficus_file.specs.declared.file.FileReplica.{FileReplica}
use Rattle.ficus_file.specs.declared.version.Version.{Version}
use Rattle.ficus_model.specs.declared.event.Event.{Event}
use Rattle.ficus_model.specs.Known.{Knows}
use Rattle.ficus_model.specs.Lawful.{Volume, IsLawful}
use Rattle.ficus_model.specs.Live.{ModelEntry, IsLive, IsMade, HasInside, HasName}
use Rattle.ficus_model.specs.Versions.{IsInConflict}
use Rattle.ficus_model.specs.View.{HasUnseen, IsOrphan, IsVisible}
use Rattle.ficus_laws.proofs.Issued.{made_once}
use Rattle.ficus_laws.proofs.Places.{entered_target}
use Rattle.ficus_durable_state.specs.declared.saved.Saved.{Saved}
use Rattle.ficus_file_laws.specs.Items.{AreVersionsOf}
use Rattle.ficus_file_laws.proofs.Listing.{one_list, conflict_of_list}
use Rattle.ficus_held_laws.specs.Entries.{place_of}
use Rattle.ficus_held_file_laws.specs.Laws.{IsKnownFile, ListsObject}
use Rattle.ficus_held_file_laws.proofs.Entries.{live_from_listed, live_listed, removed_from_listed, removed_listed}
use Rattle.ficus_held_file_laws.proofs.Files.{known_file, named_listed}
use Rattle.ficus_held_file_laws.proofs.Orphans.{orphan_listed, unseen_uncovered, uncovered_unseen}
use Rattle.ficus_orphan.specs.Orphan.{IsOrphanIn}
use Rattle.ficus_rules.specs.View.{SameView, history_view}
use Rattle.ficus_deciding.specs.View.{HasObject, IsVisibleBy, held_live, held_dead, tables_view}
use Rattle.ficus_replica.specs.SavedOf.{IsSavedOf}

-- an object with a live name is made
pub named_made : (volume : Volume) (H : List Event) (r : ℕ) (object : Id) → IsLawful volume H →
    HasName H (Knows H r) object → (kind : Kind) × IsMade H (Knows H r) object kind
named_made volume H r object lawful named =
    let made = entered_target volume H lawful named.live.entered in
    (made.0, subst (λ target. IsMade H (Knows H r) target made.0) named.leads made.1)

-- so is an orphan
pub orphan_made : {H : List Event} {U : ℕ → Type 0} {object : Id} → IsOrphan H U object →
    (kind : Kind) × IsMade H U object kind
orphan_made orphan = elim orphan.kept [
  | inl filled ↦ (Dir, filled.made)
  | inr unseen ↦ (unseen.is_file.kind, unseen.is_file.made)
]

pub visible_made : (volume : Volume) (H : List Event) (r : ℕ) (object : Id) → IsLawful volume H →
    IsVisible H (Knows H r) object → (kind : Kind) × IsMade H (Knows H r) object kind
visible_made volume H r object lawful (inl named) = named_made volume H r object lawful named
visible_made volume H r object lawful (inr orphan) = orphan_made orphan

module _ {volume : Volume} {H : List Event} {r : ℕ} {saved : Saved} (lawful : IsLawful volume H)
    (is : IsSavedOf volume H r saved) where
  pub live_history : (entry : ModelEntry) → (tables_view saved).live entry ↔ IsLive H (Knows H r) entry
  live_history entry = (
    λ inside. live_from_listed {entry = held_live entry} is.entries refl inside,
    λ live. live_listed {entry = held_live entry} is.entries is.member refl live,
  )

  -- so it is with what is known of removals
  pub marks_history : (entry : ModelEntry) (knowing knowing_all_know : ℕ) →
      (tables_view saved).marks entry knowing knowing_all_know ↔
      (history_view volume H r).marks entry knowing knowing_all_know
  marks_history entry knowing knowing_all_know = (
    removed_from_listed {entry = held_dead entry knowing knowing_all_know} is.entries refl,
    removed_listed {entry = held_dead entry knowing knowing_all_know} is.entries refl,
  )

  name_history : {object : Id} → IsNamedBy saved.entries object → HasName H (Knows H r) object
  name_history named = record {
    entry = place_of named.entry;
    live = live_from_listed is.entries named.live named.inside;
    leads = named.leads;
  }

  history_name : {object : Id} → HasName H (Knows H r) object → IsNamedBy saved.entries object
  history_name named = record {
    entry = held_live named.entry;
    inside = (live_history named.entry).1 named.live;
    live = refl;
    leads = named.leads;
  }

  known : (file : FileReplica) → Contains saved.files file → IsKnownFile H (Knows H r) file
  known file inside = known_file is.files inside

  made_as : {object : Id} {kind : Kind} (file : FileReplica) → Contains saved.files file → file.id ≡ object →
      file.kind ≡ kind → IsMade H (Knows H r) object kind
  made_as {object} {kind} file inside has_id of_kind =
      subst (λ id. IsMade H (Knows H r) id kind) has_id
      (subst (λ k. IsMade H (Knows H r) file.id k) of_kind (known file inside).made)

  -- something lives in a directory of the tables exactly where it does in the history
  inside_history : {dir : Id} → HasLiveInside saved.entries dir → HasInside H (Knows H r) dir
  inside_history has =
      record { entry = place_of has.entry; live = live_from_listed is.entries has.live has.inside; in_dir = has.in_dir }

  history_inside : {dir : Id} → HasInside H (Knows H r) dir → HasLiveInside saved.entries dir
  history_inside has = record {
    entry = held_live has.entry;
    inside = (live_history has.entry).1 has.live;
    live = refl;
    in_dir = has.in_dir;
  }

  orphan_history : {object : Id} → IsOrphanIn saved.entries saved.files object → IsOrphan H (Knows H r) object
  orphan_history {object} orphan = record {
    nameless = λ named. orphan.nameless (history_name named);
    kept = elim orphan.kept [
      | inl filled ↦ inl (record {
        made = made_as orphan.file orphan.inside orphan.has_id filled.0;
        inside = subst (HasInside H (Knows H r)) orphan.has_id (inside_history filled.1);
      })
      | inr uncovered ↦ inr (subst (HasUnseen H (Knows H r)) orphan.has_id
          (uncovered_unseen volume H lawful is.files orphan.inside uncovered))
    ];
  }

  history_orphan : {object : Id} → IsOrphan H (Knows H r) object → IsOrphanIn saved.entries saved.files object
  history_orphan {object} orphan = record {
    nameless = λ named. orphan.nameless (name_history named);
    file = row.file;
    inside = row.inside;
    has_id = row.has_id;
    kept = elim orphan.kept [
      | inl filled ↦ inl (
        row.of_kind ∙ made_once made.1 filled.made,
        subst (HasLiveInside saved.entries) (sym row.has_id) (history_inside filled.inside),
      )
      | inr unseen ↦ inr (unseen_uncovered volume H lawful is.files row.inside
          (subst (HasUnseen H (Knows H r)) (sym row.has_id) unseen))
    ];
  }
    where
      made : (kind : Kind) × IsMade H (Knows H r) object kind
      made = orphan_made orphan

      row : ListsObject saved.files object made.0
      row = orphan_listed volume H r saved.files object made.0 lawful is.member is.files orphan made.1

  visible_history : {object : Id} → IsVisibleBy saved object → IsVisible H (Knows H r) object
  visible_history (inl named) = inl (name_history named)
  visible_history (inr orphan) = inr (orphan_history orphan)

  history_visible : {object : Id} → IsVisible H (Knows H r) object → IsVisibleBy saved object
  history_visible (inl named) = inl (history_name named)
  history_visible (inr orphan) = inr (history_orphan orphan)

  -- a visible object, as it stands among the files, and what is known of it
  record IsRow (object : Id) (kind : Kind) : Type 0 where
    row : ListsObject saved.files object kind
    versions : AreVersionsOf H (Knows H r) object row.file.versions

  -- a visible object stands among the files, with its kind
  pub visible_listed : {object : Id} {kind : Kind} → IsVisible H (Knows H r) object → IsMade H (Knows H r) object kind →
      ListsObject saved.files object kind
  visible_listed {object} {kind} (inl named) made =
      named_listed volume H r saved.files object kind lawful is.member is.files named made
  visible_listed {object} {kind} (inr orphan) made =
      orphan_listed volume H r saved.files object kind lawful is.member is.files orphan made

  row_of : {object : Id} {kind : Kind} → IsVisible H (Knows H r) object → IsMade H (Knows H r) object kind →
      IsRow object kind
  row_of {object} {kind} visible made =
      let row = visible_listed visible made in
      record {
        row = row;
        versions = subst (λ id. AreVersionsOf H (Knows H r) id row.file.versions) row.has_id
            (known row.file row.inside).versions;
      }

  visible_row : {object : Id} (visible : IsVisible H (Knows H r) object) →
      IsRow object (visible_made volume H r object lawful visible).0
  visible_row {object} visible = row_of visible (visible_made volume H r object lawful visible).1

  -- so each visible object has a list of versions
  pub visible_versions : {object : Id} → IsVisible H (Knows H r) object →
      (versions : List Version) × AreVersionsOf H (Knows H r) object versions
  visible_versions visible = let found = visible_row visible in (found.row.file.versions, found.versions)

  -- what is so of a visible object's row is so of what the tables show
  row_shown : {object : Id} {kind : Kind} (row : ListsObject saved.files object kind) →
      IsVisible H (Knows H r) object → (fact : FileReplica → Type 0) → fact row.file → HasObject saved object fact
  row_shown row visible fact so = record {
    visible = history_visible visible;
    file = row.file;
    inside = row.inside;
    has_id = row.has_id;
    so = so;
  }

  kinds_history : (object : Id) (kind : Kind) →
      (tables_view saved).kinds object kind ↔ (history_view volume H r).kinds object kind
  kinds_history object kind = (
    λ has. (visible_history has.visible, made_as has.file has.inside has.has_id has.so),
    λ has. let row = (row_of has.0 has.1).row in row_shown row has.0 (λ file. file.kind ≡ kind) row.of_kind,
  )

  conflicts_history : (object : Id) →
      (tables_view saved).conflicts object ↔ (history_view volume H r).conflicts object
  conflicts_history object = (
    λ has. (
      visible_history has.visible,
      subst (IsInConflict H (Knows H r)) has.has_id
          ((conflict_of_list has.file.versions (known has.file has.inside).versions).1 has.so),
    ),
    λ has.
        let found = visible_row has.0 in
        row_shown found.row has.0 (λ file. HasTwoTexts file.versions)
        ((conflict_of_list found.row.file.versions found.versions).0 has.1),
  )

  versions_history : (object : Id) (versions : List Version) →
      (tables_view saved).versions object versions ↔ (history_view volume H r).versions object versions
  versions_history object versions = (
    λ has. (
      visible_history has.visible,
      subst (λ id. AreVersionsOf H (Knows H r) id versions) has.has_id
          (subst (AreVersionsOf H (Knows H r) has.file.id) has.so (known has.file has.inside).versions),
    ),
    λ has.
        let found = visible_row has.0 in
        row_shown found.row has.0 (λ file. file.versions ≡ versions)
        (one_list found.row.file.versions versions found.versions has.1),
  )

  -- this alone carries an answer over the tables to one over the history, and back
  pub stands_same : SameView (tables_view saved) (history_view volume H r)
  stands_same = record {
    shown = record {
      members = is.members;
      live = live_history;
      orphans = λ object. (orphan_history, history_orphan);
      kinds = kinds_history;
      conflicts = conflicts_history;
      versions = versions_history;
    };
    marks = marks_history;
    spent = (λ spent. omega (arith, is.ids, is.next), λ spent. omega (arith, is.ids, is.next));
    over_quota = λ bytes. (
      λ over. omega (arith, is.bytes, is.used),
      λ over. omega (arith, is.bytes, is.used),
    );
  }
