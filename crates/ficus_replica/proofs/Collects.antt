-- `collect`: a replica that stands for a history collects, and stands for it with the collection; how much is given up.
use Rattle.std.proofs.Common.{◌≡◌, ◌⊎◌, ℕ, ◌+◌, List, [], ◌∷◌, ◌++◌, map, Option, Some, None, refl, sym, ap, subst, ◌∙◌, inl, inr}
use Rattle.std.specs.Prelude.{Contains}
use Rattle.ficus_ids.specs.ListLaws.{from_map, into_map}
use Rattle.ficus_ids.specs.Rising.{HoldsBy}
use Rattle.ficus_ids.specs.RisingLaws.{held_or_not}
use Rattle.ficus_ids.specs.declared.id.Id.{Id}
use Rattle.ficus_entry.specs.Entry.{Holds as HoldsEntry, HoldsUnder}
use Rattle.ficus_entry.specs.declared.entry.Entry.{Entry}
use Rattle.ficus_file.specs.Files.{id_of, Holds}
use Rattle.ficus_file.specs.declared.orphan.Orphan.{Orphan}
use Rattle.ficus_collection.specs.Reclaim.{IsReclaimed, AreUndropped}
use Rattle.ficus_collection.specs.declared.reclaiming.Reclaimed.{Reclaimed}
use Rattle.ficus_model.specs.declared.event.Event.{Event}
use Rattle.ficus_model.specs.declared.event.Event.TheVariants.{Collect}
use Rattle.ficus_model.specs.Held.{IsHeldEntry, IsHeldObject}
use Rattle.ficus_model.specs.Known.{Knows}
use Rattle.ficus_model.specs.Lawful.{Volume, IsLawful}
use Rattle.ficus_model.specs.Live.{ModelEntry}
use Rattle.ficus_laws.proofs.Issued.{entered_once, made_once}
use Rattle.ficus_laws.specs.Updates.{UpdatesWithin}
use Rattle.ficus_laws.proofs.OneMore.{within_more}
use Rattle.ficus_laws.proofs.Shown.{entered_within, made_within}
use Rattle.ficus_laws.proofs.Updates.{count_no_update}
use Rattle.ficus_orphan.specs.Orphan.{AreOrphans}
use Rattle.ficus_mentions.specs.Touched.{touched_by}
use Rattle.ficus_durable_state.specs.declared.saved.Saved.{Saved}
use Rattle.ficus_durable_state.proofs.ReclaimedTables.{entry_was, file_was}
use Rattle.ficus_held_laws.specs.Entries.{AreKeptEntries, place_of}
use Rattle.ficus_held_laws.specs.Objects.{KeptObject, IsTouched, AreLeft, AreOrphans as AreKnownOrphans}
use Rattle.ficus_held_laws.proofs.Leaving.{held_listed, objects_left}
use Rattle.ficus_held_laws.proofs.Listing.{list_collected}
use Rattle.ficus_held_file_laws.specs.Tables.{object_of, objects_of, AreHeldEntries, AreHeldFiles}
use Rattle.ficus_held_file_laws.proofs.Files.{held_object, kept_file}
use Rattle.ficus_deciding.proofs.Orphanages.{orphan_ids}
use Rattle.ficus_replica.specs.declared.collect.Collected.{Collected}
use Rattle.ficus_replica.specs.declared.replica.Replica.{Replica}
use Rattle.ficus_replica.specs.Collect.{CollectGives, CollectStands, IsEntryGivenUp, IsObjectGivenUp, IsGarbage, Garbage}
use Rattle.ficus_replica.specs.SavedOf.{IsSavedOf, StandsFor}
use Rattle.ficus_replica.proofs.Accepts.{touched_same}
use Rattle.ficus_replica.proofs.Counting.{counted_as, counted_once, held_in_ids, ids_held, left_out_counted}
use Rattle.ficus_replica.proofs.OpenAsks.{open_kept}
use Rattle.ficus_replica.proofs.Saves.{collect_is_saved, generation_saved, saved_then, written_kept}
use Rattle.ficus_replica.proofs.Views.{stands_same}
use Rattle.ficus_replica.proofs.Leaving.{id_of_orphan}

-- a held entry is listed
entry_listed : {members : ℕ} {H : List Event} {replica : ℕ} {entries : List Entry} {entry : ModelEntry} →
    AreKeptEntries members H replica entries → IsHeldEntry members H replica entry → HoldsEntry entries entry.id
entry_listed {members} {H} {replica} {entries} {entry} kept held =
    go (held_or_not (λ (item : Entry). item.id) entries entry.id)
  where
    go : (found : Option Entry) × HoldsUnder entries entry.id found → HoldsEntry entries entry.id
    go (None, none) = absurd
        (held.held (kept.absent entry.id none (record { entry = entry; entered = held.entered; named = refl })))
    go (Some item, (inside, named)) = record { item = item; inside = inside; has_id = named }

-- In each of these the replica stands for a history, and collects.
module _ (volume : Volume) (H : List Event) (r : ℕ) {saved : Saved} {orphans : List Orphan} {reclaimed : Reclaimed}
    (lawful : IsLawful volume H) (is : IsSavedOf volume H r saved)
    (are : AreOrphans saved.entries saved.files orphans)
    (left : IsReclaimed saved.members saved.entries saved.files orphans reclaimed) where
  abbrev after : List Event
  after = H ++ Collect r ∷ []

  abbrev ids_of_orphans : List Id
  ids_of_orphans = map id_of_orphan orphans

  pub entries_after : AreHeldEntries volume.members after r reclaimed.entries
  entries_after = record {
    rising = left.rising;
    kept = list_collected is.member is.entries.kept
        (subst (λ members. AreUndropped members saved.entries reclaimed.entries) is.members left.undropped);
  }

  -- the orphans of the tables are those of the history
  known_orphans : AreKnownOrphans H r ids_of_orphans
  known_orphans object =
      let ids = orphan_ids saved orphans are object in
      let same = (stands_same lawful is).shown.orphans object in
      (λ inside. same.0 (ids.0 inside), λ orphan. ids.1 (same.1 orphan))

  touched_left : {object : Id} → Contains (touched_by reclaimed.entries) object ⊎ HoldsBy id_of_orphan orphans object →
      IsTouched reclaimed.entries object ⊎ Contains ids_of_orphans object
  touched_left {object} (inl touched) = inl ((touched_same reclaimed.entries object).0 touched)
  touched_left {object} (inr held) = inr (held_in_ids id_of_orphan orphans object held)

  left_touched : {object : Id} → IsTouched reclaimed.entries object ⊎ Contains ids_of_orphans object →
      Contains (touched_by reclaimed.entries) object ⊎ HoldsBy id_of_orphan orphans object
  left_touched {object} (inl touched) = inl ((touched_same reclaimed.entries object).1 touched)
  left_touched {object} (inr inside) = inr (ids_held id_of_orphan orphans object inside)

  abbrev IsNeeded : KeptObject → Type 0
  IsNeeded object = IsTouched reclaimed.entries object.id ⊎ Contains ids_of_orphans object.id

  -- the files that are left are the objects that the history leaves
  objects_are_left : AreLeft (objects_of saved.files) reclaimed.entries ids_of_orphans (objects_of reclaimed.files)
  objects_are_left object = (into, back)
    where
      into : Contains (objects_of reclaimed.files) object → Contains (objects_of saved.files) object × IsNeeded object
      into inside =
          let (file, in_left, same) = from_map object_of reclaimed.files object inside in
          let why = (left.left file).0 in_left in (
            subst (Contains (objects_of saved.files)) same (into_map object_of saved.files file why.0),
            subst IsNeeded same (touched_left why.1),
          )

      back : Contains (objects_of saved.files) object × IsNeeded object → Contains (objects_of reclaimed.files) object
      back (inside, needed) =
          let (file, was, same) = from_map object_of saved.files object inside in
          subst (Contains (objects_of reclaimed.files)) same
          (into_map object_of reclaimed.files file
          ((left.left file).1 (was, left_touched (subst IsNeeded (sym same) needed))))

  pub files_after : AreHeldFiles volume.members after r reclaimed.files
  files_after = record {
    rising = left.held.rising;
    ordered = λ file inside. is.files.ordered file (file_was left file inside);
    kept = objects_left H r reclaimed.entries ids_of_orphans (objects_of saved.files) (objects_of reclaimed.files)
        entries_after.kept known_orphans is.files.kept objects_are_left;
  }

  updates_stay : UpdatesWithin H (Knows H r) after (Knows after r)
  updates_stay = within_more H (Collect r ∷ []) r

  -- an entry is given up exactly where the list before holds its identifier and the one after doesn't
  entry_out : (id : Id) → HoldsEntry saved.entries id × (HoldsEntry reclaimed.entries id → ⊥) →
      IsEntryGivenUp volume.members H r id
  entry_out id (held, gone) = record {
    entry = place_of held.item;
    has_id = held.has_id;
    held = (is.entries.kept.each held.item held.inside).held;
    dropped = λ still. gone (subst (HoldsEntry reclaimed.entries) held.has_id (entry_listed entries_after.kept still));
  }

  out_entry : (id : Id) → IsEntryGivenUp volume.members H r id →
      HoldsEntry saved.entries id × (HoldsEntry reclaimed.entries id → ⊥)
  out_entry id given_up = (
    subst (HoldsEntry saved.entries) given_up.has_id (entry_listed is.entries.kept given_up.held),
    λ still.
        let kept = (entries_after.kept.each still.item still.inside).held in
        given_up.dropped (subst (IsHeldEntry volume.members after r)
        (entered_once kept.entered (entered_within updates_stay given_up.held.entered)
        (still.has_id ∙ sym given_up.has_id)) kept),
  )

  -- so it is with objects
  object_out : (id : Id) → Holds saved.files id × (Holds reclaimed.files id → ⊥) → IsObjectGivenUp volume.members H r id
  object_out id (held, gone) =
      let file = held.item in
      record {
        kind = file.kind;
        held = subst (λ object. IsHeldObject volume.members H r object file.kind) held.has_id
            (kept_file is.files held.inside).held;
        done = λ still. gone (held_object reclaimed.files (held_listed files_after.kept still).has);
      }

  out_object : (id : Id) → IsObjectGivenUp volume.members H r id → Holds saved.files id × (Holds reclaimed.files id → ⊥)
  out_object id given_up = (
    held_object saved.files (held_listed is.files.kept given_up.held).has,
    λ still.
        let file = still.item in
        let kept = subst (λ object. IsHeldObject volume.members after r object file.kind) still.has_id
        (kept_file files_after still.inside).held in
        given_up.done (subst (IsHeldObject volume.members after r id)
        (made_once kept.made (made_within updates_stay given_up.held.made)) kept),
  )

  -- as many are given up as the lists have fewer
  pub garbage_is : IsGarbage volume.members H r
      (record { entries = reclaimed.dropped_entries; objects = reclaimed.dropped_files })
  garbage_is = record {
    entries = counted_as (λ id. (entry_out id, out_entry id))
        (left_out_counted (λ (entry : Entry). entry.id) saved.entries reclaimed.entries reclaimed.dropped_entries
        is.entries.rising left.rising (entry_was left) left.entries_counted);
    objects = counted_as (λ id. (object_out id, out_object id))
        (left_out_counted id_of saved.files reclaimed.files reclaimed.dropped_files
        is.files.rising left.held.rising (file_was left) left.files_counted);
  }

  pub saved_collected : IsSavedOf volume after r (record saved {
    generation = saved.generation + 1;
    entries = reclaimed.entries;
    files = reclaimed.files;
  })
  saved_collected =
      let collect = Collect r in
      saved_then is
      (is.next ∙ ap (λ count. count + 1) (sym (count_no_update r H collect refl)))
      (is.used ∙ sym (written_kept r H collect refl))
      (ap (λ generation. generation + 1) is.generation ∙ sym (generation_saved r H collect (collect_is_saved r)))
      entries_after files_after

-- as many are given up as the history says, and the replica stands for it with the collection
pub collect_gives_stands : (old : Replica) (collected : Collected) → CollectGives old collected →
    (volume : Volume) (H : List Event) → IsLawful volume H → StandsFor volume H old.saved.me old →
    CollectStands volume H old.saved.me collected
collect_gives_stands old collected gives volume H lawful stands =
    let r = old.saved.me in
    subst (CollectStands volume H r) (sym gives.is) (record {
      garbage = garbage_is volume H r lawful stands.saved gives.are gives.left;
      after = record {
        lawful = stands.saved.member;
        stands = record {
          saved = saved_collected volume H r lawful stands.saved gives.are gives.left;
          ask = open_kept H r old.ask (Collect r) (λ closes. closes) stands.ask;
        };
      };
    })

-- and after a history there is so much to be given up, and no more
pub garbage_once : {members : ℕ} {H : List Event} {replica : ℕ} {one other : Garbage} →
    IsGarbage members H replica one → IsGarbage members H replica other → one ≡ other
garbage_once garbage garbage_too =
    let entries = counted_once garbage.entries garbage_too.entries in
    let objects = counted_once garbage.objects garbage_too.objects in
    λ i. record { entries = entries i; objects = objects i }
