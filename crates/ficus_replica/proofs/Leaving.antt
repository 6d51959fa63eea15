-- What a collection leaves of a replica's tables: nothing more to be given up, what fits an image, and one outcome.
use Rattle.std.proofs.Common.{◌≡◌, ◌⊎◌, ◌-◌, ◌^◌, ◌<◌, List, length, sym, ap, subst, inl, inr, arith}
use Rattle.std.specs.Prelude.{Contains}
use Rattle.ficus_ids.specs.Rising.{HoldsBy}
use Rattle.ficus_ids.specs.RisingLaws.{same_items}
use Rattle.ficus_ids.specs.declared.id.Id.{Id}
use Rattle.ficus_entry.specs.declared.entry.Entry.{Entry}
use Rattle.ficus_entry.specs.declared.entry.State.TheVariants.{Live}
use Rattle.ficus_file.specs.Files.{id_of}
use Rattle.ficus_file.specs.declared.file.FileReplica.{FileReplica}
use Rattle.ficus_file.specs.declared.orphan.Orphan.{Orphan}
use Rattle.ficus_collection.specs.Reclaim.{IsFullyKnown, IsReclaimed}
use Rattle.ficus_collection.specs.declared.reclaiming.Reclaimed.{Reclaimed}
use Rattle.ficus_orphan.specs.Orphan.{AreOrphans, IsKept, IsOrphanIn}
use Rattle.ficus_mentions.specs.Touched.{touched_by}
use Rattle.ficus_durable_state.specs.Saved.{FitsImage}
use Rattle.ficus_durable_state.specs.declared.saved.Saved.{Saved}
use Rattle.ficus_durable_state.proofs.ReclaimedTables.{entry_was, reclaimed_tables_fit}
use Rattle.ficus_deciding.proofs.Orphanages.{orphan_ids}
use Rattle.ficus_replica.specs.declared.collect.Collected.{Collected}
use Rattle.ficus_replica.specs.Makes.{IsNoted}
use Rattle.ficus_record.specs.declared.record.Record.TheVariants as noted
use Rattle.ficus_replica.specs.declared.replica.Replica.{Replica}
use Rattle.ficus_replica.specs.Collect.{CollectGives, HoldsNoGarbage}
use Rattle.ficus_replica.proofs.Counting.{held_in_ids, ids_held}
use Rattle.ficus_replica.proofs.Tables.{image_then, tables_of}

abbrev pub id_of_orphan : Orphan → Id
id_of_orphan orphan = orphan.id

-- In each of these a collection leaves this of a replica's tables, where their orphans stay.
module _ (saved : Saved) {orphans : List Orphan} {reclaimed : Reclaimed}
    (are : AreOrphans saved.entries saved.files orphans)
    (left : IsReclaimed saved.members saved.entries saved.files orphans reclaimed) where
  orphan_of_id : {object : Id} → HoldsBy id_of_orphan orphans object → IsOrphanIn saved.entries saved.files object
  orphan_of_id {object} held = (orphan_ids saved orphans are object).0 (held_in_ids id_of_orphan orphans object held)

  -- a live entry stays
  live_left : (entry : Entry) → Contains saved.entries entry → entry.state ≡ Live → Contains reclaimed.entries entry
  live_left entry inside live = (left.undropped entry).1
      (inside, λ full. subst (IsFullyKnown saved.members) live full)

  -- so no orphan has lost what keeps it
  kept_still : (file : FileReplica) → IsKept saved.entries file → IsKept reclaimed.entries file
  kept_still file (inl filled) =
      let has = filled.1 in
      inl (
        filled.0,
        record {
          entry = has.entry;
          inside = live_left has.entry has.inside has.live;
          live = has.live;
          in_dir = has.in_dir;
        },
      )
  kept_still file (inr uncovered) = inr uncovered

  orphan_still : {object : Id} → HoldsBy id_of_orphan orphans object →
      IsOrphanIn reclaimed.entries reclaimed.files object
  orphan_still {object} held =
      let orphan = orphan_of_id held in
      record {
        nameless = λ named. orphan.nameless (record {
          entry = named.entry;
          inside = entry_was left named.entry named.inside;
          live = named.live;
          leads = named.leads;
        });
        file = orphan.file;
        inside = (left.left orphan.file).1
            (orphan.inside, inr (subst (HoldsBy id_of_orphan orphans) (sym orphan.has_id) held));
        has_id = orphan.has_id;
        kept = kept_still orphan.file orphan.kept;
      }

  needed_still : (file : FileReplica) →
      Contains (touched_by reclaimed.entries) file.id ⊎ HoldsBy id_of_orphan orphans file.id →
      Contains (touched_by reclaimed.entries) file.id ⊎ IsOrphanIn reclaimed.entries reclaimed.files file.id
  needed_still file (inl touched) = inl touched
  needed_still file (inr held) = inr (orphan_still held)

  -- nothing is left that is to be given up
  pub no_garbage_left : HoldsNoGarbage saved.members reclaimed.entries reclaimed.files
  no_garbage_left = record {
    unknown = λ entry inside. ((left.undropped entry).0 inside).1;
    needed = λ file inside. needed_still file ((left.left file).0 inside).1;
  }

-- what is saved then fits an image
pub collect_fits : (old : Replica) (collected : Collected) → FitsImage old.saved →
    old.saved.generation < 2 ^ 63 - 1 → CollectGives old collected → FitsImage collected.replica.saved
collect_fits old collected fits generation gives =
    subst (λ (given : Collected). FitsImage given.replica.saved) (sym gives.is)
    (image_then fits fits.next_at_least fits.next_at_most fits.used (omega arith)
    (reclaimed_tables_fit old.saved.members old.saved.me old.saved.next old.saved.entries old.saved.files gives.orphans
    gives.reclaimed (tables_of fits) gives.left))

-- and holds nothing more to be given up
pub collect_leaves : (old : Replica) (collected : Collected) → CollectGives old collected →
    HoldsNoGarbage collected.replica.saved.members collected.replica.saved.entries collected.replica.saved.files
collect_leaves old collected gives =
    subst (λ (given : Collected). HoldsNoGarbage given.replica.saved.members given.replica.saved.entries
    given.replica.saved.files) (sym gives.is) (no_garbage_left old.saved gives.are gives.left)

-- over one replica a collection has one outcome
module _ (saved : Saved) {orphans others : List Orphan} {one other : Reclaimed}
    (are : AreOrphans saved.entries saved.files orphans) (are_too : AreOrphans saved.entries saved.files others)
    (left : IsReclaimed saved.members saved.entries saved.files orphans one)
    (left_too : IsReclaimed saved.members saved.entries saved.files others other) where
  same_entries : one.entries ≡ other.entries
  same_entries = same_items (λ (entry : Entry). entry.id) one.entries other.entries left.rising left_too.rising
      (λ entry. (
        λ inside. (left_too.undropped entry).1 ((left.undropped entry).0 inside),
        λ inside. (left.undropped entry).1 ((left_too.undropped entry).0 inside),
      ))

  -- a file that the one keeps the other keeps too
  kept_by_both : (file : FileReplica) →
      Contains (touched_by one.entries) file.id ⊎ HoldsBy id_of_orphan orphans file.id →
      Contains (touched_by other.entries) file.id ⊎ HoldsBy id_of_orphan others file.id
  kept_by_both file (inl touched) =
      inl (subst (λ entries. Contains (touched_by entries) file.id) same_entries touched)
  kept_by_both file (inr held) =
      let ids = (orphan_ids saved orphans are file.id).0 (held_in_ids id_of_orphan orphans file.id held) in
      inr (ids_held id_of_orphan others file.id ((orphan_ids saved others are_too file.id).1 ids))

  file_by_both : (file : FileReplica) → Contains one.files file → Contains other.files file
  file_by_both file inside =
      let why = (left.left file).0 inside in
      (left_too.left file).1 (why.0, kept_by_both file why.1)

module _ (saved : Saved) {orphans others : List Orphan} {one other : Reclaimed}
    (are : AreOrphans saved.entries saved.files orphans) (are_too : AreOrphans saved.entries saved.files others)
    (left : IsReclaimed saved.members saved.entries saved.files orphans one)
    (left_too : IsReclaimed saved.members saved.entries saved.files others other) where
  same_files : one.files ≡ other.files
  same_files = same_items id_of one.files other.files left.held.rising left_too.held.rising (λ file. (
    file_by_both saved are are_too left left_too file,
    file_by_both saved are_too are left_too left file,
  ))

  pub reclaimed_once : one ≡ other
  reclaimed_once =
      let entries = same_entries saved are are_too left left_too in
      let dropped : one.dropped_entries ≡ other.dropped_entries =
      omega (arith, left.entries_counted, left_too.entries_counted, ap length entries) in
      let dropped_files : one.dropped_files ≡ other.dropped_files =
      omega (arith, left.files_counted, left_too.files_counted, ap length same_files) in
      λ i. record {
        entries = entries i;
        files = same_files i;
        dropped_entries = dropped i;
        dropped_files = dropped_files i;
      }

pub collected_once : {old : Replica} {one other : Collected} → CollectGives old one → CollectGives old other →
    one ≡ other
collected_once {old} gives gives_too =
    let same : gives.reclaimed ≡ gives_too.reclaimed =
    reclaimed_once old.saved gives.are gives_too.are gives.left gives_too.left in
    cc

-- the record of a collection makes what it leaves
pub collect_noted : (old : Replica) (collected : Collected) → FitsImage old.saved →
    old.saved.generation < 2 ^ 63 - 1 → CollectGives old collected → IsNoted old.saved noted.Collect collected.replica.saved
collect_noted old collected fits generation gives = record {
  spelled = tt;
  fit = record { generation = generation; fits = tt };
  makes = record {
    orphans = gives.orphans;
    are = gives.are;
    reclaimed = gives.reclaimed;
    left = gives.left;
    saved = ap (λ (given : Collected). given.replica.saved) gives.is;
  };
  fits = collect_fits old collected fits generation gives;
}
