-- What a collection leaves of tables that fit fits.
use Rattle.std.specs.Prelude.{ℕ, List, All, Contains}
use Rattle.std.proofs.Common.{sym, subst, inl}
use Rattle.std.proofs.lemmas.List.Elements.{All-contains, All-contains_itself, All-weaker}
use Rattle.ficus_ids.specs.declared.id.Id.{Id}
use Rattle.ficus_entry.specs.declared.entry.Entry.{Entry}
use Rattle.ficus_file.specs.Files.{Holds}
use Rattle.ficus_file.specs.declared.file.FileReplica.{FileReplica}
use Rattle.ficus_file.specs.declared.orphan.Orphan.{Orphan}
use Rattle.ficus_collection.specs.Reclaim.{IsReclaimed}
use Rattle.ficus_collection.specs.declared.reclaiming.Reclaimed.{Reclaimed}
use Rattle.ficus_durable_state.specs.Laws.{ReclaimedTablesFit}
use Rattle.ficus_durable_state.specs.Saved.{IsEntryOfPast, IsFileOfPast}
use Rattle.ficus_durable_state.specs.Tables.{FitsEntry, FitsFile, HasObjectsIn}
use Rattle.ficus_mentions.specs.Touched.{touched_by}
use Rattle.ficus_durable_state.proofs.Held.{all_within}
use Rattle.ficus_durable_state.proofs.MergedTables.{objects_in}
use Rattle.ficus_durable_state.proofs.Touched.{target_touched, dir_touched}

module _ {members : ℕ} {entries : List Entry} {files : List FileReplica} {orphans : List Orphan} {reclaimed : Reclaimed}
    (is : IsReclaimed members entries files orphans reclaimed) where
  -- what is left was there
  pub entry_was : (entry : Entry) → Contains reclaimed.entries entry → Contains entries entry
  entry_was entry inside = ((is.undropped entry).0 inside).0

  pub file_was : (file : FileReplica) → Contains reclaimed.files file → Contains files file
  file_was file inside = ((is.left file).0 inside).0

  -- what an entry that is left names or lies in is held still
  still_held : (object : Id) → Contains (touched_by reclaimed.entries) object → Holds files object →
      Holds reclaimed.files object
  still_held object touched held = record {
    item = held.item;
    inside = (is.left held.item).1
        (held.inside, inl (subst (Contains (touched_by reclaimed.entries)) (sym held.has_id) touched));
    has_id = held.has_id;
  }

  objects_left : (entry : Entry) → Contains reclaimed.entries entry → HasObjectsIn files entry →
      HasObjectsIn reclaimed.files entry
  objects_left entry inside has = objects_in files reclaimed.files entry
      (still_held entry.target (target_touched reclaimed.entries entry inside))
      (still_held entry.dir (dir_touched reclaimed.entries entry inside)) has

  all_objects_left : All (HasObjectsIn files) entries → All (HasObjectsIn reclaimed.files) reclaimed.entries
  all_objects_left all = All-weaker (Contains reclaimed.entries) (HasObjectsIn reclaimed.files)
      (λ entry inside. objects_left entry inside
      (All-contains (HasObjectsIn files) entries entry all (entry_was entry inside)))
      reclaimed.entries (All-contains_itself reclaimed.entries)

pub reclaimed_tables_fit : ReclaimedTablesFit
reclaimed_tables_fit members me next entries files orphans reclaimed fits is = record {
  tables = record {
    rising = is.rising;
    each = all_within (FitsEntry members) entries reclaimed.entries (entry_was is) fits.tables.each;
    rising_files = is.held.rising;
    each_file = all_within (FitsFile members) files reclaimed.files (file_was is) fits.tables.each_file;
    objects = all_objects_left is fits.tables.objects;
  };
  past = record {
    each = all_within (IsEntryOfPast me next) entries reclaimed.entries (entry_was is) fits.past.each;
    each_file = all_within (IsFileOfPast me next) files reclaimed.files (file_was is) fits.past.each_file;
  };
}
