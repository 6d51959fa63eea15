-- What the tables of two replicas make together fits where both fit.
use Rattle.std.specs.Prelude.{◌≡◌, ℕ, List, Option, Some, None, IfSome, All, Contains}
use Rattle.std.proofs.Common.{refl, sym, subst, inl, inr}
use Rattle.std.proofs.lemmas.List.Elements.{All-contains_itself, All-weaker}
use Rattle.ficus_ids.specs.RisingLaws.{held_or_not}
use Rattle.ficus_ids.specs.declared.id.Id.{Id}
use Rattle.ficus_entry.specs.declared.entry.Entry.{Entry}
use Rattle.ficus_file.specs.declared.file.FileReplica.{FileReplica}
use Rattle.ficus_file.specs.Files.{Holds}
use Rattle.ficus_merge_entries.specs.Merge.{MergesEntries}
use Rattle.ficus_merge_entries.specs.Table.{KeepsPlace}
use Rattle.ficus_merge_files.specs.Merge.{AreMergedFiles}
use Rattle.ficus_durable_state.specs.Laws.{FitsReplica, MergedTablesFit}
use Rattle.ficus_durable_state.specs.Tables.{IsPlaceIn, HasObjectsIn}
use Rattle.ficus_mentions.specs.Touched.{touched_by}
use Rattle.ficus_durable_state.proofs.FileFits.{FitsAsFile}
use Rattle.ficus_durable_state.proofs.Held.{all_under}
use Rattle.ficus_durable_state.proofs.MergeFits.{merged_tables}
use Rattle.ficus_durable_state.proofs.MergedFiles.{stays_held, taken_held, merged_files_fit}
use Rattle.ficus_durable_state.proofs.Touched.{target_touched, dir_touched}

-- the files of a replica's tables
pub files_of : (members me next : ℕ) (entries : List Entry) (files : List FileReplica) →
    FitsReplica members me next entries files → All (FitsAsFile members me next) files
files_of members me next entries files fits k d within =
    record { tables = fits.tables.each_file k d within; past = fits.past.each_file k d within }

-- a place stays one where its directory is still held
pub place_in : (files more : List FileReplica) (dir : Id) → (Holds files dir → Holds more dir) → IsPlaceIn files dir →
    IsPlaceIn more dir
place_in files more dir keeps (inl held) = inl (keeps held)
place_in files more dir keeps (inr outside) = inr outside

-- and an entry has its objects still
pub objects_in : (files more : List FileReplica) (entry : Entry) →
    (Holds files entry.target → Holds more entry.target) → (Holds files entry.dir → Holds more entry.dir) →
    HasObjectsIn files entry → HasObjectsIn more entry
objects_in files more entry of_target of_dir has =
    record { target = of_target has.target; dir = place_in files more entry.dir of_dir has.dir }

-- so has an entry in the place of another
same_objects : (files : List FileReplica) (kept after : Entry) → HasObjectsIn files kept →
    after ≡ record kept { state = after.state } → HasObjectsIn files after
same_objects files kept after has is =
    let P : Entry → Type 0 = HasObjectsIn files in
    subst P (sym is) (record { target = has.target; dir = has.dir })

module _ (r members : ℕ) (mine theirs merged : List Entry) (files others both : List FileReplica)
    (merges : MergesEntries r members mine theirs merged)
    (are_merged : AreMergedFiles (touched_by merged) files others both) where
  of_mine : (entry : Entry) → HasObjectsIn files entry → HasObjectsIn both entry
  of_mine entry has = objects_in files both entry
      (stays_held (touched_by merged) files others both are_merged entry.target)
      (stays_held (touched_by merged) files others both are_merged entry.dir) has

  of_theirs : (entry : Entry) → Contains merged entry → HasObjectsIn others entry → HasObjectsIn both entry
  of_theirs entry inside has = objects_in others both entry
      (taken_held (touched_by merged) files others both are_merged entry.target (target_touched merged entry inside))
      (taken_held (touched_by merged) files others both are_merged entry.dir (dir_touched merged entry inside)) has

  by_place : (at_mine at_theirs : Option Entry) (entry : Entry) → Contains merged entry →
      IfSome at_mine (HasObjectsIn files) → IfSome at_theirs (HasObjectsIn others) →
      KeepsPlace at_mine at_theirs (Some entry) → HasObjectsIn both entry
  by_place (Some own) at_theirs entry inside has_mine has_theirs place = of_mine entry (same_objects files own entry has_mine place)
  by_place None (Some his) entry inside has_mine has_theirs place = of_theirs entry inside (same_objects others his entry has_theirs place)
  by_place None None entry inside has_mine has_theirs place = absurd place

  -- each merged entry has its objects in the merged files
  pub merged_objects : All (HasObjectsIn files) mine → All (HasObjectsIn others) theirs →
      All (HasObjectsIn both) merged
  merged_objects all_mine all_theirs = All-weaker (Contains merged) (HasObjectsIn both) (λ entry inside.
      let at_mine = held_or_not (λ (e : Entry). e.id) mine entry.id in
      let at_theirs = held_or_not (λ (e : Entry). e.id) theirs entry.id in
      by_place at_mine.0 at_theirs.0 entry inside
      (all_under (HasObjectsIn files) (λ (e : Entry). e.id) mine entry.id at_mine.0 all_mine at_mine.1)
      (all_under (HasObjectsIn others) (λ (e : Entry). e.id) theirs entry.id at_theirs.0 all_theirs at_theirs.1)
      (merges.each entry.id at_mine.0 at_theirs.0 (Some entry) at_mine.1 at_theirs.1 (inside, refl)).place) merged (All-contains_itself merged)

pub merged_tables_fit : MergedTablesFit
merged_tables_fit members me next mine theirs merged files others both member fits fits_others rising merges are are_merged =
    let entries = merged_tables me members member next mine theirs merged fits.tables.each fits.past.each
    fits_others.tables.each fits_others.past.each merges in
    let held = merged_files_fit (touched_by merged) files others both are_merged members me next are
    (files_of members me next mine files fits) (files_of members me next theirs others fits_others) in
    record {
      tables = record {
        rising = rising;
        each = entries.0;
        rising_files = are.rising;
        each_file = λ k d within. (held k d within).tables;
        objects = merged_objects me members mine theirs merged files others both merges are_merged fits.tables.objects fits_others.tables.objects;
      };
      past = record { each = entries.1; each_file = λ k d within. (held k d within).past };
    }
