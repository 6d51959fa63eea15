-- What fits tables fits with one more entry, with one more object, and with a file written or covered, for the next
-- update.
use Rattle.std.specs.Prelude.{◌≡◌, ◌⊎◌, ℕ, ◌+◌, ◌<◌, ◌≤◌, List, length, get_or, All, Contains}
use Rattle.std.proofs.Common.{refl, sym, subst, ap, ◌∙◌, inl, inr, arith}
use Rattle.std.proofs.lemmas.Bool.{cases_eq}
use Rattle.std.proofs.lemmas.List.{get_or-set_same, get_or-set_other, length-set}
use Rattle.std.proofs.lemmas.List.Elements.{All-contains, All-set, All-weaker}
use Rattle.std.proofs.lemmas.Option.{get_or_from_slice_get, slice_get_within}
use Rattle.ficus_ids.specs.Members.{IsMember}
use Rattle.ficus_ids.specs.declared.id.Id.{Id}
use Rattle.ficus_ids.specs.declared.id.TheConstants.{ROOT, ATTIC}
use Rattle.ficus_ids.specs.Rising.{Adds}
use Rattle.ficus_entry.specs.Entry.{IsRising, AddsEntry}
use Rattle.ficus_entry.specs.declared.entry.Entry.{Entry}
use Rattle.ficus_entry.specs.declared.entry.State.TheVariants.{Live}
use Rattle.ficus_file.specs.File.{made_file, advanced, covered_file}
use Rattle.ficus_file.specs.Files.{id_of, IsRising as AreRisingFiles, AreFiles, Holds, IsChanged}
use Rattle.ficus_file.specs.declared.file.FileReplica.{FileReplica}
use Rattle.ficus_file.proofs.Changed.{contains_at}
use Rattle.ficus_durable_state.specs.Limits.{update_limit}
use Rattle.ficus_durable_state.specs.Laws.{FitsReplica, MadeTablesFit, EnteredTablesFit, WrittenTablesFit, CoveredTablesFit}
use Rattle.ficus_durable_state.specs.Saved.{IsOfPast, IsEntryOfPast}
use Rattle.ficus_durable_state.specs.Tables.{IsIssuable, MayHoldEntries, FitsEntry, IsPlaceIn, HasObjectsIn}
use Rattle.ficus_durable_state.proofs.Held.{all_added}
use Rattle.ficus_durable_state.proofs.FileFits.{FitsAsFile, past_later, made_file_fits, advanced_file_fits, covered_file_fits, file_fits_later}
use Rattle.ficus_durable_state.proofs.MergedTables.{files_of, objects_in, place_in}

-- what is held stays
pub held_added : (files more : List FileReplica) (file : FileReplica) → Adds files more file → (id : Id) →
    Holds files id → Holds more id
held_added files more file adds id held =
    record { item = held.item; inside = (adds held.item).1 (inl held.inside); has_id = held.has_id }

pub added_held : (files more : List FileReplica) (file : FileReplica) → Adds files more file → Holds more file.id
added_held files more file adds = record { item = file; inside = (adds file).1 (inr refl); has_id = refl }

module _ (old new : List FileReplica) (id : Id) (into : FileReplica → FileReplica)
    (keeps : (file : FileReplica) → (into file).id ≡ file.id) (changed : IsChanged old new id into) where
  within_old : changed.index < length old
  within_old = slice_get_within old changed.index changed.file changed.at

  -- the file that it has become is there
  pub changed_inside : Contains new (into changed.file)
  changed_inside = subst (λ l. Contains l (into changed.file)) (sym changed.is) (
    changed.index,
    rw (length-set old changed.index (into changed.file)) within_old,
    get_or-set_same old changed.index (into changed.file) (into changed.file) within_old,
  )

  changed_at : (k : ℕ) (item : FileReplica) → k < length old → get_or old k item ≡ item → Holds new item.id
  changed_at k item within is = elim (cases_eq k changed.index) [
    | inl here ↦
        let file_is : item ≡ changed.file =
        sym is ∙ ap (λ n. get_or old n item) here ∙
        get_or_from_slice_get old changed.index changed.file item changed.at in
        record {
          item = into changed.file;
          inside = changed_inside;
          has_id = keeps changed.file ∙ ap id_of (sym file_is);
        }
    | inr other ↦ record {
      item = item;
      inside = subst (λ l. Contains l item) (sym changed.is) (
        k,
        rw (length-set old changed.index (into changed.file)) within,
        get_or-set_other old changed.index k (into changed.file) item other ∙ is,
      );
      has_id = refl;
    }
  ]

  -- what is held stays held where one file has changed
  pub held_changed : (object : Id) → Holds old object → Holds new object
  held_changed object held =
      subst (Holds new) held.has_id (changed_at held.inside.0 held.item held.inside.1 held.inside.2)

module _ (members me next : ℕ) (member : IsMember members me) (some : 1 ≤ next) (room : next ≤ update_limit) where
  entry_later : (entry : Entry) → IsEntryOfPast me next entry → IsEntryOfPast me (next + 1) entry
  entry_later entry past = record {
    id = past_later me next entry.id past.id;
    dir = past_later me next entry.dir past.dir;
    target = past_later me next entry.target past.target;
  }

  -- an entry may lie where those that fit have a place
  record MayLieIn (dir : Id) : Type 0 where
    tables : MayHoldEntries members dir
    past : IsOfPast me next dir

  place_fits : (files : List FileReplica) (dir : Id) → All (FitsAsFile members me next) files →
      IsPlaceIn files dir → MayLieIn dir
  place_fits files dir fits (inl held) =
      let file = All-contains (FitsAsFile members me next) files held.item fits held.inside in
      subst MayLieIn held.has_id (record { tables = inl file.tables.id; past = file.past.id })
  place_fits files dir fits (inr outside) = record { tables = inr outside; past = past outside }
    where
      past : (dir ≡ ROOT) ⊎ (dir ≡ ATTIC) → IsOfPast me next dir
      past (inl is) = subst (IsOfPast me next) (sym is) (λ own. omega (arith, member.at_least))
      past (inr is) = subst (IsOfPast me next) (sym is) (λ own. omega (arith, member.at_least))

  -- files that fit fit later
  files_later : (files : List FileReplica) → All (FitsAsFile members me next) files →
      All (FitsAsFile members me (next + 1)) files
  files_later = All-weaker (FitsAsFile members me next) (FitsAsFile members me (next + 1))
      (file_fits_later members me next member some room)

  -- what a file that is held has as its identifier may be led to
  record MayBeLedTo (target : Id) : Type 0 where
    tables : IsIssuable members target
    past : IsOfPast me next target

  target_fits : (files : List FileReplica) (target : Id) → All (FitsAsFile members me next) files →
      Holds files target → MayBeLedTo target
  target_fits files target fits held =
      let file = All-contains (FitsAsFile members me next) files held.item fits held.inside in
      subst MayBeLedTo held.has_id (record { tables = file.tables.id; past = file.past.id })

  -- with one more entry that fits fits what fits, where the files then fit and have what it touches
  module _ (entries after : List Entry) (files more : List FileReplica) (new : Entry)
      (fits : FitsReplica members me next entries files) (rising : IsRising after) (adds : AddsEntry entries after new)
      (rising_files : AreRisingFiles more) (more_fit : All (FitsAsFile members me (next + 1)) more)
      (stays_held : (id : Id) → Holds files id → Holds more id) where
    pub one_entry_more : FitsEntry members new → IsEntryOfPast me (next + 1) new → HasObjectsIn more new →
        FitsReplica members me (next + 1) after more
    one_entry_more fit past has = record {
      tables = record {
        rising = rising;
        each = all_added (FitsEntry members) entries after new adds fits.tables.each fit;
        rising_files = rising_files;
        each_file = λ k d within. (more_fit k d within).tables;
        objects = all_added (HasObjectsIn more) entries after new adds
            (All-weaker (HasObjectsIn files) (HasObjectsIn more) (λ entry is. objects_in files more entry
            (stays_held entry.target) (stays_held entry.dir) is) entries fits.tables.objects) has;
      };
      past = record {
        each = all_added (IsEntryOfPast me (next + 1)) entries after new adds
            (All-weaker (IsEntryOfPast me next) (IsEntryOfPast me (next + 1)) entry_later entries fits.past.each) past;
        each_file = λ k d within. (more_fit k d within).past;
      };
    }

pub made_tables_fit : MadeTablesFit
made_tables_fit members me next dir name kind text entries after files more member some room named fits_kind place
    no_attic fits rising adds are adds_file =
    let number : Id = record { replica = me; number = next } in
    let made : Entry = record { id = number; dir = dir; name = name; target = number; state = Live } in
    let held = files_of members me next entries files fits in
    let lies = place_fits members me next member some room files dir held place in
    let held_later = all_added (FitsAsFile members me (next + 1)) files more (made_file number kind me text) adds_file
    (files_later members me next member some room files held) (made_file_fits members me next member some room kind text fits_kind) in
    let stays_held = held_added files more (made_file number kind me text) adds_file in
    one_entry_more members me next member some room entries after files more made fits rising adds are.rising held_later
    stays_held
    (record {
      id = record { replica = member; at_least = some; at_most = room };
      dir = lies.tables;
      name = named;
      target = record { replica = member; at_least = some; at_most = room };
      state = tt;
      attic = no_attic;
    })
    (record { id = λ own. omega arith; dir = past_later me next dir lies.past; target = λ own. omega arith })
    (record {
      target = added_held files more (made_file number kind me text) adds_file;
      dir = place_in files more dir (stays_held dir) place;
    })

pub entered_tables_fit : EnteredTablesFit
entered_tables_fit members me next dir name target state entries after files member some room named place state_fits
    attic held_target fits rising adds =
    let number : Id = record { replica = me; number = next } in
    let new : Entry = record { id = number; dir = dir; name = name; target = target; state = state } in
    let held = files_of members me next entries files fits in
    let lies = place_fits members me next member some room files dir held place in
    let led_to = target_fits members me next member some room files target held held_target in
    one_entry_more members me next member some room entries after files files new fits rising adds
    fits.tables.rising_files (files_later members me next member some room files held) (λ id is. is)
    (record {
      id = record { replica = member; at_least = some; at_most = room };
      dir = lies.tables;
      name = named;
      target = led_to.tables;
      state = state_fits;
      attic = attic;
    })
    (record {
      id = λ own. omega arith;
      dir = past_later me next dir lies.past;
      target = past_later me next target led_to.past;
    })
    (record { target = held_target; dir = place })

-- with one file changed into one that fits
module _ (members me next : ℕ) (member : IsMember members me) (some : 1 ≤ next) (room : next ≤ update_limit)
    (file : Id) (into : FileReplica → FileReplica) (keeps_id : (held : FileReplica) → (into held).id ≡ held.id)
    (entries : List Entry) (files after : List FileReplica) (fits : FitsReplica members me next entries files)
    (are : AreFiles after) (changed : IsChanged files after file into) where
  held_now : All (FitsAsFile members me next) files
  held_now = files_of members me next entries files fits

  pub changed_tables_fit : FitsAsFile members me (next + 1) (into changed.file) →
      FitsReplica members me (next + 1) entries after
  changed_tables_fit new_fits = record {
    tables = record {
      rising = fits.tables.rising;
      each = fits.tables.each;
      rising_files = are.rising;
      each_file = λ k d within. (held_later k d within).tables;
      objects = All-weaker (HasObjectsIn files) (HasObjectsIn after)
          (λ entry has. objects_in files after entry (keeps entry.target) (keeps entry.dir) has)
          entries fits.tables.objects;
    };
    past = record {
      each = All-weaker (IsEntryOfPast me next) (IsEntryOfPast me (next + 1))
          (entry_later members me next member some room) entries fits.past.each;
      each_file = λ k d within. (held_later k d within).past;
    };
  }
    where
      keeps : (id : Id) → Holds files id → Holds after id
      keeps = held_changed files after file into keeps_id changed

      held_later : All (FitsAsFile members me (next + 1)) after
      held_later = subst (All (FitsAsFile members me (next + 1))) (sym changed.is)
          (All-set (FitsAsFile members me (next + 1)) files changed.index (into changed.file) new_fits
          (files_later members me next member some room files held_now))

  -- what it was fits
  pub was_fit : FitsAsFile members me next changed.file
  was_fit = All-contains (FitsAsFile members me next) files changed.file held_now
      (contains_at files changed.index changed.file changed.at)

pub written_tables_fit : WrittenTablesFit
written_tables_fit members me next file bytes entries files after member some room short is_file fits are changed =
    let into : FileReplica → FileReplica = advanced me bytes in
    let inside : Contains after (into changed.file) = changed_inside files after file into (λ f. refl) changed in
    changed_tables_fit members me next member some room file into (λ f. refl) entries files after fits are changed
    (advanced_file_fits members me next member some room bytes changed.file short
    (are.each (into changed.file) inside).well_formed
    (was_fit members me next member some room file into (λ f. refl) entries files after fits are changed))

pub covered_tables_fit : CoveredTablesFit
covered_tables_fit members me next file entries files after member some room fits are changed =
    changed_tables_fit members me next member some room file covered_file (λ f. refl) entries files after fits are
    changed
    (covered_file_fits members me next member some room changed.file
    (was_fit members me next member some room file covered_file (λ f. refl) entries files after fits are changed))
