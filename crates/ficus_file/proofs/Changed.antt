-- One file of a list changes.
use Rattle.std.proofs.Common.{◌≡◌, ℕ, ◌<◌, List, length, map, get_or, slice_get, Result, Ok, Err, Option, Some, None, ◌∙◌, refl, sym, ap, subst, inl, inr}
use Rattle.std.specs.Prelude.{Contains, OnOk, OnErr, slice_set}
use Rattle.std.specs.Option.{option_or}
use Rattle.std.proofs.lemmas.Bool.{cases_eq}
use Rattle.std.proofs.lemmas.List.{length-set, get_or-set_same, get_or-set_other, set-set}
use Rattle.std.proofs.lemmas.List.Elements.{Contains-get_or}
use Rattle.std.proofs.lemmas.Option.{slice_get_within, get_or_from_slice_get, slice_get-get_or}
use Rattle.ficus_ids.specs.declared.id.Id.{Id}
use Rattle.ficus_ids.specs.Kind.{sort_of}
use Rattle.ficus_ids.specs.declared.kind.Sort.TheVariants.{Versioned}
use Rattle.ficus_ids.specs.Rising.{IsPlaceBy, IsFoundAtBy, HoldsUnderBy, PutsBy, ReplacesBy, LeavesOutBy}
use Rattle.ficus_ids.specs.RisingLaws.{one_item, none_at_place, item_at, held_or_not}
use Rattle.ficus_table.specs.Table.{Rows}
use Rattle.ficus_table.proofs.SameIds.{same_id}
use Rattle.ficus_file.specs.declared.file.FileReplica.{FileReplica}
use Rattle.ficus_file.specs.File.{advanced, covered_file, MayAdvance}
use Rattle.ficus_file.specs.FileLaws.{advanced_well_formed, covered_well_formed}
use Rattle.ficus_file.proofs.Joined.{covered_twice}
use Rattle.ficus_file.specs.Files.{id_of, IsRising, IsSoundFile, AreFiles, HoldsFile, IsChanged}

-- a write or a removal leaves what may be held
pub advanced_held : (by : ℕ) (bytes : List ℕ) (file : FileReplica) → sort_of file.kind ≡ Versioned →
    IsSoundFile file →
    IsSoundFile (advanced by bytes file)
advanced_held by bytes file changes held = record {
  well_formed = advanced_well_formed by bytes file changes;
  not_root = held.not_root;
  not_attic = held.not_attic;
}

pub covered_held : (file : FileReplica) → IsSoundFile file → IsSoundFile (covered_file file)
covered_held file held = record {
  well_formed = covered_well_formed file held.well_formed;
  not_root = held.not_root;
  not_attic = held.not_attic;
}

pub contains_at : (files : List FileReplica) (i : ℕ) (file : FileReplica) → slice_get files i ≡ Some file →
    Contains files file
contains_at files i file at = (i, slice_get_within files i file at, get_or_from_slice_get files i file file at)

pub not_missing : (files : List FileReplica) (id : Id) (place : ℕ) (fits : FileReplica → Type 0) →
    HoldsFile files id fits → IsPlaceBy id_of files id place → ⊥
not_missing files id place fits held is_place =
    none_at_place id_of files id place is_place
    (record { item = held.file; inside = held.inside; has_id = held.has_id })

-- a list of files with another one that may be held in place of one of them
pub changed_files : (files new : List FileReplica) (i : ℕ) (was file : FileReplica) → AreFiles files → IsRising new →
    slice_get files i ≡ Some was → new ≡ slice_set files i file → IsSoundFile file → AreFiles new
changed_files files new i was file are rising at is may = record { rising = rising; each = each }
  where
    at_place : (k : ℕ) (d : FileReplica) → k < length files → IsSoundFile (get_or (slice_set files i file) k d)
    at_place k d within = elim (cases_eq k i) [
      | inl here ↦ rw (here, get_or-set_same files i file d (slice_get_within files i was at)) may
      | inr other ↦ rw (get_or-set_other files i k file d other)
          (are.each (get_or files k d) (Contains-get_or files k d within))
    ]

    each : (one : FileReplica) → Contains new one → IsSoundFile one
    each one (k, within, here) =
        let short : k < length files = rw (is, length-set files i file) at within in
        subst IsSoundFile here (rw is (at_place k one short))

module _ (files : List FileReplica) (id : Id) (i : ℕ) (file : FileReplica) (found : IsFoundAtBy id_of files id i)
    (at : slice_get files i ≡ Some file) where
  pub found_id : file.id ≡ id
  found_id = ap id_of (sym (get_or_from_slice_get files i file file at)) ∙ found.1 file

  -- the file that a search finds is the one that is held
  pub found_fits : (fits : FileReplica → Type 0) → IsRising files → HoldsFile files id fits → fits file
  found_fits fits rising held =
      let one : held.file ≡ file = one_item id_of files held.file file rising held.inside (contains_at files i file at)
      (held.has_id ∙ sym found_id) in
      subst fits one held.fit

  pub is_changed : (new : List FileReplica) (into : FileReplica → FileReplica) →
      new ≡ slice_set files i (into file) → IsChanged files new id into
  is_changed new into is = record { index = i; file = file; at = at; has_id = found_id; is = is }

  -- after a write all may be held still
  pub advanced_there : (by : ℕ) (bytes : List ℕ) (new : List FileReplica) → AreFiles files →
      HoldsFile files id (MayAdvance by) → IsRising new → new ≡ slice_set files i (advanced by bytes file) →
      AreFiles new
  advanced_there by bytes new are held rising is =
      changed_files files new i file (advanced by bytes file) are rising at is
      (advanced_held by bytes file (found_fits (MayAdvance by) are.rising held).changes
      (are.each file (contains_at files i file at)))

-- the file that a search finds is covered
pub covered_found : (files new : List FileReplica) (id : Id) (i : ℕ) → IsFoundAtBy id_of files id i →
    ((file : FileReplica) → slice_get files i ≡ Some file → new ≡ slice_set files i (covered_file file)) →
    IsChanged files new id covered_file
covered_found files new id i found covered =
    let item = item_at files i found.0 in
    let at : slice_get files i ≡ Some item.0 = slice_get-get_or files i item.0 found.0 ∙ ap Some item.1 in
    is_changed files id i item.0 found at new covered_file (covered item.0 at)

pub covered_files : (files new : List FileReplica) (id : Id) → AreFiles files → IsRising new →
    IsChanged files new id covered_file → AreFiles new
covered_files files new id are rising covered =
    changed_files files new covered.index covered.file (covered_file covered.file) are rising covered.at covered.is
    (covered_held covered.file (are.each covered.file (contains_at files covered.index covered.file covered.at)))

-- files at one place of two lists with the same identifiers have the same
pub same_id_at : (files others : List FileReplica) (i : ℕ) (file other : FileReplica) →
    map id_of files ≡ map id_of others → slice_get files i ≡ Some file → slice_get others i ≡ Some other →
    file.id ≡ other.id
same_id_at files others i file other same at at_other =
    ap id_of (sym (get_or_from_slice_get files i file file at)) ∙
    same_id id_of id_of files others same i file other (slice_get_within files i file at) ∙
    ap id_of (get_or_from_slice_get others i other other at_other)

-- covering a file of which only the covered one is left, or which another one has replaced
module _ (old new : List FileReplica) (i : ℕ) (file : FileReplica) (at : slice_get old i ≡ Some file) where
  pub covered_already : (row : FileReplica) → slice_get old i ≡ Some (covered_file row) →
      new ≡ slice_set old i (covered_file row) → new ≡ slice_set old i (covered_file file)
  covered_already row was is =
      let one : covered_file row ≡ file = let both = sym was ∙ at in cc in
      is ∙ ap (slice_set old i) (sym (covered_twice row) ∙ ap covered_file one)

  pub covered_another : (between : List FileReplica) (other row : FileReplica) → slice_get old i ≡ Some other →
      between ≡ slice_set old i row → new ≡ slice_set between i (covered_file other) →
      new ≡ slice_set old i (covered_file file)
  covered_another between other row was first second =
      let one : other ≡ file = let both = sym was ∙ at in cc in
      second ∙ ap (λ files. slice_set files i (covered_file other)) first ∙
      set-set old i row (covered_file other) ∙ ap (λ f. slice_set old i (covered_file f)) one

-- files among which one that may be held was put, or none
pub put_files : {E : Type 0} (r : Result (Unit {0}) E) (old new : Rows FileReplica) (file : FileReplica) →
    AreFiles old.items → IsRising new.items → OnOk r (PutsBy id_of old.items new.items file) →
    OnErr r (new ≡ old) → IsSoundFile file → AreFiles new.items
put_files (Ok done) old new file are rising puts kept may = record {
  rising = rising;
  each = λ other inside. elim ((puts other).0 inside) [
    | inl was ↦ are.each other was.0
    | inr is ↦ subst IsSoundFile (sym is) may
  ];
}
put_files (Err fault) old new file are rising puts kept may = subst (λ rows. AreFiles rows.items) (sym kept) are

-- files some of which were replaced by others, or none
module _ (old files : List FileReplica) (are : AreFiles old) (are_files : AreFiles files) where
  of_either : (file : FileReplica) (other was : Option FileReplica) → HoldsUnderBy id_of files file.id other →
      HoldsUnderBy id_of old file.id was → Some file ≡ option_or other was → IsSoundFile file
  of_either file (Some other) was held_other held_was is = subst IsSoundFile (cc is) (are_files.each other held_other.0)
  of_either file None (Some was) held_other held_was is = subst IsSoundFile (cc is) (are.each was held_was.0)
  of_either file None None held_other held_was is = cc is

  pub replaced_files : {E : Type 0} (r : Result (Unit {0}) E) (new : List FileReplica) → IsRising new →
      OnOk r (ReplacesBy id_of old files new) → OnErr r (new ≡ old) → AreFiles new
  replaced_files (Ok done) new rising replaces kept = record {
    rising = rising;
    each = λ file inside.
        let other = held_or_not id_of files file.id in
        let was = held_or_not id_of old file.id in
        of_either file other.0 was.0 other.1 was.1
        (replaces.each file.id was.0 other.0 (Some file) was.1 other.1 (inside, refl));
  }
  replaced_files (Err fault) new rising replaces kept = subst AreFiles (sym kept) are

-- files of which some were left out
pub left_files : (files fewer : List FileReplica) (ids : List Id) → AreFiles files → IsRising fewer →
    LeavesOutBy id_of files ids fewer → AreFiles fewer
left_files files fewer ids are rising left = record {
  rising = rising;
  each = λ file inside. are.each file ((left file).0 inside).0;
}
