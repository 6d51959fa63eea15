-- The files of two replicas, merged: which are held, and that they fit tables.
use Rattle.std.specs.Prelude.{◌≡◌, ◌↔◌, ℕ, List, Option, Some, None, IfSome, All, Contains}
use Rattle.std.proofs.Common.{refl, sym, subst, inl, inr}
use Rattle.std.proofs.lemmas.List.Elements.{All-contains_itself, All-weaker}
use Rattle.std.proofs.lemmas.Option.{same_Some}
use Rattle.ficus_ids.specs.IdLaws.{same_id_or_not}
use Rattle.ficus_ids.specs.ListLaws.{contained_or_not}
use Rattle.ficus_ids.specs.RisingLaws.{held_or_not}
use Rattle.ficus_ids.specs.declared.id.Id.{Id}
use Rattle.ficus_file.specs.File.{IsWellFormed}
use Rattle.ficus_file.specs.Files.{id_of, AreFiles, Holds, HoldsUnder}
use Rattle.ficus_file.specs.declared.file.FileReplica.{FileReplica}
use Rattle.ficus_merge_files.specs.Merge.{IsTaken, Merges, AreMergedFiles}
use Rattle.ficus_durable_state.proofs.FileFits.{FitsAsFile, merged_file_fits}
use Rattle.ficus_durable_state.proofs.Held.{all_under}

-- what is taken is theirs
taken_is : (held : List Id) (theirs file : FileReplica) → IsTaken held theirs (Some file) → file ≡ theirs
taken_is held theirs file taken = elim (contained_or_not same_id_or_not held theirs.id) [
  | inl inside ↦ same_Some file theirs (taken.named inside)
  | inr outside ↦ absurd (let clash : Some file ≡ None = taken.unnamed outside in cc)
]

held_by : (files : List FileReplica) (id : Id) (found : Option FileReplica) (file : FileReplica) →
    HoldsUnder files id found → found ≡ Some file → Holds files id
held_by files id found file held is =
    let here : HoldsUnder files id (Some file) = subst (HoldsUnder files id) is held in
    record { item = file; inside = here.0; has_id = here.1 }

-- of the identifiers only matters which they are, not how they are listed
pub merged_by_same : (held other : List Id) (mine theirs both : List FileReplica) →
    ((id : Id) → Contains held id ↔ Contains other id) → AreMergedFiles held mine theirs both →
    AreMergedFiles other mine theirs both
merged_by_same held other mine theirs both same merged = record {
  each = λ id at_mine at_theirs at_both has_mine has_theirs has_both.
      by_same at_mine at_theirs at_both (merged.each id at_mine at_theirs at_both has_mine has_theirs has_both);
}
  where
    by_same : (at_mine at_theirs at_both : Option FileReplica) → Merges held at_mine at_theirs at_both →
        Merges other at_mine at_theirs at_both
    by_same (Some own) (Some his) (Some file) row = row
    by_same (Some own) (Some his) None row = row
    by_same (Some own) None at_both row = row
    by_same None (Some his) at_both row = record {
      named = λ inside. row.named ((same his.id).1 inside);
      unnamed = λ outside. row.unnamed (λ inside. outside ((same his.id).0 inside));
    }
    by_same None None at_both row = row

module _ (held : List Id) (mine theirs both : List FileReplica) (merged : AreMergedFiles held mine theirs both) where
  -- what I hold stays
  pub stays_held : (id : Id) → Holds mine id → Holds both id
  stays_held id own =
      let at_theirs = held_or_not id_of theirs id in
      let found = held_or_not id_of both id in
      by_rows at_theirs.0 found.0 found.1 (merged.each id (Some own.item) at_theirs.0 found.0 (own.inside, own.has_id) at_theirs.1 found.1)
    where
      by_rows : (at_theirs at_both : Option FileReplica) → HoldsUnder both id at_both →
          Merges held (Some own.item) at_theirs at_both → Holds both id
      by_rows (Some other) (Some file) has row = held_by both id (Some file) file has refl
      by_rows (Some other) None has row = absurd row
      by_rows None at_both has row = held_by both id at_both own.item has row

  -- and what they hold is there where it is taken
  pub taken_held : (id : Id) → Contains held id → Holds theirs id → Holds both id
  taken_held id named his =
      let at_mine = held_or_not id_of mine id in
      let found = held_or_not id_of both id in
      by_rows at_mine.0 found.0 at_mine.1 found.1 (merged.each id at_mine.0 (Some his.item) found.0 at_mine.1 (his.inside, his.has_id) found.1)
    where
      by_rows : (at_mine at_both : Option FileReplica) → HoldsUnder mine id at_mine → HoldsUnder both id at_both →
          Merges held at_mine (Some his.item) at_both → Holds both id
      by_rows (Some own) at_both has_mine has row = stays_held id (held_by mine id (Some own) own has_mine refl)
      by_rows None at_both has_mine has row =
          held_by both id at_both his.item has (row.named (subst (Contains held) (sym his.has_id) named))

  module _ (members me next : ℕ) (are : AreFiles both) where
    by_row : (at_mine at_theirs : Option FileReplica) (file : FileReplica) → IsWellFormed file →
        IfSome at_mine (FitsAsFile members me next) → IfSome at_theirs (FitsAsFile members me next) →
        Merges held at_mine at_theirs (Some file) → FitsAsFile members me next file
    by_row (Some own) (Some his) file well fits others row = merged_file_fits members me next own his file fits others well row
    by_row (Some own) None file well fits others row = subst (FitsAsFile members me next) (sym (same_Some file own row)) fits
    by_row None (Some his) file well fits others row = subst (FitsAsFile members me next) (sym (taken_is held his file row)) others
    by_row None None file well fits others row = cc

    -- where the files of both fit, what they make together fits
    pub merged_files_fit : All (FitsAsFile members me next) mine → All (FitsAsFile members me next) theirs →
        All (FitsAsFile members me next) both
    merged_files_fit fits others = All-weaker (Contains both) (FitsAsFile members me next) (λ file inside.
        let at_mine = held_or_not id_of mine file.id in
        let at_theirs = held_or_not id_of theirs file.id in
        by_row at_mine.0 at_theirs.0 file (are.each file inside).well_formed
        (all_under (FitsAsFile members me next) id_of mine file.id at_mine.0 fits at_mine.1)
        (all_under (FitsAsFile members me next) id_of theirs file.id at_theirs.0 others at_theirs.1)
        (merged.each file.id at_mine.0 at_theirs.0 (Some file) at_mine.1 at_theirs.1 (inside, refl))) both (All-contains_itself both)
