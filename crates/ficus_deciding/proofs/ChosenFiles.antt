-- Files that a look chooses, one after the other, and what the chosen ones are.
use Rattle.std.proofs.Common.{◌≡◌, ◌↔◌, ℕ, ◌+◌, ◌≤◌, List, [], ◌∷◌, ◌++◌, length, take, slice_get, Some, refl, sym, subst, ◌∙◌, inl, inr}
use Rattle.std.specs.Prelude.{Contains}
use Rattle.std.proofs.lemmas.List.{take_all}
use Rattle.ficus_ids.specs.RisingLaws.{one_item}
use Rattle.ficus_ids.specs.declared.id.Id.{Id}
use Rattle.ficus_file.specs.Files.{id_of, IsRising}
use Rattle.ficus_file.specs.declared.file.FileReplica.{FileReplica}
use Rattle.ficus_durable_state.specs.Saved.{FitsImage}
use Rattle.ficus_durable_state.specs.declared.saved.Saved.{Saved}
use Rattle.ficus_orphan.specs.Made.{IsMadeOf}
use Rattle.ficus_entry.specs.Inside.{IsNamedBy}
use Rattle.ficus_orphan.specs.Orphan.{IsKept}
use Rattle.ficus_orphan.proofs.Made.{made_none, made_push, made_stay, rising_none, rising_push}
use Rattle.ficus_rules.specs.Detached.{AreDetachedIn, IsDetachedIn}
use Rattle.ficus_rules.specs.View.{IsInReachIn}
use Rattle.ficus_deciding.specs.Chosen.{AreIdsOf, IsApart, IsClashing, IsIdOf, IsShownBy}
use Rattle.ficus_deciding.specs.View.{IsVisibleBy, tables_view}
use Rattle.ficus_deciding.proofs.Tables.{tables_named, visible_held}

module _ (is : FileReplica → Type 0) (files : List FileReplica) where
  pub ids_none : AreIdsOf is (take 0 files) []
  ids_none = record { all = made_none (IsIdOf is) files; rising = rising_none (λ (id : Id). id) }

  pub ids_all : (index : ℕ) (ids : List Id) → length files ≤ index → AreIdsOf is (take index files) ids →
      AreIdsOf is files ids
  ids_all index ids past are = subst (λ whole. AreIdsOf is whole ids) (take_all index files past) are

  module _ (rising : IsRising files) (index : ℕ) (file : FileReplica) (at : slice_get files index ≡ Some file)
      (ids : List Id) (are : AreIdsOf is (take index files) ids) where
    pub ids_stay : (is file → ⊥) → AreIdsOf is (take (index + 1) files) ids
    ids_stay not = record {
      all = made_stay (IsIdOf is) files index file at ids are.all (λ id so. not so.0);
      rising = are.rising;
    }

    pub ids_push : is file → AreIdsOf is (take (index + 1) files) (ids ++ file.id ∷ [])
    ids_push so = record {
      all = made_push (IsIdOf is) files index file at ids are.all file.id (so, refl) (λ id also. sym also.1);
      rising = rising_push (IsIdOf is) files index file at ids are.all id_of (λ (id : Id). id) rising
          (λ one id makes. sym makes.1) file.id (so, refl) are.rising;
    }

module _ {saved : Saved} (fits : FitsImage saved) (names : List Id)
    (named : (object : Id) → Contains names object ↔ IsNamedBy saved.entries object) where
  -- a file that is shown is visible, and the other way round
  module _ (object : Id) (file : FileReplica) (inside : Contains saved.files file) (has_id : file.id ≡ object) where
    visible_of : IsShownBy saved.entries names file → IsVisibleBy saved object
    visible_of (inl name) = inl (subst (IsNamedBy saved.entries) has_id ((named file.id).0 name))
    visible_of (inr besides) = inr (record {
      nameless = λ name. besides.nameless ((named file.id).1 (subst (IsNamedBy saved.entries) (sym has_id) name));
      file = file;
      inside = inside;
      has_id = has_id;
      kept = besides.kept;
    })

    shown_of : IsVisibleBy saved object → IsShownBy saved.entries names file
    shown_of (inl name) = inl ((named file.id).1 (subst (IsNamedBy saved.entries) (sym has_id) name))
    shown_of (inr orphan) =
        let same : orphan.file ≡ file = one_item id_of saved.files orphan.file file fits.tables.rising_files
        orphan.inside inside (orphan.has_id ∙ sym has_id) in
        inr (record {
          nameless = λ name. orphan.nameless (subst (IsNamedBy saved.entries) has_id ((named file.id).0 name));
          kept = subst (IsKept saved.entries) same orphan.kept;
        })

  -- the files that are named or orphans
  pub visible_tables : (ids : List Id) → AreIdsOf (IsShownBy saved.entries names) saved.files ids → (object : Id) →
      Contains ids object ↔ IsVisibleBy saved object
  visible_tables ids are object = (
    λ inside.
        let made = (are.all.all object).0 inside in
        visible_of object made.item made.inside made.makes_it.1 made.makes_it.0,
    λ visible.
        let held = visible_held fits visible in
        (are.all.all object).1 (record {
          item = held.item;
          inside = held.inside;
          makes_it = (shown_of object held.item held.inside held.has_id visible, held.has_id);
        }),
  )

  -- those of them that are in conflict
  pub clashing_tables : (ids : List Id) → AreIdsOf (IsClashing saved.entries names) saved.files ids → (object : Id) →
      Contains ids object ↔ (tables_view saved).conflicts object
  clashing_tables ids are object = (
    λ inside.
        let made = (are.all.all object).0 inside in
        record {
          visible = visible_of object made.item made.inside made.makes_it.1 made.makes_it.0.shown;
          file = made.item;
          inside = made.inside;
          has_id = made.makes_it.1;
          so = made.makes_it.0.conflict;
        },
    λ has.
        (are.all.all object).1 (record {
          item = has.file;
          inside = has.inside;
          makes_it = (
            record { conflict = has.so; shown = shown_of object has.file has.inside has.has_id has.visible },
            has.has_id,
          );
        }),
  )

  module _ (reached : List Id)
      (reaches : (object : Id) → Contains reached object ↔ IsInReachIn (tables_view saved) object) where
    detached_out : (dir : Id) → IsMadeOf (IsIdOf (IsApart names reached)) saved.files dir →
        IsDetachedIn (tables_view saved) dir
    detached_out dir made =
        let apart = made.makes_it.0 in
        let has_id = made.makes_it.1 in
        let name = subst (IsNamedBy saved.entries) has_id ((named made.item.id).0 apart.named) in
        record {
          directory = record {
            visible = inl name;
            file = made.item;
            inside = made.inside;
            has_id = has_id;
            so = apart.directory;
          };
          named = (tables_named saved dir).0 name;
          apart = λ is. apart.apart (subst (Contains reached) (sym has_id) ((reaches dir).1 is));
        }

    detached_into : (dir : Id) → IsDetachedIn (tables_view saved) dir →
        IsMadeOf (IsIdOf (IsApart names reached)) saved.files dir
    detached_into dir detached =
        let has = detached.directory in
        record {
          item = has.file;
          inside = has.inside;
          makes_it = (
            record {
              directory = has.so;
              named = subst (Contains names) (sym has.has_id)
                  ((named dir).1 ((tables_named saved dir).1 detached.named));
              apart = λ inside. detached.apart ((reaches dir).0 (subst (Contains reached) has.has_id inside));
            },
            has.has_id,
          );
        }

    -- the directories that are named and not in reach
    pub detached_tables : (dirs : List Id) → AreIdsOf (IsApart names reached) saved.files dirs →
        AreDetachedIn (tables_view saved) dirs
    detached_tables dirs are = record {
      all = λ dir. (
        λ inside. detached_out dir ((are.all.all dir).0 inside),
        λ detached. (are.all.all dir).1 (detached_into dir detached),
      );
      rising = are.rising;
    }
