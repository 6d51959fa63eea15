-- Which files of a peer are taken: those of its own alone that an entry names or lies in.
use Rattle.std.proofs.Common.{◌≡◌, ◌↔◌, List, [], get_or, Option, Some, None, refl, subst, inl, inr}
use Rattle.std.specs.Prelude.{All, Contains}
use Rattle.std.proofs.lemmas.List.Elements.{All-contains, Contains-get_or}
use Rattle.ficus_ids.specs.ListLaws.{here, not_inside_none}
use Rattle.ficus_ids.specs.declared.id.Id.{Id}
use Rattle.ficus_entry.specs.declared.entry.Entry.{Entry}
use Rattle.ficus_file.specs.Files.{Holds, HoldsUnder}
use Rattle.ficus_file.specs.declared.file.FileReplica.{FileReplica}
use Rattle.ficus_merge_files.specs.Merge.{Merges, AreMergedFiles}
use Rattle.ficus_merge_files.specs.News.{AreNew}
use Rattle.ficus_mentions.specs.Touched.{touched_by}
use Rattle.ficus_merge_files.specs.Alone.{IsAlone, IsTakenFrom}

module _ (entries : List Entry) (mine theirs : List FileReplica) (taken : List Id)
    (are : (id : Id) → Contains taken id ↔ IsTakenFrom entries mine theirs id) where
  row : (id : Id) (at_mine at_theirs at_both : Option FileReplica) → HoldsUnder mine id at_mine →
      HoldsUnder theirs id at_theirs → Merges taken at_mine at_theirs at_both →
      Merges (touched_by entries) at_mine at_theirs at_both
  row id (Some file) (Some other) (Some both) here there is = is
  row id (Some file) (Some other) None here there is = is
  row id (Some file) None both here there is = is
  row id None None both here there is = is
  row id None (Some other) both none there is = record {
    named = λ touched. is.named ((are other.id).1 (record {
      alone = record {
        held = record { item = other; inside = there.0; has_id = refl };
        not_held = λ held. none (subst (Holds mine) there.1 held);
      };
      touched = touched;
    }));
    unnamed = λ untouched. is.unnamed (λ inside. untouched ((are other.id).0 inside).touched);
  }

  -- these alone are asked for in the merge, so it is that by all that the entries name or lie in
  pub merged_by_touched : {both : List FileReplica} → AreMergedFiles taken mine theirs both →
      AreMergedFiles (touched_by entries) mine theirs both
  merged_by_touched merges = record {
    each = λ id at_mine at_theirs at_both here there then.
        row id at_mine at_theirs at_both here there (merges.each id at_mine at_theirs at_both here there then);
  }

-- a file of theirs is one of theirs alone exactly where mine hold none with its identifier
pub alone_is : (mine theirs new : List FileReplica) (kept : List Id) → AreNew mine theirs new →
    ((id : Id) → Contains kept id ↔ (Holds new id × (Holds mine id → ⊥))) → (id : Id) →
    Contains kept id ↔ IsAlone mine theirs id
alone_is mine theirs new kept news are id = (
  λ inside. let is = (are id).0 inside in record {
    held = record {
      item = is.0.item;
      inside = news.of_theirs is.0.item is.0.inside;
      has_id = is.0.has_id;
    };
    not_held = is.1;
  },
  λ is. elim (news.all is.held.item is.held.inside) [
    | inl is_new ↦ (are id).1 (record { item = is.held.item; inside = is_new; has_id = is.held.has_id }, is.not_held)
    | inr is_mine ↦ absurd (is.not_held (record { item = is.held.item; inside = is_mine; has_id = is.held.has_id }))
  ],
)

-- what is so of mine and of what is new is so of all of theirs
pub all_of_theirs : (P : FileReplica → Type 0) (mine theirs new : List FileReplica) → AreNew mine theirs new →
    All P mine → All P new → All P theirs
all_of_theirs P mine theirs new news of_mine of_new k d within =
    let file : FileReplica = get_or theirs k d in
    elim (news.all file (Contains-get_or theirs k d within)) [
      | inl is_new ↦ All-contains P new file of_new is_new
      | inr is_mine ↦ All-contains P mine file of_mine is_mine
    ]

-- those of theirs alone that the entries touch are those taken
pub taken_is : (entries : List Entry) (mine theirs : List FileReplica) (alone kept : List Id) →
    ((id : Id) → Contains alone id ↔ IsAlone mine theirs id) →
    ((id : Id) → Contains kept id ↔ (Contains alone id × Contains (touched_by entries) id)) → (id : Id) →
    Contains kept id ↔ IsTakenFrom entries mine theirs id
taken_is entries mine theirs alone kept are is id = (
  λ inside. let both = (is id).0 inside in record { alone = (are id).0 both.0; touched = both.1 },
  λ one. (is id).1 ((are id).1 one.alone, one.touched),
)

-- and where none is theirs alone, none is taken
pub none_taken : (entries : List Entry) (mine theirs : List FileReplica) (alone : List Id) → alone ≡ [] →
    ((id : Id) → Contains alone id ↔ IsAlone mine theirs id) → (id : Id) →
    Contains alone id ↔ IsTakenFrom entries mine theirs id
none_taken entries mine theirs alone none are id = (
  λ inside. absurd (not_inside_none id (subst (λ l. Contains l id) none inside)),
  λ one. (are id).1 one.alone,
)
