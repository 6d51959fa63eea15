-- What is new of a peer's files tells all that a merge asks of them: what both hold alike changes nothing.
use Rattle.std.proofs.Common.{◌≡◌, ℕ, ◌≤◌, List, [], ◌∷◌, length, get_or, slice_get, Contains, Option, Some, None, refl, sym, ap, subst, ◌∙◌, inl, inr, ◌⊎◌, ◌≢◌}
use Rattle.std.specs.Prelude.{All}
use Rattle.std.proofs.lemmas.Bool.{cases_order}
use Rattle.std.proofs.lemmas.List.{get_or_default}
use Rattle.std.proofs.lemmas.List.Elements.{All-contains}
use Rattle.ficus_ids.specs.Kind.{sort_of}
use Rattle.ficus_ids.specs.declared.id.Id.{Id}
use Rattle.ficus_ids.specs.declared.kind.Kind.TheVariants.{Dir}
use Rattle.ficus_ids.specs.KindLaws.{kind_sort}
use Rattle.ficus_ids.specs.ListLaws.{not_inside_none}
use Rattle.ficus_ids.specs.RisingLaws.{one_item, one_held}
use Rattle.ficus_vectors.specs.Vector.{IsOver}
use Rattle.ficus_vectors.specs.VectorLaws.{covers_itself, join_covered}
use Rattle.ficus_file.specs.declared.file.FileReplica.{FileReplica}
use Rattle.ficus_file.specs.declared.version.Version.{Version}
use Rattle.ficus_file.specs.Version.{AreCurrent}
use Rattle.ficus_file.specs.File.{IsWellFormed, most_versions}
use Rattle.ficus_file.specs.Files.{id_of, AreFiles, HoldsUnder}
use Rattle.ficus_file.proofs.Changed.{contains_at}
use Rattle.ficus_merge_files.specs.Versions.{HasOver, AreMerged}
use Rattle.ficus_merge_files.specs.Merge.{CanMerge, Fit, IsMergedFile, Merges, AreMergedFiles}
use Rattle.ficus_merge_files.specs.News.{AreNew}
use Rattle.ficus_merge_files.proofs.Current.{one_version, ordered_of, most_of}
use Rattle.ficus_merge_files.proofs.Determined.{same_versions}

-- where mine are none and all of theirs are held, these are what both make
pub all_theirs : (held : List Id) (mine theirs : List FileReplica) → length mine ≡ 0 → AreFiles theirs →
    All (λ file. Contains held file.id) theirs → AreMergedFiles held mine theirs theirs
all_theirs held [] theirs none are all = record { each = each }
  where
    both_is : (t b : Option FileReplica) → b ≡ t → ((file : FileReplica) → t ≡ Some file → Contains held file.id) →
        Merges held None t b
    both_is None b same taken = same
    both_is (Some file) b same taken = record { named = λ _. same; unnamed = λ no. absurd (no (taken file refl)) }

    is_held : (id : Id) (t : Option FileReplica) → HoldsUnder theirs id t → (file : FileReplica) → t ≡ Some file →
        Contains held file.id
    is_held id (Some item) there file same =
        subst (λ (f : FileReplica). Contains held f.id) (let is : item ≡ file = cc same in is)
        (All-contains (λ (f : FileReplica). Contains held f.id) theirs item all there.0)
    is_held id None there file same = absurd (cc same)

    each : (id : Id) (m t b : Option FileReplica) → HoldsUnder [] id m → HoldsUnder theirs id t →
        HoldsUnder theirs id b → Merges held m t b
    each id None t b here there now = both_is t b (one_held id_of theirs id b t are.rising now there) (is_held id t there)
    each id (Some m) t b here there now = absurd (not_inside_none m here.0)
all_theirs held (file ∷ mine) theirs none are all = absurd (cc)

-- no version of a file is over another one of it
none_is_over : (file : FileReplica) → IsWellFormed file → (a b : Version) → Contains file.versions a →
    Contains file.versions b → IsOver a.vector b.vector → ⊥
none_is_over file well a b has_a has_b over = of_kind (kind_sort file.kind)
  where
    of_file : AreCurrent file.versions → ⊥
    of_file current =
        let i = has_a.0 in
        let j = has_b.0 in
        let at_a : get_or file.versions i a ≡ a = has_a.2 in
        let at_b : get_or file.versions j a ≡ b = get_or_default file.versions j a b has_b.1 ∙ has_b.2 in
        elim (cases_order i j) [
          | inl here ↦ over.differ
              (ap (λ (v : Version). v.vector) (sym at_a ∙ ap (λ k. get_or file.versions k a) here ∙ at_b))
          | inr (inl before) ↦ (current.apart i j a before has_b.1).not_covering
              (rw (at_a, at_b) over.covers)
          | inr (inr behind) ↦ (current.apart j i a behind has_a.1).not_covered
              (rw (at_a, at_b) over.covers)
        ]

    of_kind : (file.kind ≡ Dir) ⊎ (file.kind ≢ Dir) → ⊥
    of_kind (inl dir) = not_inside_none a (subst (λ l. Contains l a) (well.directory dir) has_a)
    of_kind (inr is_file) = of_file (well.current is_file)

-- the versions of a file and themselves make themselves
merged_itself : (file : FileReplica) → IsWellFormed file → AreMerged file.versions file.versions file.versions
merged_itself file well = record {
  items = λ version. (
    λ inside. record {
      from = inl inside;
      latest = record { not_mine = not_over version inside; not_theirs = not_over version inside };
    },
    λ kept. elim kept.from [ inl inside ↦ inside | inr inside ↦ inside ],
  );
  ordered = ordered_of file well;
}
  where
    not_over : (version : Version) → Contains file.versions version → HasOver file.versions version.vector → ⊥
    not_over version inside over = none_is_over file well over.version version over.inside inside over.over

-- a file can be merged with itself, and makes itself
pub can_merge_itself : (file : FileReplica) → IsWellFormed file → CanMerge file file
can_merge_itself file well = record {
  kind = refl;
  agree = λ version other inside inside_too same.
      ap (λ (v : Version). v.bytes)
      (one_version file.versions version other (ordered_of file well) inside inside_too same);
  few = λ both merged.
      let same : both ≡ file.versions =
      same_versions file.versions file.versions both file.versions merged (merged_itself file well) in
      subst (λ (l : List Version). length l ≤ most_versions (sort_of file.kind)) (sym same) (most_of file well);
}

pub makes_itself : (file : FileReplica) → IsWellFormed file → IsMergedFile file file file
makes_itself file well = record {
  id = refl;
  kind = refl;
  versions = merged_itself file well;
  covered = sym (join_covered file.covered file.covered (covers_itself file.covered));
}

-- a new file is one of theirs
pub of_theirs_at : (mine theirs new : List FileReplica) (index : ℕ) (file : FileReplica) → AreNew mine theirs new →
    slice_get new index ≡ Some file → Contains theirs file
of_theirs_at mine theirs new index file are at = are.of_theirs file (contains_at new index file at)

module _ (mine theirs new : List FileReplica) (are : AreNew mine theirs new) (mine_held : AreFiles mine)
    (theirs_held : AreFiles theirs) where
  -- where what is new fits, all of theirs do
  pub all_fit : Fit mine new → Fit mine theirs
  all_fit fit = record {
    each = λ file other inside inside_too same. elim (are.all other inside_too) [
      | inl is_new ↦ fit.each file other inside is_new same
      | inr is_mine ↦
          let one : file ≡ other = one_item id_of mine file other mine_held.rising inside is_mine same in
          subst (λ f. CanMerge f other) (sym one) (can_merge_itself other (mine_held.each other is_mine).well_formed)
    ];
  }

  pub new_fit : Fit mine theirs → Fit mine new
  new_fit fit = record {
    each = λ file other inside inside_too same. fit.each file other inside (are.of_theirs other inside_too) same;
  }

  -- what both hold alike isn't new under its identifier
  nothing_new : (id : Id) (file : FileReplica) → Contains mine file → Contains theirs file → file.id ≡ id →
      HoldsUnder new id None
  nothing_new id file is_mine is_theirs has_id held =
      let one : held.item ≡ file = one_item id_of theirs held.item file theirs_held.rising
      (are.of_theirs held.item held.inside) is_theirs (held.has_id ∙ sym has_id) in
      are.not_of_mine held.item held.inside (subst (Contains mine) (sym one) is_mine)

  -- what is made with what is new is made with all of theirs
  pub all_merged : (held : List Id) (both : List FileReplica) → AreMergedFiles held mine new both →
      AreMergedFiles held mine theirs both
  all_merged held both merged = record { each = each }
    where
      with_itself : (id : Id) (m b : Option FileReplica) (file : FileReplica) → Contains mine file →
          m ≡ Some file → Merges held m None b → Merges held m (Some file) b
      with_itself id (Some m) (Some b) file is_mine same is =
          let m_is : m ≡ file = cc same in
          let b_is : b ≡ file = cc (is, same) in
          rw (m_is, b_is) (makes_itself file (mine_held.each file is_mine).well_formed)
      with_itself id (Some m) None file is_mine same is = cc is
      with_itself id None b file is_mine same is = cc same

      each : (id : Id) (m t b : Option FileReplica) → HoldsUnder mine id m → HoldsUnder theirs id t →
          HoldsUnder both id b → Merges held m t b
      each id m None b has_m has_t has_b = merged.each id m None b has_m
          (λ is. has_t (record { item = is.item; inside = are.of_theirs is.item is.inside; has_id = is.has_id })) has_b
      each id m (Some file) b has_m has_t has_b = elim (are.all file has_t.0) [
        | inl is_new ↦ merged.each id m (Some file) b has_m (is_new, has_t.1) has_b
        | inr is_mine ↦ with_itself id m b file is_mine
            (one_held id_of mine id m (Some file) mine_held.rising has_m (is_mine, has_t.1))
            (merged.each id m None b has_m (nothing_new id file is_mine has_t.0 has_t.1) has_b)
      ]
