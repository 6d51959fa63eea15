-- What two lists of versions make together is again a list of versions of a file.
use Rattle.std.proofs.Common.{◌≡◌, ◌≢◌, inl, inr, ℕ, ◌<◌, ◌≤◌, List, [], ◌∷◌, ◌++◌, length, get_or, Contains, refl, sym, ap, ◌∙◌, subst, arith, ◌⊎◌}
use Rattle.std.specs.declared.cmp.Ordering.{Ordering}
use Rattle.std.specs.declared.cmp.Ordering.TheVariants.{Less, Equal, Greater}
use Rattle.std.proofs.lemmas.Bool.{cases_order}
use Rattle.std.proofs.lemmas.List.{get_or_default}
use Rattle.std.proofs.lemmas.List.Elements.{Contains-get_or, Contains-append_cases, Contains-append_left, Contains-append_right}
use Rattle.ficus_ids.specs.KindLaws.{kind_sort}
use Rattle.ficus_ids.specs.ListLaws.{here, there, here_or_there, not_inside_none}
use Rattle.ficus_vectors.specs.Vector.{vector_cmp, IsOver}
use Rattle.ficus_vectors.specs.VectorLaws.{vector_cmp_total, not_before_itself, before_over}
use Rattle.ficus_file.specs.declared.version.Version.{Version}
use Rattle.ficus_ids.specs.Kind.{sort_of, IsFixedText}
use Rattle.ficus_ids.specs.declared.kind.Kind.{Kind}
use Rattle.ficus_ids.specs.declared.kind.Kind.TheVariants.{Dir, Symlink}
use Rattle.ficus_ids.specs.declared.kind.Sort.{Sort}
use Rattle.ficus_ids.specs.declared.kind.Sort.TheVariants.{Directory, Versioned, Fixed}
use Rattle.ficus_file.specs.declared.file.FileReplica.{FileReplica}
use Rattle.ficus_file.specs.Version.{AreCurrent}
use Rattle.ficus_file.specs.File.{IsWellFormed, HaveOneText as HasFixedText, most_versions}
use Rattle.ficus_file.specs.Files.{IsSoundFile}
use Rattle.ficus_merge_files.specs.Versions.{IsLatest, IsOfEither, IsKept, AreOrdered, AreMerged, HaveOneText}
use Rattle.ficus_merge_files.specs.Merge.{AgreeOnBytes, CanMerge}

not_same_vector : (versions : List Version) (i j : ℕ) (d : Version) → AreOrdered versions → i < j →
    j < length versions → (get_or versions i d).vector ≡ (get_or versions j d).vector → ⊥
not_same_vector versions i j d ordered before within same =
    not_before_itself (get_or versions j d).vector (subst (λ v. vector_cmp v (get_or versions j d).vector ≡ Less) same (ordered i j d before within))

-- in an ordered list a vector stands once
pub one_version : (versions : List Version) (a b : Version) → AreOrdered versions → Contains versions a →
    Contains versions b → a.vector ≡ b.vector → a ≡ b
one_version versions a b ordered (i, within_i, is_a) (j, within_j, is_b) same =
    let at_b : get_or versions j a ≡ b = get_or_default versions j a b within_j ∙ is_b in
    elim (cases_order i j) [
      | inl here ↦ sym is_a ∙ ap (λ k. get_or versions k a) here ∙ at_b
      | inr (inl before) ↦ absurd (not_same_vector versions i j a ordered before within_j
          (ap (λ (v : Version). v.vector) is_a ∙ same ∙ ap (λ (v : Version). v.vector) (sym at_b)))
      | inr (inr behind) ↦ absurd (not_same_vector versions j i a ordered behind within_i
          (ap (λ (v : Version). v.vector) at_b ∙ sym same ∙ ap (λ (v : Version). v.vector) (sym is_a)))
    ]

pub one_text : (mine theirs : List Version) → AreOrdered mine → AreOrdered theirs → AgreeOnBytes mine theirs →
    HaveOneText mine theirs
one_text mine theirs ordered others agree a b (inl of_a) (inl of_b) same = one_version mine a b ordered of_a of_b same
one_text mine theirs ordered others agree a b (inr of_a) (inr of_b) same = one_version theirs a b others of_a of_b same
one_text mine theirs ordered others agree a b (inl of_a) (inr of_b) same = λ i. record { vector = same i; bytes = agree a b of_a of_b same i }
one_text mine theirs ordered others agree a b (inr of_a) (inl of_b) same = sym (λ i. record { vector = sym same i; bytes = agree b a of_b of_a (sym same) i })

-- a version of the list behind which none comes
record IsLast (versions : List Version) : Type 0 where
  version : Version
  inside : Contains versions version
  last : (other : Version) → Contains versions other → vector_cmp version.vector other.vector ≡ Less → ⊥

of_two : (first : Version) (later : List Version) → IsLast later → IsLast (first ∷ later)
of_two first later rest = pick (vector_cmp rest.version.vector first.vector) refl
  where
    stays : (vector_cmp rest.version.vector first.vector ≡ Less → ⊥) → IsLast (first ∷ later)
    stays not_less = record {
      version = rest.version;
      inside = there first rest.version later rest.inside;
      last = λ other inside less. elim (here_or_there first other later inside) [
        | inl is ↦ not_less (subst (λ (v : Version). vector_cmp rest.version.vector v.vector ≡ Less) is less)
        | inr behind ↦ rest.last other behind less
      ];
    }

    pick : (o : Ordering) → vector_cmp rest.version.vector first.vector ≡ o → IsLast (first ∷ later)
    pick Less is = record {
      version = first;
      inside = here first later;
      last = λ other inside less. elim (here_or_there first other later inside) [
        | inl same ↦ not_before_itself first.vector (subst (λ (v : Version). vector_cmp first.vector v.vector ≡ Less) same less)
        | inr behind ↦ rest.last other behind (vector_cmp_total.trans rest.version.vector first.vector other.vector is less)
      ];
    }
    pick Equal is = stays (λ less. let clash : Equal ≡ Less = sym is ∙ less in cc)
    pick Greater is = stays (λ less. let clash : Greater ≡ Less = sym is ∙ less in cc)

some_last : (first : Version) (versions : List Version) → IsLast (first ∷ versions)
some_last first [] = record {
  version = first;
  inside = here first [];
  last = λ other inside less. elim (here_or_there first other [] inside) [
    | inl is ↦ not_before_itself first.vector (subst (λ (v : Version). vector_cmp first.vector v.vector ≡ Less) is less)
    | inr none ↦ not_inside_none other none
  ];
}
some_last first (second ∷ later) = of_two first (second ∷ later) (some_last second later)

none_over : (mine theirs : List Version) (last : IsLast (mine ++ theirs)) → IsKept mine theirs last.version
none_over mine theirs last = record {
  from = Contains-append_cases mine theirs last.version last.inside;
  latest = record {
    not_mine = λ over. last.last over.version (Contains-append_left mine theirs over.version over.inside)
        (before_over over.version.vector last.version.vector over.over);
    not_theirs = λ over. last.last over.version (Contains-append_right mine theirs over.version over.inside)
        (before_over over.version.vector last.version.vector over.over);
  };
}

some_kept : (mine theirs : List Version) → 1 ≤ length mine → (version : Version) × IsKept mine theirs version
some_kept [] theirs some = absurd (omega arith)
some_kept (first ∷ mine) theirs some = let last = some_last first (mine ++ theirs) in (last.version, none_over (first ∷ mine) theirs last)

not_over : (mine theirs both : List Version) (merged : AreMerged mine theirs both) (a b : Version) → Contains both a →
    Contains both b → IsOver a.vector b.vector → ⊥
not_over mine theirs both merged a b has_a has_b over = go ((merged.items a).0 has_a).from
  where
    latest : IsLatest mine theirs b.vector
    latest = ((merged.items b).0 has_b).latest

    go : IsOfEither mine theirs a → ⊥
    go (inl inside) = latest.not_mine (record { version = a; inside = inside; over = over })
    go (inr inside) = latest.not_theirs (record { version = a; inside = inside; over = over })

pub merged_current : (mine theirs both : List Version) → 1 ≤ length mine → length both ≤ 8 →
    AreMerged mine theirs both → AreCurrent both
merged_current mine theirs both some few merged =
    let kept = some_kept mine theirs some in
    let inside = (merged.items kept.0).1 kept.1 in
    record {
      at_least = omega (arith, inside.1);
      at_most = few;
      apart = λ i j d before within.
          let has_i = Contains-get_or both i d (omega arith) in
          let has_j = Contains-get_or both j d within in
          record {
            not_covering = λ covers. not_over mine theirs both merged (get_or both i d) (get_or both j d) has_i has_j
                (record { covers = covers; differ = not_same_vector both i j d merged.ordered before within });
            not_covered = λ covers. not_over mine theirs both merged (get_or both j d) (get_or both i d) has_j has_i
                (record { covers = covers; differ = λ same. not_same_vector both i j d merged.ordered before within (sym same) });
          };
      ordered = merged.ordered;
    }

-- the versions of a file or a directory are in order
pub ordered_of : (file : FileReplica) → IsWellFormed file → AreOrdered file.versions
ordered_of file well = of_kind (kind_sort file.kind)
  where
    of_kind : (file.kind ≡ Dir) ⊎ (file.kind ≢ Dir) → AreOrdered file.versions
    of_kind (inl dir) = subst AreOrdered (sym (well.directory dir)) (λ i j d before within. absurd (omega arith))
    of_kind (inr is_file) = (well.current is_file).ordered

none_inside : (versions : List Version) → ((version : Version) → Contains versions version → ⊥) → versions ≡ []
none_inside [] none = refl
none_inside (first ∷ later) none = absurd (none first (here first later))

-- a list with one item at least and at most has that one
only_one : (versions : List Version) → 1 ≤ length versions → length versions ≤ 1 →
    (version : Version) × (versions ≡ version ∷ [])
only_one [] some few = absurd (omega arith)
only_one (version ∷ []) some few = (version, refl)
only_one (version ∷ other ∷ more) some few = absurd (omega arith)

-- no object has more versions than a file
most_eight : (sort : Sort) → most_versions sort ≤ 8
most_eight Directory = omega arith
most_eight Versioned = omega arith
most_eight Fixed = omega arith

-- and what two of them make together is well formed
pub merged_held : (mine theirs both : FileReplica) → IsSoundFile mine → IsSoundFile theirs → CanMerge mine theirs →
    both.id ≡ mine.id → both.kind ≡ mine.kind → AreMerged mine.versions theirs.versions both.versions →
    IsSoundFile both
merged_held mine theirs both held others can same_id same_kind merged = record {
  well_formed = record {
    directory = λ dir.
        let is : mine.kind ≡ Dir = sym same_kind ∙ dir in
        none_inside both.versions (λ version inside. nothing is version ((merged.items version).0 inside).from);
    current = λ is_file.
        let mine_file : mine.kind ≢ Dir = λ dir. is_file (same_kind ∙ dir) in
        merged_current mine.versions theirs.versions both.versions (held.well_formed.current mine_file).at_least few merged;
    fixed = λ stays. one_left stays;
  };
  not_root = λ root. held.not_root (sym same_id ∙ root);
  not_attic = λ attic. held.not_attic (sym same_id ∙ attic);
}
  where
    few : length both.versions ≤ 8
    few = omega (arith, can.few both.versions merged, most_eight (sort_of mine.kind))

    -- of what has a text that stays one version is left, which one of the two has
    one_left : sort_of both.kind ≡ Fixed → HasFixedText both.versions
    one_left stays =
        let mine_stays : sort_of mine.kind ≡ Fixed = ap sort_of (sym same_kind) ∙ stays in
        let theirs_stays : sort_of theirs.kind ≡ Fixed = ap sort_of (sym can.kind) ∙ mine_stays in
        let own = held.well_formed.fixed mine_stays in
        let his = others.well_formed.fixed theirs_stays in
        let most = can.few both.versions merged in
        let at_most : length both.versions ≤ 1 =
        subst (λ sort. length both.versions ≤ most_versions sort) mine_stays most in
        let some = merged_current mine.versions theirs.versions both.versions (one_some own) few merged in
        let left = only_one both.versions some.at_least at_most in
        let from = ((merged.items left.0).0 (subst (λ l. Contains l left.0) (sym left.1) (here left.0 []))).from in
        record { version = left.0; alone = left.1; text = fits_either own his left.0 from }
      where
        one_some : {versions : List Version} → HasFixedText versions → 1 ≤ length versions
        one_some one = subst (λ (l : List Version). 1 ≤ length l) (sym one.alone) (omega arith)

        fits_one : {versions : List Version} → HasFixedText versions → (version : Version) → Contains versions version →
            IsFixedText version.bytes
        fits_one one version inside = elim (here_or_there one.version version []
            (subst (λ l. Contains l version) one.alone inside)) [
              | inl is ↦ subst (λ (v : Version). IsFixedText v.bytes) (sym is) one.text
              | inr none ↦ absurd (not_inside_none version none)
            ]

        fits_either : HasFixedText mine.versions → HasFixedText theirs.versions → (version : Version) →
            IsOfEither mine.versions theirs.versions version → IsFixedText version.bytes
        fits_either own his version (inl inside) = fits_one own version inside
        fits_either own his version (inr inside) = fits_one his version inside

    nothing : mine.kind ≡ Dir → (version : Version) → IsOfEither mine.versions theirs.versions version → ⊥
    nothing is version (inl inside) = not_inside_none version (subst (λ l. Contains l version) (held.well_formed.directory is) inside)
    nothing is version (inr inside) = not_inside_none version (subst (λ l. Contains l version) (others.well_formed.directory (sym can.kind ∙ is)) inside)

pub text_of_files : (mine theirs : FileReplica) → IsSoundFile mine → IsSoundFile theirs → CanMerge mine theirs →
    HaveOneText mine.versions theirs.versions
text_of_files mine theirs held others can =
    one_text mine.versions theirs.versions (ordered_of mine held.well_formed) (ordered_of theirs others.well_formed) can.agree

-- an object has no more versions than one for the same
pub most_of : (file : FileReplica) → IsWellFormed file → length file.versions ≤ most_versions (sort_of file.kind)
most_of file well = by_kind file.kind refl
  where
    by_kind : (kind : Kind) → file.kind ≡ kind → length file.versions ≤ most_versions (sort_of kind)
    by_kind Dir is = subst (λ (l : List Version). length l ≤ 0) (sym (well.directory is)) (omega arith)
    by_kind Symlink is =
        let one = well.fixed (ap sort_of is) in
        subst (λ (l : List Version). length l ≤ 1) (sym one.alone) (omega arith)
    by_kind kind is = (well.current (λ dir. let same : kind ≡ Dir = sym is ∙ dir in cc)).at_most

-- a file or a directory has at most 8 versions
pub few_of : (file : FileReplica) → IsWellFormed file → length file.versions ≤ 8
few_of file well = of_kind (kind_sort file.kind)
  where
    of_kind : (file.kind ≡ Dir) ⊎ (file.kind ≢ Dir) → length file.versions ≤ 8
    of_kind (inl dir) = subst (λ (l : List Version). length l ≤ 8) (sym (well.directory dir)) (omega arith)
    of_kind (inr is_file) = (well.current is_file).at_most
