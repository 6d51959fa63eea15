-- The versions of two lists that no version of either is over, gathered one after the other.
use Rattle.std.proofs.Common.{◌≡◌, ◌⊎◌, inl, inr, ℕ, ◌+◌, ◌<◌, ◌≤◌, List, [], ◌∷◌, ◌++◌, length, get_or, take, drop, Contains, sym, ap, ◌∙◌, subst, arith}
use Rattle.std.specs.List.{insert}
use Rattle.std.specs.declared.cmp.Ordering.TheVariants.{Less, Equal, Greater}
use Rattle.std.proofs.lemmas.Bool.{cases_lt}
use Rattle.std.proofs.lemmas.List.{get_or_default, take_all, take_more, take-append-drop, get_or-take, length-take}
use Rattle.std.proofs.lemmas.List.Elements.{Contains-get_or, Contains-append_cases, Contains-append_left, Contains-append_right}
use Rattle.ficus_ids.specs.ListLaws.{here, here_or_there, not_inside_none}
use Rattle.ficus_vectors.specs.Vector.{Counts, vector_cmp}
use Rattle.ficus_vectors.specs.VectorLaws.{vector_cmp_total, vector_cmp-flip, vector_cmp-Equal, not_before_itself}
use Rattle.ficus_file.specs.declared.version.Version.{Version}
use Rattle.ficus_merge_files.specs.Versions.{HasVector, IsLatest, IsOfEither, IsKept, IsKeptOf, AreOrdered, AreMerged, AreOfEither, HaveOneText, IsPlaceOf, Gains, GainsKept}
use Rattle.ficus_merge_files.proofs.Inserted.{insert_rises}

module _ (versions : List Version) (vector : Counts) (index : ℕ) (version : Version) (inside : index < length versions)
    (at : get_or versions index version ≡ version) where
  here_is : (d : Version) → get_or versions index d ≡ version
  here_is d = get_or_default versions index d version inside ∙ at

  pub found_at : vector_cmp version.vector vector ≡ Equal → HasVector versions vector
  found_at equal = record { version = version; inside = (index, inside, at); same = vector_cmp-Equal version.vector vector equal }

  pub place_at : AreOrdered versions →
      ((k : ℕ) (d : Version) → k < index → vector_cmp (get_or versions k d).vector vector ≡ Less) →
      vector_cmp version.vector vector ≡ Greater → IsPlaceOf versions vector index
  place_at ordered before after = record {
    within = omega arith;
    above = λ k d _ front. before k d front;
    below = λ k d from to.
        let next : vector_cmp vector (get_or versions index d).vector ≡ Less = rw (here_is d) (vector_cmp-flip version.vector vector after) in
        elim (cases_lt index k) [
          | inl past ↦ vector_cmp_total.trans vector (get_or versions index d).vector (get_or versions k d).vector next (ordered index k d past to)
          | inr at ↦ let same : k ≡ index = omega arith in rw same next
        ];
  }

pub insert_ordered : (versions : List Version) (version : Version) (index : ℕ) → AreOrdered versions →
    IsPlaceOf versions version.vector index → AreOrdered (insert versions index version)
insert_ordered versions version index ordered place =
    insert_rises (λ (one other : Version). vector_cmp one.vector other.vector ≡ Less) versions index version ordered place.within place.above place.below

-- the first versions of a list, and one more
module _ (from : List Version) (i : ℕ) (version : Version) (within : i < length from) (at : get_or from i version ≡ version) where
  next : take (i + 1) from ≡ take i from ++ version ∷ []
  next = take_more from i version within ∙ ap (λ v. take i from ++ v ∷ []) at

  one_more : (v : Version) → Contains (take (i + 1) from) v → Contains (take i from) v ⊎ (v ≡ version)
  one_more v inside = elim (Contains-append_cases (take i from) (version ∷ []) v (subst (λ l. Contains l v) next inside)) [
    | inl early ↦ inl early
    | inr last ↦ elim (here_or_there version v [] last) [
      | inl is ↦ inr is
      | inr none ↦ absurd (not_inside_none v none)
    ]
  ]

  earlier : (v : Version) → Contains (take i from) v → Contains (take (i + 1) from) v
  earlier v inside = subst (λ l. Contains l v) (sym next) (Contains-append_left (take i from) (version ∷ []) v inside)

  itself : Contains (take (i + 1) from) version
  itself = subst (λ l. Contains l version) (sym next) (Contains-append_right (take i from) (version ∷ []) version (here version []))

  whole : (v : Version) → Contains (take i from) v → Contains from v
  whole v inside = subst (λ l. Contains l v) (take-append-drop i from) (Contains-append_left (take i from) (drop i from) v inside)

  -- it isn't among those before
  pub earlier_only : AreOrdered from → Contains (take i from) version → ⊥
  earlier_only ordered (j, short, is) =
      let before : j < i = omega (arith, length-take i from, short) in
      let same : get_or from j version ≡ version = sym (get_or-take i from j version before) ∙ is in
      let less : vector_cmp (get_or from j version).vector (get_or from i version).vector ≡ Less = ordered j i version before within in
      not_before_itself version.vector (rw (same, at) at less)

  module _ (mine theirs old kept : List Version) (gains : GainsKept (take i from) mine theirs old kept) where
    -- a version that one is over is passed by
    pub passed_by : (IsLatest mine theirs version.vector → ⊥) → GainsKept (take (i + 1) from) mine theirs old kept
    passed_by under v = (λ inside. into v ((gains v).0 inside), λ had. (gains v).1 (back v had))
      where
        into : (v : Version) → Contains old v ⊎ IsKeptOf (take i from) mine theirs v →
            Contains old v ⊎ IsKeptOf (take (i + 1) from) mine theirs v
        into v (inl had) = inl had
        into v (inr now) = inr (record { inside = earlier v now.inside; latest = now.latest })

        back : (v : Version) → Contains old v ⊎ IsKeptOf (take (i + 1) from) mine theirs v →
            Contains old v ⊎ IsKeptOf (take i from) mine theirs v
        back v (inl had) = inl had
        back v (inr now) = elim (one_more v now.inside) [
          | inl early ↦ inr (record { inside = early; latest = now.latest })
          | inr is ↦ absurd (under (subst (λ (w : Version). IsLatest mine theirs w.vector) is now.latest))
        ]

    -- what is kept is one of the two lists
    pub of_either : AreOfEither from mine theirs → AreOfEither old mine theirs → AreOfEither kept mine theirs
    of_either each_from each_old v inside = elim ((gains v).0 inside) [
      | inl had ↦ each_old v had
      | inr now ↦ each_from v (whole v now.inside)
    ]

    -- one that is over by none stays away where its vector is there
    pub settled : HaveOneText mine theirs → AreOfEither from mine theirs → AreOfEither old mine theirs →
        (IsLatest mine theirs version.vector → HasVector kept version.vector) →
        GainsKept (take (i + 1) from) mine theirs old kept
    settled one_text each_from each_old known v = (λ inside. into ((gains v).0 inside), back)
      where
        into : Contains old v ⊎ IsKeptOf (take i from) mine theirs v →
            Contains old v ⊎ IsKeptOf (take (i + 1) from) mine theirs v
        into (inl had) = inl had
        into (inr now) = inr (record { inside = earlier v now.inside; latest = now.latest })

        there_too : IsLatest mine theirs version.vector → Contains kept version
        there_too latest =
            let has = known latest in
            subst (Contains kept)
            (one_text has.version version (of_either each_from each_old has.version has.inside) (each_from version (i, within, at)) has.same)
            has.inside

        back : Contains old v ⊎ IsKeptOf (take (i + 1) from) mine theirs v → Contains kept v
        back (inl had) = (gains v).1 (inl had)
        back (inr now) = elim (one_more v now.inside) [
          | inl early ↦ (gains v).1 (inr (record { inside = early; latest = now.latest }))
          | inr is ↦ subst (Contains kept) (sym is)
              (there_too (subst (λ (w : Version). IsLatest mine theirs w.vector) is now.latest))
        ]

    -- and one that none is over is kept, if its vector isn't there
    pub kept_too : (new : List Version) → HaveOneText mine theirs → AreOfEither from mine theirs →
        AreOfEither old mine theirs → IsLatest mine theirs version.vector →
        ((new ≡ kept) × HasVector kept version.vector) ⊎ Gains kept new version →
        GainsKept (take (i + 1) from) mine theirs old new
    kept_too new one_text each_from each_old latest (inr added) v = (λ inside. into ((added v).0 inside), λ had. (added v).1 (back had))
      where
        into : Contains kept v ⊎ (v ≡ version) → Contains old v ⊎ IsKeptOf (take (i + 1) from) mine theirs v
        into (inl before) = elim ((gains v).0 before) [
          | inl had ↦ inl had
          | inr now ↦ inr (record { inside = earlier v now.inside; latest = now.latest })
        ]
        into (inr is) = inr (record {
          inside = subst (Contains (take (i + 1) from)) (sym is) itself;
          latest = subst
              (λ (w : Version). IsLatest mine theirs w.vector) (sym is) latest;
        })

        back : Contains old v ⊎ IsKeptOf (take (i + 1) from) mine theirs v → Contains kept v ⊎ (v ≡ version)
        back (inl had) = inl ((gains v).1 (inl had))
        back (inr now) = elim (one_more v now.inside) [
          | inl early ↦ inl ((gains v).1 (inr (record { inside = early; latest = now.latest })))
          | inr is ↦ inr is
        ]
    kept_too new one_text each_from each_old latest (inl (same, there)) v =
        (λ inside. into (subst (λ l. Contains l v) same inside), λ had. subst (λ l. Contains l v) (sym same) (back had))
      where
        version_inside : Contains from version
        version_inside = subst (Contains from) at (Contains-get_or from i version within)

        known : Contains kept version
        known = subst (Contains kept) (one_text there.version version (of_either each_from each_old there.version there.inside)
            (each_from version version_inside) there.same) there.inside

        into : Contains kept v → Contains old v ⊎ IsKeptOf (take (i + 1) from) mine theirs v
        into before = elim ((gains v).0 before) [
          | inl had ↦ inl had
          | inr now ↦ inr (record { inside = earlier v now.inside; latest = now.latest })
        ]

        back : Contains old v ⊎ IsKeptOf (take (i + 1) from) mine theirs v → Contains kept v
        back (inl had) = (gains v).1 (inl had)
        back (inr now) = elim (one_more v now.inside) [
          | inl early ↦ (gains v).1 (inr (record { inside = early; latest = now.latest }))
          | inr is ↦ subst (Contains kept) (sym is) known
        ]

-- all of both lists together
pub merged_from : (mine theirs none first both : List Version) → none ≡ [] → GainsKept mine mine theirs none first →
    GainsKept theirs mine theirs first both → AreOrdered both → AreMerged mine theirs both
merged_from mine theirs none first both empty gains_mine gains_theirs ordered = record {
  items = λ v.
      (λ inside. into v ((gains_theirs v).0 inside), λ kept. back v kept.from kept.latest);
  ordered = ordered;
}
  where
    nothing : (v : Version) → Contains none v → ⊥
    nothing v inside = not_inside_none v (subst (λ l. Contains l v) empty inside)

    into : (v : Version) → Contains first v ⊎ IsKeptOf theirs mine theirs v → IsKept mine theirs v
    into v (inr kept) = record { from = inr kept.inside; latest = kept.latest }
    into v (inl early) = elim ((gains_mine v).0 early) [
      | inl had ↦ absurd (nothing v had)
      | inr kept ↦ record { from = inl kept.inside; latest = kept.latest }
    ]

    back : (v : Version) → IsOfEither mine theirs v → IsLatest mine theirs v.vector → Contains both v
    back v (inl inside) latest = (gains_theirs v).1 (inl ((gains_mine v).1 (inr (record { inside = inside; latest = latest }))))
    back v (inr inside) latest = (gains_theirs v).1 (inr (record { inside = inside; latest = latest }))

pub first_of_either : (mine theirs none first : List Version) → none ≡ [] → GainsKept mine mine theirs none first →
    AreOfEither first mine theirs
first_of_either mine theirs none first empty gains v inside = elim ((gains v).0 inside) [
  | inl had ↦ absurd (not_inside_none v (subst (λ l. Contains l v) empty had))
  | inr kept ↦ inl kept.inside
]

turn : {A B : Type 0} → A ⊎ B → B ⊎ A
turn (inl a) = inr a
turn (inr b) = inl b

-- the two lists may change places
pub one_text_flip : (mine theirs : List Version) → HaveOneText mine theirs → HaveOneText theirs mine
one_text_flip mine theirs one_text v w of_v of_w same = one_text v w (turn of_v) (turn of_w) same

pub merged_flip : (mine theirs both : List Version) → AreMerged mine theirs both → AreMerged theirs mine both
merged_flip mine theirs both merged = record {
  items = λ v. (
    λ inside. let kept = (merged.items v).0 inside in record {
      from = turn kept.from;
      latest = record {
        not_mine = kept.latest.not_theirs;
        not_theirs =
            kept.latest.not_mine;
      };
    },
    λ kept. (merged.items v).1 (record { from = turn kept.from; latest = record { not_mine = kept.latest.not_theirs; not_theirs = kept.latest.not_mine } }),
  );
  ordered = merged.ordered;
}

-- all of the list is gone through
pub at_end : (from mine theirs old kept : List Version) (n : ℕ) → length from ≤ n →
    GainsKept (take n from) mine theirs old kept → GainsKept from mine theirs old kept
at_end from mine theirs old kept n all gains = subst (λ l. GainsKept l mine theirs old kept) (take_all n from all) gains

-- what holds of each item by its index holds of each item
pub by_index : (P : Version → Type 0) (versions : List Version) →
    ((k : ℕ) (d : Version) → k < length versions → P (get_or versions k d)) →
    (version : Version) → Contains versions version → P version
by_index P versions each version (k, within, is) = subst P is (each k version within)

-- and for one index more
pub next_index : (P : Version → Type 0) (versions : List Version) (i : ℕ) (version : Version) → i < length versions →
    get_or versions i version ≡ version → ((k : ℕ) (d : Version) → k < i → P (get_or versions k d)) → P version →
    (k : ℕ) (d : Version) → k < i + 1 → P (get_or versions k d)
next_index P versions i version within at before now k d below = elim (cases_lt k i) [
  | inl front ↦ before k d front
  | inr last ↦
      let same : k ≡ i = omega arith in
      rw same (subst P (sym (get_or_default versions i d version within ∙ at)) now)
]
