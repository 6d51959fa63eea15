-- What a list holds without some of its items.
use Rattle.std.proofs.Common.{◌≡◌, ℕ, ◌+◌, ◌<◌, ◌≤◌, List, [], ◌∷◌, ◌++◌, length, map, get_or, ◌∙◌, sym, ap, subst, arith, inl, inr}
use Rattle.std.specs.Prelude.{Contains}
use Rattle.std.specs.List.{remove}
use Rattle.std.proofs.lemmas.Bool.{cases_lt}
use Rattle.std.proofs.lemmas.List.Edits.{length-remove, get_or-remove_below, get_or-remove_above}
use Rattle.std.proofs.lemmas.List.Elements.{Contains-push, Contains-push_cases, Contains-append_left}
use Rattle.std.proofs.lemmas.List.Sorted.{IsPermutation-remove, Contains-permutation}
use Rattle.ficus_ids.specs.declared.id.Id.{Id}
use Rattle.ficus_ids.specs.ListLaws.{here, here_or_there, not_inside_none, into_map, from_map}
use Rattle.ficus_ids.specs.Rising.{IsRisingBy, IsFoundAtBy, IsPlaceBy, LeavesOutBy}
use Rattle.ficus_ids.specs.RisingLaws.{item_at, none_at_place}

module _ {X : Type 0} (id_of : X → Id) where
  -- where an item of the shorter list stood
  was_at : (xs : List X) (i k : ℕ) (d : X) → i < length xs →
      (m : ℕ) × (k ≤ m) × (m ≤ k + 1) × (get_or (remove xs i) k d ≡ get_or xs m d)
  was_at xs i k d within =
      elim (cases_lt k i) [
        | inl before ↦ (k, omega arith, omega arith, get_or-remove_below xs i d k before within)
        | inr behind ↦ (k + 1, omega arith, omega arith, get_or-remove_above xs i d k behind within)
      ]

  pub rising_without : (xs : List X) (i : ℕ) → i < length xs → IsRisingBy id_of xs → IsRisingBy id_of (remove xs i)
  rising_without xs i within rising = record {
    each = λ k l d before there.
        let short : l + 1 < length xs = omega (arith, length-remove xs i within) in
        elim (cases_lt k i) [
          | inl front ↦ elim (cases_lt l i) [
            | inl front_too ↦ rw (get_or-remove_below xs i d k front within, get_or-remove_below xs i d l front_too within)
                (rising.each k l d before (omega arith))
            | inr back ↦ rw (get_or-remove_below xs i d k front within, get_or-remove_above xs i d l back within)
                (rising.each k (l + 1) d (omega arith) short)
          ]
          | inr back ↦
              let back_too : i ≤ l = omega arith in
              rw (get_or-remove_above xs i d k back within, get_or-remove_above xs i d l back_too within)
              (rising.each (k + 1) (l + 1) d (omega arith) short)
        ];
  }

  -- the identifier of an item that was removed has its place among the others
  place_left : (xs : List X) (i : ℕ) (id : Id) → IsRisingBy id_of xs → IsFoundAtBy id_of xs id i →
      IsPlaceBy id_of (remove xs i) id i
  place_left xs i id rising found =
      let long = length-remove xs i found.0 in
      record {
        within = omega (arith, long, found.0);
        above = λ k d from to. rw (get_or-remove_below xs i d k to found.0, ← found.1 d) (rising.each k i d to found.0);
        below = λ k d from to. rw (get_or-remove_above xs i d k from found.0, ← found.1 d)
            (rising.each i (k + 1) d (omega arith) (omega (arith, long)));
      }

  -- without the item that has the identifier
  pub leaves_one : (xs fewer : List X) (id : Id) (i : ℕ) → IsRisingBy id_of xs → IsFoundAtBy id_of xs id i →
      fewer ≡ remove xs i → LeavesOutBy id_of xs (id ∷ []) fewer
  leaves_one xs fewer id i rising found is = rw is (λ item. (into item, back item))
    where
      x : (x : X) × (get_or xs i x ≡ x)
      x = item_at xs i found.0

      into : (item : X) → Contains (remove xs i) item → Contains xs item × (Contains (id ∷ []) (id_of item) → ⊥)
      into item (k, within, at) =
          let was = was_at xs i k item found.0 in
          let there : was.0 < length xs = omega (arith, length-remove xs i found.0, was.2) in (
            (was.0, there, sym was.3 ∙ at),
            λ named. elim (here_or_there id (id_of item) [] named) [
              | inl same ↦ none_at_place id_of (remove xs i) id i (place_left xs i id rising found)
                  (record { item = item; inside = (k, within, at); has_id = same })
              | inr none ↦ not_inside_none (id_of item) none
            ],
          )

      back : (item : X) → Contains xs item × (Contains (id ∷ []) (id_of item) → ⊥) → Contains (remove xs i) item
      back item (inside, unnamed) =
          elim (here_or_there x.0 item (remove xs i)
          (Contains-permutation xs (x.0 ∷ remove xs i) item
          (IsPermutation-remove xs i x.0 found.0 (sym x.1)) inside)) [
            | inl same ↦ absurd (unnamed (subst (Contains (id ∷ [])) (sym (ap id_of (same ∙ sym x.1) ∙ found.1 x.0))
                (here id [])))
            | inr rest ↦ rest
          ]

  -- where no item has it nothing is left out
  pub leaves_none : (xs fewer : List X) (id : Id) (i : ℕ) → IsPlaceBy id_of xs id i → fewer ≡ xs →
      LeavesOutBy id_of xs (id ∷ []) fewer
  leaves_none xs fewer id i place is item = rw is (
    λ inside. (
      inside,
      λ named. elim (here_or_there id (id_of item) [] named) [
        | inl same ↦ none_at_place id_of xs id i place (record { item = item; inside = inside; has_id = same })
        | inr none ↦ not_inside_none (id_of item) none
      ],
    ),
    λ kept. kept.0,
  )

  pub leaves_all : (xs : List X) → LeavesOutBy id_of xs [] xs
  leaves_all xs item = (λ inside. (inside, λ named. not_inside_none (id_of item) named), λ kept. kept.0)

  -- one identifier more
  pub leaves_more : (xs ys zs : List X) (ids : List Id) (id : Id) → LeavesOutBy id_of xs ids ys →
      LeavesOutBy id_of ys (id ∷ []) zs → LeavesOutBy id_of xs (ids ++ id ∷ []) zs
  leaves_more xs ys zs ids id one other item = (
    λ inside.
        let then = (other item).0 inside in
        let first = (one item).0 then.0 in (
          first.0,
          λ named. elim (Contains-push_cases ids id (id_of item) named) [
            | inl old ↦ first.1 old
            | inr is ↦ then.1 (subst (Contains (id ∷ [])) is (here id []))
          ],
        ),
    λ kept. (other item).1 (
      (one item).1 (kept.0, λ named. kept.1 (Contains-append_left ids (id ∷ []) (id_of item) named)),
      λ named. elim (here_or_there id (id_of item) [] named) [
        | inl same ↦ kept.1 (subst (Contains (ids ++ id ∷ [])) (sym same) (Contains-push ids id))
        | inr none ↦ not_inside_none (id_of item) none
      ],
    ),
  )

-- what rows show is left out with them
pub leaves_seen : {R S : Type 0} (id_of : S → Id) (seen : R → S) (base list : List R) (items : List S) (ids : List Id) →
    LeavesOutBy (λ row. id_of (seen row)) base ids list → map seen base ≡ items →
    LeavesOutBy id_of items ids (map seen list)
leaves_seen id_of seen base list items ids left same item = rw (← same) (
  λ inside.
      let found = from_map seen list item inside in
      let was = (left found.0).0 found.1 in (
        subst (Contains (map seen base)) found.2 (into_map seen base found.0 was.0),
        λ named. was.1 (subst (λ one. Contains ids (id_of one)) (sym found.2) named),
      ),
  λ kept.
      let found = from_map seen base item kept.0 in
      subst (Contains (map seen list)) found.2 (into_map seen list found.0 ((left found.0).1 (
        found.1,
        λ named. kept.1 (subst (λ one. Contains ids (id_of one)) found.2 named),
      ))),
)
