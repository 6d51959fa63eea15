-- How many identifiers are such, and how many of a rising list are not in another.
use Rattle.std.proofs.Common.{◌≡◌, ◌↔◌, ℕ, ◌+◌, ◌≤◌, Bool, true, false, List, [], ◌∷◌, length, map, refl, sym, ap, subst, ◌∙◌, inl, inr, arith}
use Rattle.std.specs.Prelude.{Contains}
use Rattle.std.specs.List.{filter}
use Rattle.std.specs.declared.cmp.Ordering.TheVariants.{Less}
use Rattle.std.proofs.Math.Bool.{not}
use Rattle.std.proofs.lemmas.Bool.{not-true, not_from_false}
use Rattle.std.proofs.lemmas.List.{length-map}
use Rattle.std.proofs.lemmas.List.Elements.{All-contains, All-contains_itself, All-filter, All-map, All-weaker, filter_passes}
use Rattle.std.proofs.lemmas.List.Filters.{length-filter_both}
use Rattle.std.proofs.lemmas.List.Kept.{AllPairs-cons, AllPairs-filter}
use Rattle.ficus_ids.specs.Id.{id_cmp}
use Rattle.ficus_ids.specs.ListLaws.{first_below, from_map, into_map, rest_rises}
use Rattle.ficus_ids.specs.Rising.{IsRisingBy, HoldsBy}
use Rattle.ficus_ids.specs.RisingLaws.{same_items}
use Rattle.ficus_ids.specs.declared.id.Id.{Id}
use Rattle.ficus_laws.proofs.Deciding.{Decided}
use Rattle.ficus_held_laws.proofs.Standing.{inside_decided}
use Rattle.ficus_deciding.proofs.RemovedEntries.{into_filter}
use Rattle.ficus_replica.specs.Collect.{AreSoMany}

-- so many are such, and no other number
pub counted_once : {IsSuch : Id → Type 0} {one other : ℕ} → AreSoMany IsSuch one → AreSoMany IsSuch other →
    one ≡ other
counted_once {IsSuch} counts counts_too =
    let same : counts.ids ≡ counts_too.ids =
    same_items (λ (id : Id). id) counts.ids counts_too.ids counts.rising counts_too.rising (λ id. (
      λ inside. (counts_too.exactly id).1 ((counts.exactly id).0 inside),
      λ inside. (counts.exactly id).1 ((counts_too.exactly id).0 inside),
    )) in
    sym counts.counted ∙ ap length same ∙ counts_too.counted

-- as many are such as are so, where the same are
pub counted_as : {IsSuch IsSo : Id → Type 0} {count : ℕ} → ((id : Id) → IsSuch id ↔ IsSo id) →
    AreSoMany IsSuch count → AreSoMany IsSo count
counted_as same counts = record {
  ids = counts.ids;
  rising = counts.rising;
  exactly = λ id. (
    λ inside. (same id).0 ((counts.exactly id).0 inside),
    λ so. (counts.exactly id).1 ((same id).1 so),
  );
  counted = counts.counted;
}

-- the outcome of a decision
abbrev is_so : {P : Type 0} → Decided P → Bool
is_so (inl holds) = true
is_so (inr fails) = false

so_holds : {P : Type 0} (decided : Decided P) → is_so decided ≡ true → P
so_holds (inl holds) is = holds
so_holds (inr fails) is = cc

holds_so : {P : Type 0} (decided : Decided P) → P → is_so decided ≡ true
holds_so (inl holds) p = refl
holds_so (inr fails) p = absurd (fails p)

so_fails : {P : Type 0} (decided : Decided P) → is_so decided ≡ false → P → ⊥
so_fails (inl holds) is = cc
so_fails (inr fails) is = fails

fails_so : {P : Type 0} (decided : Decided P) → (P → ⊥) → is_so decided ≡ false
fails_so (inl holds) fails = absurd (fails holds)
fails_so (inr fails_too) fails = refl

-- what passes a test is an item that passes
from_filter : {X : Type 0} (p : X → Bool) (xs : List X) (x : X) → Contains (filter p xs) x →
    Contains xs x × (p x ≡ true)
from_filter {X} p xs x inside = (
  All-contains (Contains xs) (filter p xs) x (All-filter p (Contains xs) xs (All-contains_itself xs)) inside,
  All-contains (λ (y : X). p y ≡ true) (filter p xs) x (filter_passes p xs) inside,
)

-- in each of these one rising list has only identifiers of another
module _ (xs ys : List Id) (rising : IsRisingBy (λ (id : Id). id) xs) (rising_too : IsRisingBy (λ (id : Id). id) ys)
    (within : (id : Id) → Contains ys id → Contains xs id) where
  abbrev in_both : Id → Bool
  in_both id = is_so (inside_decided ys id)

  abbrev left_out : Id → Bool
  left_out id = not (in_both id)

  filter_rises : (p : Id → Bool) → IsRisingBy (λ (id : Id). id) (filter p xs)
  filter_rises p = record { each = AllPairs-filter (λ (a b : Id). id_cmp a b ≡ Less) p xs rising.each }

  both_is : filter in_both xs ≡ ys
  both_is = same_items (λ (id : Id). id) (filter in_both xs) ys (filter_rises in_both) rising_too (λ id. (
    λ inside. so_holds (inside_decided ys id) (from_filter in_both xs id inside).1,
    λ inside. into_filter in_both xs id (within id inside) (holds_so (inside_decided ys id) inside),
  ))

  -- it has so many fewer as it leaves out
  pub fewer_by : (count : ℕ) → length ys + count ≡ length xs →
      AreSoMany (λ id. Contains xs id × (Contains ys id → ⊥)) count
  fewer_by count counted = record {
    ids = filter left_out xs;
    rising = filter_rises left_out;
    exactly = λ id. (
      λ inside.
          let from = from_filter left_out xs id inside in
          (from.0, so_fails (inside_decided ys id) (not-true (in_both id) from.1)),
      λ only. into_filter left_out xs id only.0
          (not_from_false (in_both id) (fails_so (inside_decided ys id) only.1)),
    );
    counted = omega (arith, length-filter_both in_both left_out (λ id. refl) xs, ap length both_is, counted);
  }

  -- and the other is no longer
  pub no_more : length ys ≤ length xs
  no_more = omega (arith, length-filter_both in_both left_out (λ id. refl) xs, ap length both_is)

-- the same of items with identifiers
module _ {X : Type 0} (id_of : X → Id) where
  ids_rise : (xs : List X) → IsRisingBy id_of xs → IsRisingBy (λ (id : Id). id) (map id_of xs)
  ids_rise [] rising = record { each = λ i j d before within. absurd (omega arith) }
  ids_rise (x ∷ xs) rising = record {
    each = AllPairs-cons (λ (a b : Id). id_cmp a b ≡ Less) (id_of x) (map id_of xs)
        (All-map (λ (id : Id). id_cmp (id_of x) id ≡ Less) id_of xs
        (All-weaker (Contains xs) (λ y. id_cmp (id_of x) (id_of y) ≡ Less)
        (λ y inside. first_below (λ a b. id_cmp (id_of a) (id_of b) ≡ Less) x xs y rising.each inside)
        xs (All-contains_itself xs)))
        (ids_rise xs
        (record { each = rest_rises (λ a b. id_cmp (id_of a) (id_of b) ≡ Less) x xs rising.each })).each;
  }

  pub held_in_ids : (xs : List X) (id : Id) → HoldsBy id_of xs id → Contains (map id_of xs) id
  held_in_ids xs id held = subst (Contains (map id_of xs)) held.has_id (into_map id_of xs held.item held.inside)

  pub ids_held : (xs : List X) (id : Id) → Contains (map id_of xs) id → HoldsBy id_of xs id
  ids_held xs id inside =
      let found = from_map id_of xs id inside in
      record { item = found.0; inside = found.1; has_id = found.2 }

  -- as many identifiers are held no longer as a list has fewer items that has only those of another
  pub left_out_counted : (xs ys : List X) (count : ℕ) → IsRisingBy id_of xs → IsRisingBy id_of ys →
      ((x : X) → Contains ys x → Contains xs x) → length ys + count ≡ length xs →
      AreSoMany (λ id. HoldsBy id_of xs id × (HoldsBy id_of ys id → ⊥)) count
  left_out_counted xs ys count rising rising_too within counted =
      counted_as
      (λ id. (
        λ only. (ids_held xs id only.0, λ held. only.1 (held_in_ids ys id held)),
        λ only. (held_in_ids xs id only.0, λ inside. only.1 (ids_held ys id inside)),
      ))
      (fewer_by (map id_of xs) (map id_of ys) (ids_rise xs rising) (ids_rise ys rising_too)
      (λ id inside.
      let held = ids_held ys id inside in
      held_in_ids xs id (record { item = held.item; inside = within held.item held.inside; has_id = held.has_id }))
      count (omega (arith, length-map xs id_of, length-map ys id_of, counted)))

  -- rising identifiers of items that are held are no more than these
  pub no_more_ids : (xs : List X) (ids : List Id) → IsRisingBy id_of xs → IsRisingBy (λ (id : Id). id) ids →
      ((id : Id) → Contains ids id → HoldsBy id_of xs id) → length ids ≤ length xs
  no_more_ids xs ids rising rising_too held =
      omega (
        arith,
        length-map xs id_of,
        no_more (map id_of xs) ids (ids_rise xs rising) rising_too
            (λ id inside. held_in_ids xs id (held id inside)),
      )
