-- A list that is made of items, one item after the other.
use Rattle.std.specs.Prelude.{◌≡◌, ◌⊎◌, ℕ, ◌+◌, ◌<◌, ◌≤◌, List, [], ◌∷◌, ◌++◌, length, take, slice_get, Some, Contains}
use Rattle.std.specs.declared.cmp.Ordering.TheVariants.{Less}
use Rattle.std.proofs.Common.{get_or, sym, ap, subst, ◌∙◌, inl, inr, arith}
use Rattle.std.proofs.lemmas.List.{take_all, take_more, get_or-take, get_or_default, length-take}
use Rattle.std.proofs.lemmas.List.Elements.{Contains-append_left, Contains-get_or, Contains-push, Contains-push_cases}
use Rattle.std.proofs.lemmas.List.Quantifiers.{all_pairs_push}
use Rattle.std.proofs.lemmas.Option.{slice_get_within, get_or_from_slice_get}
use Rattle.ficus_ids.specs.Id.{id_cmp}
use Rattle.ficus_ids.specs.ListLaws.{not_inside_none}
use Rattle.ficus_ids.specs.Rising.{IsRisingBy}
use Rattle.ficus_ids.specs.declared.id.Id.{Id}
use Rattle.ficus_orphan.specs.Made.{AreMadeOf, IsMadeOf}

module _ {X : Type 0} (items : List X) (index : ℕ) (item : X) (at : slice_get items index ≡ Some item) where
  take_next : take (index + 1) items ≡ take index items ++ item ∷ []
  take_next =
      take_more items index item (slice_get_within items index item at)
      ∙ ap (λ last. take index items ++ last ∷ []) (get_or_from_slice_get items index item item at)

  -- what stands up to the next item stands before it, or is it
  pub inside_next : (one : X) → Contains (take (index + 1) items) one → Contains (take index items) one ⊎ (item ≡ one)
  inside_next one inside =
      Contains-push_cases (take index items) item one (subst (λ some. Contains some one) take_next inside)

  before_inside : (one : X) → Contains (take index items) one → Contains (take (index + 1) items) one
  before_inside one inside =
      subst (λ some. Contains some one) (sym take_next) (Contains-append_left (take index items) (item ∷ []) one inside)

  here_inside : Contains (take (index + 1) items) item
  here_inside = subst (λ some. Contains some item) (sym take_next) (Contains-push (take index items) item)

module _ {X Y : Type 0} (makes : X → Y → Type 0) (items : List X) where
  pub made_none : AreMadeOf makes (take 0 items) []
  made_none = record {
    all = λ made. (
      λ inside. absurd (not_inside_none made inside),
      λ is. absurd (not_inside_none is.item is.inside),
    );
  }

  pub made_all : (index : ℕ) (list : List Y) → length items ≤ index → AreMadeOf makes (take index items) list →
      AreMadeOf makes items list
  made_all index list past are = subst (λ whole. AreMadeOf makes whole list) (take_all index items past) are

  module _ (index : ℕ) (item : X) (at : slice_get items index ≡ Some item) (list : List Y)
      (are : AreMadeOf makes (take index items) list) where
    earlier : (made : Y) → Contains list made → IsMadeOf makes (take (index + 1) items) made
    earlier made inside =
        let was = (are.all made).0 inside in
        record {
          item = was.item;
          inside = before_inside items index item at was.item was.inside;
          makes_it = was.makes_it;
        }

    listed_or_here : (made : Y) → IsMadeOf makes (take (index + 1) items) made → Contains list made ⊎ makes item made
    listed_or_here made is =
        elim (inside_next items index item at is.item is.inside) [
          | inl before ↦ inl ((are.all made).1 (record { item = is.item; inside = before; makes_it = is.makes_it }))
          | inr here ↦ inr (subst (λ one. makes one made) (sym here) is.makes_it)
        ]

    -- an item of which nothing is made adds nothing
    pub made_stay : ((made : Y) → makes item made → ⊥) → AreMadeOf makes (take (index + 1) items) list
    made_stay none = record {
      all = λ made. (
        earlier made,
        λ is. elim (listed_or_here made is) [ inl before ↦ before | inr here ↦ absurd (none made here) ],
      );
    }

    -- and one of which one thing is made adds it
    pub made_push : (own : Y) → makes item own → ((made : Y) → makes item made → made ≡ own) →
        AreMadeOf makes (take (index + 1) items) (list ++ own ∷ [])
    made_push own makes_own one = record {
      all = λ made. (
        λ inside. elim (Contains-push_cases list own made inside) [
          | inl before ↦ earlier made before
          | inr same ↦ record {
            item = item;
            inside = here_inside items index item at;
            makes_it = subst (makes item) same makes_own;
          }
        ],
        λ is. elim (listed_or_here made is) [
          | inl before ↦ Contains-append_left list (own ∷ []) made before
          | inr here ↦ subst (Contains (list ++ own ∷ [])) (sym (one made here)) (Contains-push list own)
        ],
      );
    }

    module _ (id_of : X → Id) (told_of : Y → Id) (rising : IsRisingBy id_of items)
        (keeps : (item : X) (made : Y) → makes item made → told_of made ≡ id_of item) where
      below : (made : Y) → Contains list made → id_cmp (told_of made) (id_of item) ≡ Less
      below made inside =
          let was = (are.all made).0 inside in
          let place = was.inside.0 in
          let before : place < index = omega (arith, length-take index items, was.inside.1) in
          let is : get_or items place item ≡ was.item =
          sym (get_or-take index items place item before) ∙ get_or_default (take index items) place item was.item was.inside.1 ∙ was.inside.2 in
          let last : get_or items index item ≡ item = get_or_from_slice_get items index item item at in
          let less = rising.each place index item before (slice_get_within items index item at) in
          subst (λ id. id_cmp id (id_of item) ≡ Less) (ap id_of is ∙ sym (keeps was.item made was.makes_it))
          (subst (λ one. id_cmp (id_of (get_or items place item)) (id_of one) ≡ Less) last less)

      -- what is made of items in order is in order
      pub rising_push : (own : Y) → makes item own → IsRisingBy told_of list → IsRisingBy told_of (list ++ own ∷ [])
      rising_push own makes_own rises = record {
        each = all_pairs_push (λ a b. id_cmp (told_of a) (told_of b) ≡ Less) list own rises.each (λ k d within.
            subst (λ id. id_cmp (told_of (get_or list k d)) id ≡ Less) (sym (keeps item own makes_own))
            (below (get_or list k d) (Contains-get_or list k d within)));
      }

pub rising_none : {Y : Type 0} (told_of : Y → Id) → IsRisingBy told_of []
rising_none told_of = record { each = λ one other d before within. absurd (omega arith) }
