-- What keeps a set and a list of found objects together.
use Rattle.std.specs.Prelude.{◌≡◌, ◌↔◌, ◌+◌, List, [], ◌∷◌, ◌++◌, length, Contains, IsTrue, true, cond}
use Rattle.std.specs.declared.cmp.Ordering.{Ordering}
use Rattle.std.specs.declared.cmp.Ordering.TheVariants.{Less, Equal, Greater}
use Rattle.std.specs.Ordering.{is_eq}
use Rattle.std.specs.List.{list_any}
use Rattle.std.specs.BTreeMap.{is_at}
use Rattle.std.specs.BTreeSet.{BTreeSet, btree_set_len, contains, IsOrdered}
use Rattle.std.proofs.Common.{arith, refl, sym, ap, ◌∙◌, subst, inl, inr}
use Rattle.std.proofs.lemmas.List.{length_push}
use Rattle.std.proofs.lemmas.List.Elements.{Contains-append_left, Contains-push, Contains-push_cases}
use Rattle.std.proofs.lemmas.Map.Keys.{Less-from_sorted}
use Rattle.std.proofs.lemmas.Map.Views.{btree_set_contains_iff}
use Rattle.ficus_ids.specs.declared.id.Id.{Id}
use Rattle.ficus_ids.specs.Id.{id_cmp}
use Rattle.ficus_ids.specs.IdLaws.{id_cmp_total, id_cmp-self, id_cmp-Equal}
use Rattle.ficus_ids.specs.Rising.{IsRisingBy}
use Rattle.ficus_reach.specs.Found.{IsTracked}

module _ (set new : BTreeSet Id) (order : List Id) (object : Id)
    (adds : (other : Id) →
    contains id_cmp new other ≡ cond (is_at (id_cmp object) other) true (contains id_cmp set other)) where
  added_cases : (other : Id) (answer : Ordering) → id_cmp object other ≡ answer →
      IsTrue (cond (is_eq answer) true (contains id_cmp set other)) →
      ((other_object : Id) → IsTrue (contains id_cmp set other_object) → Contains order other_object) →
      Contains (order ++ object ∷ []) other
  added_cases other Less is inside before = Contains-append_left order (object ∷ []) other (before other inside)
  added_cases other Equal is inside before = subst (Contains (order ++ object ∷ [])) (id_cmp-Equal object other is) (Contains-push order object)
  added_cases other Greater is inside before = Contains-append_left order (object ∷ []) other (before other inside)

  kept : (other : Id) (answer : Ordering) → IsTrue (contains id_cmp set other) →
      IsTrue (cond (is_eq answer) true (contains id_cmp set other))
  kept other Less inside = inside
  kept other Equal inside = refl
  kept other Greater inside = inside

  same_push : ((other : Id) → IsTrue (contains id_cmp set other) ↔ Contains order other) →
      (other : Id) → IsTrue (contains id_cmp new other) ↔ Contains (order ++ object ∷ []) other
  same_push same other = (
    λ inside. added_cases other (id_cmp object other) refl (sym (adds other) ∙ inside) (λ earlier. (same earlier).0),
    λ inside. adds other ∙ (elim (Contains-push_cases order object other inside) [
      | inl before ↦ kept other (id_cmp object other) ((same other).1 before)
      | inr is ↦ ap (λ answer. cond (is_eq answer) true (contains id_cmp set other)) (ap (id_cmp object) (sym is) ∙ id_cmp-self object)
    ]),
  )

  -- a new object goes into the set and behind the list
  pub tracked_push : IsOrdered id_cmp new → btree_set_len new ≡ btree_set_len set + 1 → IsTracked set order →
      IsTracked new (order ++ object ∷ [])
  tracked_push ordered longer tracked = record {
    ordered = ordered;
    same = same_push tracked.same;
    count = omega (arith, length_push order object, tracked.count);
  }

-- with nothing found
pub tracked_none : (set : BTreeSet Id) (order : List Id) → IsOrdered id_cmp set → set.keys ≡ [] → order ≡ [] →
    IsTracked set order
tracked_none set order ordered no_keys no_objects = record {
  ordered = ordered;
  same = λ object. (
    λ inside. absurd (cc (inside, ap (list_any (is_at (id_cmp object))) no_keys)),
    λ inside. absurd (omega (arith, inside.1, ap length no_objects)),
  );
  count = ap length no_keys ∙ sym (ap length no_objects);
}

-- the objects of the set, in order
pub rising_keys : (set : BTreeSet Id) → IsOrdered id_cmp set → IsRisingBy (λ id. id) set.keys
rising_keys set ordered =
    record { each = λ one other d before within. Less-from_sorted id_cmp set.keys one other d ordered before within }

pub same_keys : (set : BTreeSet Id) (order : List Id) → IsTracked set order →
    (object : Id) → Contains set.keys object ↔ Contains order object
same_keys set order tracked object =
    let known = btree_set_contains_iff id_cmp_total id_cmp-Equal set object in
    (λ inside. (tracked.same object).0 (known.1 inside), λ inside. known.0 ((tracked.same object).1 inside))
