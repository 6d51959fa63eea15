-- How far a search has come along the edges.
use Rattle.std.specs.Prelude.{◌≡◌, ◌↔◌, ℕ, ◌+◌, ◌<◌, ◌≤◌, List, [], ◌++◌, length, map, Contains}
use Rattle.std.specs.BTreeSet.{BTreeSet}
use Rattle.std.proofs.Common.{arith, get_or, refl, sym, ap, ◌∙◌, subst, inl, inr}
use Rattle.std.proofs.Math.ListN.{get_or-map}
use Rattle.std.proofs.lemmas.Bool.{cases_eq}
use Rattle.std.proofs.lemmas.Cmp.{eq_by_cmp_equiv}
use Rattle.std.proofs.lemmas.List.{length-append, length-map, get_or_append_left, get_or_default}
use Rattle.std.proofs.lemmas.List.Elements.{Contains-append_left, Contains-append_right}
use Rattle.std.proofs.lemmas.Map.Keys.{IsDistinct-from_sorted}
use Rattle.std.proofs.lemmas.Map.Made.{length-le_from_is_member}
use Rattle.std.proofs.lemmas.Map.Views.{list_any-from_Contains}
use Rattle.ficus_ids.specs.declared.id.Id.{Id}
use Rattle.ficus_ids.specs.Id.{id_cmp}
use Rattle.ficus_ids.specs.IdLaws.{id_cmp_total}
use Rattle.ficus_model.specs.Reached.{IsReached, Base, Through}
use Rattle.ficus_entry.specs.declared.entry.Entry.{Entry}
use Rattle.ficus_reach.specs.Found.{IsTracked, Gains}
use Rattle.ficus_reach.specs.Leads.{LeadsIn}
use Rattle.ficus_reach.specs.Edge.{Edges}
use Rattle.ficus_reach.specs.ReachedLaws.{IsReached-along}
use Rattle.ficus_reach.specs.declared.edge.Edge.{Edge}

-- The search began with the start, what it found is reached, and it went on from each object in front of the place.
pub record IsFollowing (edges : List Edge) (start : List Id) (set : BTreeSet Id) (order : List Id) (next : ℕ) : Type 0 where
  pub tracked : IsTracked set order
  pub begins : (object : Id) → Contains start object → Contains order object
  pub sound : (object : Id) → Contains order object → IsReached (Edges edges) (Contains start) object
  pub closed : (place : ℕ) (d object : Id) → place < next → place < length order →
      Edges edges (get_or order place d) object → Contains order object

pub following_none : (edges : List Edge) (start : List Id) (set : BTreeSet Id) → IsTracked set start →
    IsFollowing edges start set start 0
following_none edges start set tracked = record {
  tracked = tracked;
  begins = λ object inside. inside;
  sound = λ object inside. Base inside;
  closed = λ place d object before. absurd (omega arith);
}

module _ (edges out : List Edge) (start : List Id) (set new : BTreeSet Id) (order found : List Id) (next : ℕ) (dir : Id)
    (within : next < length order) (here : dir ≡ get_or order next dir)
    (out_of_dir : (edge : Edge) → Contains out edge ↔ (Contains edges edge × (edge.dir ≡ dir)))
    (gains : Gains order found (λ gained. (from : Id) × Edges out from gained)) where
  reached_by : IsFollowing edges start set order next → (object : Id) → Contains found object →
      IsReached (Edges edges) (Contains start) object
  reached_by following object inside =
      elim ((gains.objects object).0 inside) [
        | inl earlier ↦ following.sound object earlier
        | inr gained ↦
            let edge = (out_of_dir (record { dir = gained.0; target = object })).0 gained.1 in
            let leads : Edges edges dir object = subst (λ d. Edges edges d object) edge.1 edge.0 in
            Through (following.sound dir (next, within, sym here)) leads
      ]

  -- the places in front of the next one stay as they are
  at_place : (place : ℕ) (d : Id) → place < length order → get_or found place d ≡ get_or order place d
  at_place place d before = ap (λ l. get_or l place d) gains.appended ∙ get_or_append_left order gains.more d place before

  closed_by : IsFollowing edges start set order next → (place : ℕ) (d object : Id) →
      place < next + 1 → place < length found → Edges edges (get_or found place d) object → Contains found object
  closed_by following place d object before inside leads =
      let from : Edges edges (get_or order place d) object = subst (λ o. Edges edges o object) (at_place place d (omega arith)) leads in
      elim (cases_eq place next) [
        | inl same ↦
            let is_dir : get_or order place d ≡ dir = ap (λ k. get_or order k d) same ∙ get_or_default order next d dir within ∙ sym here in
            (gains.objects object).1 (inr (dir, (out_of_dir (record { dir = dir; target = object })).1 (subst (λ o. Edges edges o object) is_dir from, refl)))
        | inr other ↦ (gains.objects object).1 (inl (following.closed place d object (omega arith) (omega arith) from))
      ]

  -- one more place
  pub following_more : IsTracked new found → IsFollowing edges start set order next →
      IsFollowing edges start new found (next + 1)
  following_more tracked following = record {
    tracked = tracked;
    begins = λ object inside. (gains.objects object).1 (inl (following.begins object inside));
    sound = reached_by following;
    closed = closed_by following;
  }

-- every object to which the search can come
abbrev pub within_reach : List Id → List Edge → List Id
within_reach start edges = start ++ map (λ edge. edge.target) edges

target_inside : (edges : List Edge) (dir object : Id) → Edges edges dir object →
    Contains (map (λ edge. edge.target) edges) object
target_inside edges dir object (place, within, is) = (
  place,
  omega (arith, length-map edges (λ (edge : Edge). edge.target)),
  get_or-map (λ (edge : Edge). edge.target) edges place (record { dir = dir; target = object }) ∙
      ap (λ edge. edge.target) is,
)

inside_reach : (edges : List Edge) (start : List Id) (object : Id) → IsReached (Edges edges) (Contains start) object →
    Contains (within_reach start edges) object
inside_reach edges start object (Base begins) = Contains-append_left start (map (λ edge. edge.target) edges) object begins
inside_reach edges start object (Through {dir} reached leads) =
    Contains-append_right start (map (λ edge. edge.target) edges) object (target_inside edges dir object leads)

-- so there are no more than these
pub found_fit : {edges : List Edge} {start : List Id} {set : BTreeSet Id} (order : List Id) {next : ℕ} →
    IsFollowing edges start set order next → length order ≤ length start + length edges
found_fit {edges} {start} {set} order following =
    let keys = set.keys in
    let laws = eq_by_cmp_equiv id_cmp_total in
    let apart = IsDistinct-from_sorted id_cmp keys following.tracked.ordered in
    let few = length-le_from_is_member laws keys (within_reach start edges) apart (λ object inside.
    list_any-from_Contains laws object (within_reach start edges)
    (inside_reach edges start object (following.sound object ((following.tracked.same object).0 inside)))) in
    omega (arith, few, following.tracked.count, length-append start (map (λ (edge : Edge). edge.target) edges), length-map edges (λ (edge : Edge). edge.target))

complete : {edges : List Edge} {start : List Id} {set : BTreeSet Id} (order : List Id) {next : ℕ} →
    IsFollowing edges start set order next → length order ≤ next →
    (object : Id) → IsReached (Edges edges) (Contains start) object → Contains order object
complete order following past object (Base begins) = following.begins object begins
complete {edges} order following past object (Through {dir} reached leads) =
    let inside = complete order following past dir reached in
    following.closed inside.0 dir object (omega (arith, inside.1)) inside.1 (subst (λ o. Edges edges o object) (sym inside.2) leads)

-- at the end exactly what is reached was found
pub followed : {edges : List Edge} {start : List Id} {set : BTreeSet Id} (order : List Id) {next : ℕ} →
    IsFollowing edges start set order next → length order ≤ next →
    (object : Id) → Contains order object ↔ IsReached (Edges edges) (Contains start) object
followed order following past object = (following.sound object, complete order following past object)

-- from nothing, along the edges of the entries
pub reached_along : (entries : List Entry) (edges : List Edge) (from nothing start order : List Id) → nothing ≡ [] →
    Gains nothing start (Contains from) → ((dir object : Id) → Edges edges dir object ↔ LeadsIn entries dir object) →
    ((object : Id) → Contains order object ↔ IsReached (Edges edges) (Contains start) object) →
    (object : Id) → Contains order object ↔ IsReached (LeadsIn entries) (Contains from) object
reached_along entries edges from nothing start order empty gains known reached object =
    let started : (o : Id) → Contains start o → Contains from o = λ o inside. elim ((gains.objects o).0 inside) [
      | inl before ↦ absurd (omega (arith, before.1, ap length empty))
      | inr is ↦ is
    ] in (
      λ inside. IsReached-along (λ dir target. (known dir target).0) started ((reached object).0 inside),
      λ is. (reached object).1 (IsReached-along (λ dir target. (known dir target).1) (λ o inside. (gains.objects o).1 (inr inside)) is),
    )
