-- A list of bindings in order, each shown as it should be, is a listing.
use Rattle.std.specs.Prelude.{◌≡◌, ◌↔◌, ℕ, ◌+◌, ◌<◌, false, List, [], ◌∷◌, ◌++◌, length, map, take, All, slice_get, Some, IsTrue}
use Rattle.std.specs.declared.cmp.Ordering.TheVariants.{Less}
use Rattle.std.specs.List.Sorted.{IsStrictlySortedBy}
use Rattle.std.proofs.Common.{arith, get_or, refl, sym, ap, ◌∙◌, subst}
use Rattle.std.proofs.Math.ListN.{get_or-map, length-map}
use Rattle.std.proofs.lemmas.List.{take_more, map-append}
use Rattle.std.proofs.lemmas.List.Elements.{All-nil, All-push, Contains-get_or}
use Rattle.std.proofs.lemmas.Map.Keys.{Less-from_sorted}
use Rattle.std.proofs.lemmas.Option.{get_or_from_slice_get, slice_get_within}
use Rattle.ficus_ids.specs.declared.id.Id.{Id}
use Rattle.ficus_model.specs.ShownNames.{HasOther, IsShownAs}
use Rattle.ficus_names.specs.Binding.{Binds, binding_cmp}
use Rattle.ficus_names.specs.Listing.{shown_cmp, Shows, IsListing}
use Rattle.ficus_names.specs.declared.binding.Binding.{Binding}
use Rattle.ficus_names.specs.declared.listing.ShownName.{ShownName}

-- the name and the object that an item shows
abbrev pub binding_of : ShownName → Binding
binding_of item = record { name = item.name; target = item.target }

module _ (items : List ShownName) where
  shows : (name : List ℕ) (target : Id) → Binds (map binding_of items) name target → Shows items name target
  shows name target bound =
      let d : ShownName = record { name = name; target = target; suffixed = false } in
      let place = bound.0 in
      let within : place < length items = omega (arith, bound.1, length-map items binding_of) in
      let item : ShownName = get_or items place d in
      let is = sym (get_or-map binding_of items place d) ∙ bound.2 in
      record {
        item = item;
        inside = Contains-get_or items place d within;
        named = ap (λ b. b.name) is;
        leads = ap (λ b. b.target) is;
      }

  rises : IsStrictlySortedBy binding_cmp (map binding_of items) → (one other : ℕ) (d : ShownName) →
      one < other → other < length items → shown_cmp (get_or items one d) (get_or items other d) ≡ Less
  rises rising one other d before within =
      let less = Less-from_sorted binding_cmp (map binding_of items) one other (binding_of d) rising before (omega (arith, length-map items binding_of)) in
      rw (get_or-map binding_of items one d, get_or-map binding_of items other d) at less

  listing_of : IsStrictlySortedBy binding_cmp (map binding_of items) →
      All (λ item. IsShownAs (Binds (map binding_of items)) item.name item.target item.suffixed) items →
      IsListing (Binds (map binding_of items)) items
  listing_of rising right = record { shown = right; complete = shows; rising = rises rising }

pub listing : (bindings : List Binding) (items : List ShownName) → map binding_of items ≡ bindings →
    IsStrictlySortedBy binding_cmp bindings →
    All (λ item. IsShownAs (Binds bindings) item.name item.target item.suffixed) items →
    IsListing (Binds bindings) items
listing bindings items same rising right =
    let IsAll : List Binding → Type 0 = λ bs. All (λ item. IsShownAs (Binds bs) item.name item.target item.suffixed) items in
    subst (λ bs. IsListing (Binds bs) items) same (listing_of items (subst (IsStrictlySortedBy binding_cmp) (sym same) rising) (subst IsAll (sym same) right))

-- the items so far show the bindings so far, each as it should be
pub record IsListedUpTo (bindings : List Binding) (index : ℕ) (items : List ShownName) : Type 0 where
  pub same : map binding_of items ≡ take index bindings
  pub right : All (λ item. IsShownAs (Binds bindings) item.name item.target item.suffixed) items

pub listed_none : (bindings : List Binding) → IsListedUpTo bindings 0 []
listed_none bindings = record { same = refl; right = All-nil (λ item. IsShownAs (Binds bindings) item.name item.target item.suffixed) }

pub listed_more : (bindings : List Binding) (index : ℕ) (items : List ShownName) (item : ShownName) →
    slice_get bindings index ≡ Some (binding_of item) →
    (IsTrue item.suffixed ↔ HasOther (Binds bindings) item.name item.target) → IsListedUpTo bindings index items →
    IsListedUpTo bindings (index + 1) (items ++ item ∷ [])
listed_more bindings index items item at several listed =
    let within = slice_get_within bindings index (binding_of item) at in
    let here = get_or_from_slice_get bindings index (binding_of item) (binding_of item) at in
    let taken : take (index + 1) bindings ≡ take index bindings ++ binding_of item ∷ [] =
    take_more bindings index (binding_of item) within ∙ ap (λ b. take index bindings ++ b ∷ []) here in
    let shown : IsShownAs (Binds bindings) item.name item.target item.suffixed = record { bound = (index, within, here); several = several } in
    record {
      same = map-append binding_of items (item ∷ []) ∙ ap (λ bs. bs ++ binding_of item ∷ []) listed.same ∙ sym taken;
      right = All-push (λ i. IsShownAs (Binds bindings) i.name i.target i.suffixed) items item listed.right shown;
    }
