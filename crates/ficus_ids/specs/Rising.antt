-- Lists of items with identifiers, whatever the items are.
use Rattle.std.specs.Prelude.{◌≡◌, ◌≢◌, ◌⊎◌, ◌↔◌, ℕ, ◌≤◌, ◌<◌, List, length, Option, Some, None, AllPairs, Contains}
use Rattle.std.specs.List.{AllWithin, HoldsAt}
use Rattle.std.specs.Option.{option_or}
use Rattle.std.specs.declared.cmp.Ordering.TheVariants.{Less}
use Rattle.ficus_ids.specs.declared.id.Id.{Id}
use Rattle.ficus_ids.specs.Id.{id_cmp}

-- the identifiers rise strictly: each is below those of all later items
pub record IsRisingBy {X : Type 0} (id_of : X → Id) (items : List X) : Type 0 where
  pub each : AllPairs (λ a b. id_cmp (id_of a) (id_of b) ≡ Less) items

-- some item has the identifier
pub record HoldsBy {X : Type 0} (id_of : X → Id) (items : List X) (id : Id) : Type 0 where
  pub item : X
  pub inside : Contains items item
  pub has_id : id_of item ≡ id

-- what the list holds under the identifier: an item, or nothing
abbrev pub HoldsUnderBy : {X : Type 0} → (X → Id) → List X → Id → Option X → Type 0
HoldsUnderBy id_of items id None = HoldsBy id_of items id → ⊥
HoldsUnderBy id_of items id (Some item) = Contains items item × (id_of item ≡ id)

-- a new item with the identifier goes in front of the item at this index: behind all smaller identifiers
pub record IsPlaceBy {X : Type 0} (id_of : X → Id) (items : List X) (id : Id) (index : ℕ) : Type 0 where
  pub within : index ≤ length items
  pub above : AllWithin (λ item. id_cmp (id_of item) id ≡ Less) items 0 index
  pub below : AllWithin (λ item. id_cmp id (id_of item) ≡ Less) items index (length items)

-- the item at this index has the identifier
abbrev pub IsFoundAtBy : {X : Type 0} → (X → Id) → List X → Id → ℕ → Type 0
IsFoundAtBy id_of items id index = (index < length items) × HoldsAt (λ item. id_of item ≡ id) items index

-- the new list holds the old items and this one
abbrev pub Adds : {X : Type 0} → List X → List X → X → Type 0
Adds old new item = (other : _) → Contains new other ↔ (Contains old other ⊎ (other ≡ item))

-- the new list holds this item, and those old ones that have other identifiers
abbrev pub PutsBy : {X : Type 0} → (X → Id) → List X → List X → X → Type 0
PutsBy id_of old new item =
    (other : _) → Contains new other ↔ ((Contains old other × (id_of other ≢ id_of item)) ⊎ (other ≡ item))

-- under each identifier the new list holds the other item, or where there is none what the old list holds
pub record ReplacesBy {X : Type 0} (id_of : X → Id) (old others new : List X) : Type 0 where
  pub each : (id : Id) (was other is : Option X) → HoldsUnderBy id_of old id was → HoldsUnderBy id_of others id other →
      HoldsUnderBy id_of new id is → is ≡ option_or other was

-- the new list holds the old items that have none of these identifiers
abbrev pub LeavesOutBy : {X : Type 0} → (X → Id) → List X → List Id → List X → Type 0
LeavesOutBy id_of old ids new =
    (item : _) → Contains new item ↔ (Contains old item × (Contains ids (id_of item) → ⊥))
