-- What a directory is shown as, over any way of saying which names lead to which objects.
use Rattle.std.specs.Prelude.{◌≡◌, ℕ, List, All, AllPairs, Contains}
use Rattle.std.specs.Cmp.Lexicographic.{slice_cmp}
use Rattle.std.specs.declared.cmp.Ordering.{Ordering}
use Rattle.std.specs.declared.cmp.Ordering.TheVariants.{Less}
use Rattle.std.specs.Ordering.{nat_cmp, ordering_then}
use Rattle.ficus_ids.specs.declared.id.Id.{Id}
use Rattle.ficus_ids.specs.Id.{id_cmp}
use Rattle.ficus_model.specs.ShownNames.{IsShownAs}
use Rattle.ficus_names.specs.declared.listing.ShownName.{ShownName}

-- which of two shown names comes first: by the bytes of the name, then by the object
abbrev pub shown_cmp : ShownName → ShownName → Ordering
shown_cmp a b = ordering_then (slice_cmp nat_cmp a.name b.name) (id_cmp a.target b.target)

-- one of the items shows the object under the name
pub record Shows (items : List ShownName) (name : List ℕ) (target : Id) : Type 0 where
  pub item : ShownName
  pub inside : Contains items item
  pub named : item.name ≡ name
  pub leads : item.target ≡ target

-- each item is shown as it should be, each bound pair is shown, and the items rise by name, then by object
pub record IsListing (binds : List ℕ → Id → Type 0) (items : List ShownName) : Type 0 where
  pub shown : All (λ item. IsShownAs binds item.name item.target item.suffixed) items
  pub complete : (name : List ℕ) (target : Id) → binds name target → Shows items name target
  pub rising : AllPairs (λ a b. shown_cmp a b ≡ Less) items
