-- What is so of all items of a list, and of one that has changed.
use Rattle.std.specs.Prelude.{◌≡◌, ◌⊎◌, ◌↔◌, List, Option, Some, None, IfSome, All, Contains}
use Rattle.std.proofs.Common.{sym, subst, inl, inr}
use Rattle.std.proofs.lemmas.List.Elements.{All-contains, All-contains_itself, All-weaker}
use Rattle.ficus_ids.specs.Rising.{HoldsUnderBy}
use Rattle.ficus_ids.specs.declared.id.Id.{Id}

module _ {X : Type 0} (P : X → Type 0) where
  -- so it is of what the list holds under an identifier
  pub all_under : (id_of : X → Id) (items : List X) (id : Id) (found : Option X) → All P items →
      HoldsUnderBy id_of items id found → IfSome found P
  all_under id_of items id None all held = tt
  all_under id_of items id (Some item) all held = All-contains P items item all held.0

  -- and of all items of a list with one more of which it is so
  pub all_added : (old new : List X) (item : X) →
      ((other : X) → Contains new other ↔ (Contains old other ⊎ (other ≡ item))) → All P old → P item → All P new
  all_added old new item adds all one =
      All-weaker (Contains new) P (λ other inside. by_case other ((adds other).0 inside)) new (All-contains_itself new)
    where
      by_case : (other : X) → Contains old other ⊎ (other ≡ item) → P other
      by_case other (inl was) = All-contains P old other all was
      by_case other (inr is) = subst P (sym is) one

  -- and of all items of a list that has only items of another
  pub all_within : (whole part : List X) → ((x : X) → Contains part x → Contains whole x) → All P whole → All P part
  all_within whole part within all =
      All-weaker (Contains part) P (λ x inside. All-contains P whole x all (within x inside))
      part (All-contains_itself part)
