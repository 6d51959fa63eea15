-- The identifiers that entries name or lie in.
use Rattle.std.specs.Prelude.{◌≡◌, ◌⊎◌, ◌↔◌, List, [], ◌∷◌, Contains}
use Rattle.std.proofs.Common.{refl, sym, subst, inl, inr}
use Rattle.std.proofs.lemmas.List.Elements.{Contains-append_left, Contains-append_right, Contains-append_cases}
use Rattle.ficus_ids.specs.ListLaws.{here, there, here_or_there, not_inside_none}
use Rattle.ficus_ids.specs.declared.id.Id.{Id}
use Rattle.ficus_entry.specs.declared.entry.Entry.{Entry}
use Rattle.ficus_mentions.specs.Touched.{touched_by}

-- some entry of the list leads to the object or lies in it
pub record HasTouching (entries : List Entry) (object : Id) : Type 0 where
  pub entry : Entry
  pub inside : Contains entries entry
  pub touches : (entry.target ≡ object) ⊎ (entry.dir ≡ object)

abbrev ends_of : Entry → List Id
ends_of entry = entry.target ∷ entry.dir ∷ []

of_ends : (entry : Entry) (object : Id) → Contains (ends_of entry) object →
    (entry.target ≡ object) ⊎ (entry.dir ≡ object)
of_ends entry object inside = elim (here_or_there entry.target object (entry.dir ∷ []) inside) [
  | inl target ↦ inl (sym target)
  | inr later ↦ elim (here_or_there entry.dir object [] later) [
    | inl dir ↦ inr (sym dir)
    | inr none ↦ absurd (not_inside_none object none)
  ]
]

into_ends : (entry : Entry) (object : Id) → (entry.target ≡ object) ⊎ (entry.dir ≡ object) →
    Contains (ends_of entry) object
into_ends entry object (inl target) = subst (Contains (ends_of entry)) target (here entry.target (entry.dir ∷ []))
into_ends entry object (inr dir) =
    subst (Contains (ends_of entry)) dir (there entry.target entry.dir (entry.dir ∷ []) (here entry.dir []))

from_touched : (entries : List Entry) (object : Id) → Contains (touched_by entries) object → HasTouching entries object
from_touched [] object inside = absurd (not_inside_none object inside)
from_touched (first ∷ later) object inside =
    elim (Contains-append_cases (ends_of first) (touched_by later) object inside) [
      | inl ends ↦ record { entry = first; inside = here first later; touches = of_ends first object ends }
      | inr behind ↦
          let rest = from_touched later object behind in
          record { entry = rest.entry; inside = there first rest.entry later rest.inside; touches = rest.touches }
    ]

touches_some : (entries : List Entry) (entry : Entry) (object : Id) → Contains entries entry →
    (entry.target ≡ object) ⊎ (entry.dir ≡ object) → Contains (touched_by entries) object
touches_some [] entry object inside touches = absurd (not_inside_none entry inside)
touches_some (first ∷ later) entry object inside touches =
    elim (here_or_there first entry later inside) [
      | inl is ↦
          let P : Entry → Type 0 = λ e. (e.target ≡ object) ⊎ (e.dir ≡ object) in
          Contains-append_left (ends_of first) (touched_by later) object (into_ends first object (subst P is touches))
      | inr behind ↦
          Contains-append_right (ends_of first) (touched_by later) object (touches_some later entry object behind touches)
    ]

-- an identifier is one that the entries name or lie in exactly where some entry does
pub touched_is : (entries : List Entry) (object : Id) →
    Contains (touched_by entries) object ↔ HasTouching entries object
touched_is entries object =
    (from_touched entries object, λ some. touches_some entries some.entry object some.inside some.touches)

pub target_touched : (entries : List Entry) (entry : Entry) → Contains entries entry →
    Contains (touched_by entries) entry.target
target_touched entries entry inside = touches_some entries entry entry.target inside (inl refl)

pub dir_touched : (entries : List Entry) (entry : Entry) → Contains entries entry →
    Contains (touched_by entries) entry.dir
dir_touched entries entry inside = touches_some entries entry entry.dir inside (inr refl)
