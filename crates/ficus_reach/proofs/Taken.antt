-- What stands in front of a place, as the place goes on.
use Rattle.std.specs.Prelude.{◌≡◌, ◌⊎◌, ◌↔◌, ℕ, ◌+◌, ◌<◌, List, [], ◌∷◌, ◌++◌, length, take, Contains}
use Rattle.std.proofs.Common.{get_or, sym, ap, subst, inl, inr}
use Rattle.std.proofs.lemmas.List.{take_more}
use Rattle.std.proofs.lemmas.List.Elements.{Contains-append_left, Contains-push, Contains-push_cases}
use Rattle.ficus_ids.specs.declared.id.Id.{Id}
use Rattle.ficus_reach.specs.Edge.{Edges}
use Rattle.ficus_reach.specs.declared.edge.Edge.{Edge}

module _ {X : Type 0} (xs : List X) (index : ℕ) (d : X) (within : index < length xs) where
  before_or_here : (x : X) → Contains (take (index + 1) xs) x → Contains (take index xs) x ⊎ (x ≡ get_or xs index d)
  before_or_here x inside =
      elim (Contains-push_cases (take index xs) (get_or xs index d) x (subst (λ l. Contains l x) (take_more xs index d within) inside)) [
        | inl before ↦ inl before
        | inr here ↦ inr (sym here)
      ]

  taken : (x : X) → Contains (take index xs) x ⊎ (x ≡ get_or xs index d) → Contains (take (index + 1) xs) x
  taken x (inl before) =
      subst (λ l. Contains l x) (sym (take_more xs index d within)) (Contains-append_left (take index xs) (get_or xs index d ∷ []) x before)
  taken x (inr here) =
      let pushed = subst (Contains (take index xs ++ get_or xs index d ∷ [])) (sym here) (Contains-push (take index xs) (get_or xs index d)) in
      subst (λ l. Contains l x) (sym (take_more xs index d within)) pushed

  pub Contains-take_more : (x : X) →
      Contains (take (index + 1) xs) x ↔ (Contains (take index xs) x ⊎ (x ≡ get_or xs index d))
  Contains-take_more x = (before_or_here x, taken x)

-- an edge of the list leads to the object
abbrev pub IsTarget : List Edge → Id → Type 0
IsTarget edges object = (dir : Id) × Edges edges dir object

module _ (edges : List Edge) (index : ℕ) (d : Edge) (within : index < length edges) where
  pub IsTarget-take_more : (object : Id) →
      IsTarget (take (index + 1) edges) object ↔
      (IsTarget (take index edges) object ⊎ (object ≡ (get_or edges index d).target))
  IsTarget-take_more object = (
    λ is. elim ((Contains-take_more edges index d within (record { dir = is.0; target = object })).0 is.1) [
      | inl before ↦ inl (is.0, before)
      | inr here ↦ inr (ap (λ l. l.target) here)
    ],
    λ either. elim either [
      | inl before ↦ (before.0, (Contains-take_more edges index d within (record { dir = before.0; target = object })).1 (inl before.1))
      | inr here ↦
          let edge : Edge = get_or edges index d in
          let same : record { dir = edge.dir; target = object } ≡ edge = λ i. record { dir = edge.dir; target = here i } in
          (edge.dir, (Contains-take_more edges index d within (record { dir = edge.dir; target = object })).1 (inr same))
    ],
  )
