-- Where the live entries in front of a place lead, as the place goes on.
use Rattle.std.specs.Prelude.{◌≡◌, ◌⊎◌, ◌↔◌, ℕ, ◌+◌, List, [], ◌∷◌, ◌++◌, take, Contains, Some, slice_get}
use Rattle.std.proofs.Common.{arith, refl, sym, ap, ◌∙◌, subst, inl, inr}
use Rattle.std.proofs.lemmas.List.Elements.{Contains-append_left, Contains-push, Contains-push_cases}
use Rattle.std.proofs.lemmas.Option.{get_or_from_slice_get, slice_get_within}
use Rattle.ficus_ids.specs.declared.id.Id.{Id}
use Rattle.ficus_entry.specs.declared.entry.Entry.{Entry}
use Rattle.ficus_entry.specs.declared.entry.State.TheVariants.{Live}
use Rattle.ficus_reach.proofs.Taken.{Contains-take_more}
use Rattle.ficus_reach.specs.Leads.{LeadsIn}
use Rattle.ficus_reach.specs.Edge.{Edges}
use Rattle.ficus_reach.specs.declared.edge.Edge.{Edge}

leads_in : {xs : List Entry} {dir object : Id} (known : LeadsIn xs dir object) (ys : List Entry) →
    Contains ys known.entry → LeadsIn ys dir object
leads_in known ys inside = record {
  entry = known.entry;
  inside = inside;
  live = known.live;
  in_dir = known.in_dir;
  leads = known.leads;
}

pub leads_none : (entries : List Entry) (dir object : Id) → LeadsIn (take 0 entries) dir object → ⊥
leads_none entries dir object known = absurd (omega (arith, known.inside.1))

-- the edges are those of the live entries in front of the place
abbrev pub AreEdges : List Edge → List Entry → ℕ → Type 0
AreEdges edges entries index = (dir object : Id) → Edges edges dir object ↔ LeadsIn (take index entries) dir object

module _ (entries : List Entry) (index : ℕ) (entry : Entry) (at : slice_get entries index ≡ Some entry) where
  more : (other : Entry) → Contains (take (index + 1) entries) other ↔
      (Contains (take index entries) other ⊎ (other ≡ entry))
  more = subst (λ e. (other : Entry) → Contains (take (index + 1) entries) other ↔ (Contains (take index entries) other ⊎ (other ≡ e)))
      (get_or_from_slice_get entries index entry entry at) (Contains-take_more entries index entry (slice_get_within entries index entry at))

  leads_before : {dir object : Id} → LeadsIn (take index entries) dir object →
      LeadsIn (take (index + 1) entries) dir object
  leads_before known = leads_in known _ ((more known.entry).1 (inl known.inside))

  leads_cases : {dir object : Id} → LeadsIn (take (index + 1) entries) dir object →
      LeadsIn (take index entries) dir object ⊎ ((entry.state ≡ Live) × (entry.dir ≡ dir) × (entry.target ≡ object))
  leads_cases {dir} {object} known =
      elim ((more known.entry).0 known.inside)
      as (λ _. LeadsIn (take index entries) dir object ⊎
      ((entry.state ≡ Live) × (entry.dir ≡ dir) × (entry.target ≡ object))) [
        | inl before ↦ inl (leads_in known _ before)
        | inr here ↦ inr (ap (λ e. e.state) (sym here) ∙ known.live, ap (λ e. e.dir) (sym here) ∙ known.in_dir, ap (λ e. e.target) (sym here) ∙ known.leads)
      ]

  -- a live entry has an edge
  pub edges_push : (edges : List Edge) → entry.state ≡ Live → AreEdges edges entries index →
      AreEdges (edges ++ record { dir = entry.dir; target = entry.target } ∷ []) entries (index + 1)
  edges_push edges live known dir object =
      let pushed : Edge = record { dir = entry.dir; target = entry.target } in (
        λ inside. elim (Contains-push_cases edges pushed (record { dir = dir; target = object }) inside) [
          | inl before ↦ leads_before ((known dir object).0 before)
          | inr same ↦ record { entry = entry; inside = (more entry).1 (inr refl); live = live; in_dir = ap (λ l. l.dir) same; leads = ap (λ l. l.target) same }
        ],
        λ leads. elim (leads_cases leads) [
          | inl before ↦ Contains-append_left edges (pushed ∷ []) (record { dir = dir; target = object }) ((known dir object).1 before)
          | inr here ↦
              let same : pushed ≡ record { dir = dir; target = object } = λ i. record { dir = here.1 i; target = here.2 i } in
              subst (Contains (edges ++ pushed ∷ [])) same (Contains-push edges pushed)
        ],
      )

  -- a dead one has none
  pub edges_stay : (edges : List Edge) → (entry.state ≡ Live → ⊥) → AreEdges edges entries index →
      AreEdges edges entries (index + 1)
  edges_stay edges dead known dir object = (
    λ inside. leads_before ((known dir object).0 inside),
    λ leads. elim (leads_cases leads) [
      | inl before ↦ (known dir object).1 before
      | inr here ↦ absurd (dead here.0)
    ],
  )
