-- What the live entries in front of a place bind, as the place goes on.
use Rattle.std.specs.Prelude.{◌≡◌, ◌⊎◌, ◌↔◌, ℕ, ◌+◌, List, [], ◌∷◌, ◌++◌, length, slice_get, take, drop, Contains, Some}
use Rattle.std.proofs.Common.{arith, sym, ap, ◌∙◌, subst, inl, inr, take_all}
use Rattle.std.proofs.lemmas.List.{take_more, take-append-drop}
use Rattle.std.proofs.lemmas.List.Elements.{Contains-append_left, Contains-push, Contains-push_cases}
use Rattle.std.proofs.lemmas.Option.{get_or_from_slice_get, slice_get_within}
use Rattle.ficus_ids.specs.declared.id.Id.{Id}
use Rattle.ficus_entry.specs.declared.entry.Entry.{Entry}
use Rattle.ficus_entry.specs.declared.entry.State.TheVariants.{Live}
use Rattle.ficus_names.specs.Binding.{Binds}
use Rattle.ficus_names.specs.Binds.{BindsIn}
use Rattle.ficus_names.specs.declared.binding.Binding.{Binding}

take_push : {X : Type 0} (xs : List X) (index : ℕ) (x : X) → slice_get xs index ≡ Some x →
    take (index + 1) xs ≡ take index xs ++ x ∷ []
take_push xs index x at =
    take_more xs index x (slice_get_within xs index x at) ∙ ap (λ y. take index xs ++ y ∷ []) (get_or_from_slice_get xs index x x at)

-- this entry is live, lies in the directory and leads from the name to the object
pub record IsBinding (entry : Entry) (dir : Id) (name : List ℕ) (target : Id) : Type 0 where
  pub live : entry.state ≡ Live
  pub in_dir : entry.dir ≡ dir
  pub named : entry.name ≡ name
  pub leads : entry.target ≡ target

-- the same entry in another list
bound_in : {xs : List Entry} {dir : Id} {name : List ℕ} {target : Id} (bound : BindsIn xs dir name target)
    (ys : List Entry) → Contains ys bound.entry → BindsIn ys dir name target
bound_in bound ys inside = record {
  entry = bound.entry;
  inside = inside;
  live = bound.live;
  in_dir = bound.in_dir;
  named = bound.named;
  leads = bound.leads;
}

pub none_bound : (entries : List Entry) (dir : Id) (name : List ℕ) (target : Id) →
    BindsIn (take 0 entries) dir name target → ⊥
none_bound entries dir name target bound = absurd (omega (arith, bound.inside.1))

-- what the entries in front of a place bind, all of them bind
pub bound_in_all : (entries : List Entry) (index : ℕ) {dir : Id} {name : List ℕ} {target : Id} →
    BindsIn (take index entries) dir name target → BindsIn entries dir name target
bound_in_all entries index bound =
    bound_in bound entries (subst (λ es. Contains es bound.entry) (take-append-drop index entries)
    (Contains-append_left (take index entries) (drop index entries) bound.entry bound.inside))

pub all_bound : (entries : List Entry) → take (length entries) entries ≡ entries
all_bound entries = take_all (length entries) entries (omega arith)

module _ (entries : List Entry) (index : ℕ) (entry : Entry) (at : slice_get entries index ≡ Some entry) where
  pub bound_before : {dir : Id} {name : List ℕ} {target : Id} → BindsIn (take index entries) dir name target →
      BindsIn (take (index + 1) entries) dir name target
  bound_before bound =
      bound_in bound _ (subst (λ es. Contains es bound.entry) (sym (take_push entries index entry at))
      (Contains-append_left (take index entries) (entry ∷ []) bound.entry bound.inside))

  pub bound_here : {dir : Id} {name : List ℕ} {target : Id} → IsBinding entry dir name target →
      BindsIn (take (index + 1) entries) dir name target
  bound_here binding = record {
    entry = entry;
    inside = subst (λ es. Contains es entry) (sym (take_push entries index entry at)) (Contains-push (take index entries) entry);
    live = binding.live;
    in_dir = binding.in_dir;
    named = binding.named;
    leads = binding.leads;
  }

  is_binding : {dir : Id} {name : List ℕ} {target : Id} (bound : BindsIn (take (index + 1) entries) dir name target) →
      entry ≡ bound.entry → IsBinding entry dir name target
  is_binding bound same = record {
    live = ap (λ e. e.state) same ∙ bound.live;
    in_dir = ap (λ e. e.dir) same ∙ bound.in_dir;
    named = ap (λ e. e.name) same ∙ bound.named;
    leads = ap (λ e. e.target) same ∙ bound.leads;
  }

  pub bound_cases : {dir : Id} {name : List ℕ} {target : Id} → BindsIn (take (index + 1) entries) dir name target →
      BindsIn (take index entries) dir name target ⊎ IsBinding entry dir name target
  bound_cases {dir} {name} {target} bound =
      let inside : Contains (take index entries ++ entry ∷ []) bound.entry =
      subst (λ es. Contains es bound.entry) (take_push entries index entry at) bound.inside in
      elim (Contains-push_cases (take index entries) entry bound.entry inside)
      as (λ _. BindsIn (take index entries) dir name target ⊎ IsBinding entry dir name target) [
        | inl before ↦ inl (bound_in bound _ before)
        | inr same ↦ inr (is_binding bound same)
      ]

  -- one more binding for one more live entry of the directory
  pub bindings_push : (bindings : List Binding) (dir : Id) → entry.state ≡ Live → entry.dir ≡ dir →
      ((name : List ℕ) (target : Id) → Binds bindings name target ↔ BindsIn (take index entries) dir name target) →
      (name : List ℕ) (target : Id) →
      Binds (bindings ++ record { name = entry.name; target = entry.target } ∷ []) name target ↔
      BindsIn (take (index + 1) entries) dir name target
  bindings_push bindings dir live in_dir means name target = (
    λ bound. elim (Contains-push_cases bindings (record { name = entry.name; target = entry.target }) (record { name = name; target = target }) bound) [
      | inl before ↦ bound_before ((means name target).0 before)
      | inr same ↦ bound_here (record { live = live; in_dir = in_dir; named = ap (λ b. b.name) same; leads = ap (λ b. b.target) same })
    ],
    λ bound. elim (bound_cases bound) [
      | inl before ↦ Contains-append_left bindings _ (record { name = name; target = target }) ((means name target).1 before)
      | inr here ↦
          let pushed : Binding = record { name = entry.name; target = entry.target } in
          let same : pushed ≡ record { name = name; target = target } = λ i. record { name = here.named i; target = here.leads i } in
          subst (Contains (bindings ++ pushed ∷ [])) same (Contains-push bindings pushed)
    ],
  )

  -- any other entry adds none
  pub bindings_stay : (bindings : List Binding) (dir : Id) → ((entry.state ≡ Live) × (entry.dir ≡ dir) → ⊥) →
      ((name : List ℕ) (target : Id) → Binds bindings name target ↔ BindsIn (take index entries) dir name target) →
      (name : List ℕ) (target : Id) → Binds bindings name target ↔ BindsIn (take (index + 1) entries) dir name target
  bindings_stay bindings dir other means name target = (
    λ bound. bound_before ((means name target).0 bound),
    λ bound. elim (bound_cases bound) [
      | inl before ↦ (means name target).1 before
      | inr here ↦ absurd (other (here.live, here.in_dir))
    ],
  )
