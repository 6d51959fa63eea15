-- What the live entries of a directory bind, one identifier after the other.
use Rattle.std.specs.Prelude.{◌≡◌, ◌↔◌, ℕ, List, [], ◌∷◌, ◌++◌, Contains}
use Rattle.std.proofs.Common.{sym, ap, ◌∙◌, subst, inl, inr}
use Rattle.std.proofs.lemmas.List.Elements.{Contains-append_left, Contains-push, Contains-push_cases}
use Rattle.ficus_ids.specs.declared.id.Id.{Id}
use Rattle.ficus_ids.specs.RisingLaws.{one_item}
use Rattle.ficus_entry.specs.declared.entry.Entry.{Entry}
use Rattle.ficus_entry.specs.Entry.{IsRising}
use Rattle.ficus_entry.specs.declared.entry.State.TheVariants.{Live}
use Rattle.ficus_names.specs.Binding.{Binds}
use Rattle.ficus_names.specs.Binds.{BindsIn, IsLiveIn}
use Rattle.ficus_names.specs.declared.binding.Binding.{Binding}

-- an entry with one of the identifiers is live in the directory, has the name and leads to the object
pub record BindsAmong (ids : List Id) (entries : List Entry) (dir : Id) (name : List ℕ) (target : Id) : Type 0 where
  pub bound : BindsIn entries dir name target
  pub among : Contains ids bound.entry.id

-- the bindings are those of the identifiers
abbrev pub AreAmong : List Binding → List Id → List Entry → Id → Type 0
AreAmong bindings ids entries dir = (name : List ℕ) (target : Id) → Binds bindings name target ↔ BindsAmong ids entries dir name target

module _ (entries : List Entry) (dir : Id) (bindings : List Binding) (ids : List Id) (id : Id) (known : AreAmong bindings ids entries dir) where
  earlier : {name : List ℕ} {target : Id} → Binds bindings name target →
      BindsAmong (ids ++ id ∷ []) entries dir name target
  earlier {name} {target} binds =
      let was = (known name target).0 binds in
      record { bound = was.bound; among = Contains-append_left ids (id ∷ []) was.bound.entry.id was.among }

  is_live : {name : List ℕ} {target : Id} (bound : BindsIn entries dir name target) → id ≡ bound.entry.id →
      IsLiveIn entries id dir bound.entry
  is_live bound same = record { inside = bound.inside; live = bound.live; in_dir = bound.in_dir; has_id = sym same }

  -- one more binding for one more live entry
  pub among_push : (entry : Entry) → IsRising entries → IsLiveIn entries id dir entry →
      AreAmong (bindings ++ record { name = entry.name; target = entry.target } ∷ []) (ids ++ id ∷ []) entries dir
  among_push entry rising is name target =
      let pushed : Binding = record { name = entry.name; target = entry.target } in (
        λ binds. elim (Contains-push_cases bindings pushed (record { name = name; target = target }) binds) [
          | inl before ↦ earlier before
          | inr same ↦ record {
            bound = record {
              entry = entry;
              inside = is.inside;
              live = is.live;
              in_dir = is.in_dir;
              named = ap (λ (b : Binding). b.name) same;
              leads = ap (λ (b : Binding). b.target) same;
            };
            among = subst (Contains (ids ++ id ∷ [])) (sym is.has_id) (Contains-push ids id);
          }
        ],
        λ binds. elim (Contains-push_cases ids id binds.bound.entry.id binds.among) [
          | inl before ↦ Contains-append_left bindings (pushed ∷ []) (record { name = name; target = target })
              ((known name target).1 (record { bound = binds.bound; among = before }))
          | inr same ↦
              let one = one_item (λ (e : Entry). e.id) entries entry binds.bound.entry rising is.inside binds.bound.inside (is.has_id ∙ same) in
              let named : entry.name ≡ name = ap (λ (e : Entry). e.name) one ∙ binds.bound.named in
              let leads : entry.target ≡ target = ap (λ (e : Entry). e.target) one ∙ binds.bound.leads in
              let binding : pushed ≡ record { name = name; target = target } = λ i. record { name = named i; target = leads i } in
              subst (Contains (bindings ++ pushed ∷ [])) binding (Contains-push bindings pushed)
        ],
      )

  -- an identifier without one adds none
  pub among_stay : ((entry : Entry) → IsLiveIn entries id dir entry → ⊥) →
      AreAmong bindings (ids ++ id ∷ []) entries dir
  among_stay none name target = (
    earlier,
    λ binds. elim (Contains-push_cases ids id binds.bound.entry.id binds.among) [
      | inl before ↦ (known name target).1 (record { bound = binds.bound; among = before })
      | inr same ↦ absurd (none binds.bound.entry (is_live binds.bound same))
    ],
  )

pub among_all : (entries : List Entry) (dir : Id) (bindings : List Binding) (ids : List Id) →
    ((entry : Entry) → Contains entries entry → entry.state ≡ Live → entry.dir ≡ dir → Contains ids entry.id) →
    AreAmong bindings ids entries dir → (name : List ℕ) (target : Id) →
    Binds bindings name target ↔ BindsIn entries dir name target
among_all entries dir bindings ids all known name target = (
  λ binds. ((known name target).0 binds).bound,
  λ bound. (known name target).1 (record {
    bound = bound;
    among = all bound.entry bound.inside bound.live bound.in_dir;
  }),
)
