-- Where live entries lead, from their names in their directories.
use Rattle.std.specs.Prelude.{◌≡◌, ◌⊎◌, ◌↔◌, ℕ, ◌+◌, ◌-◌, ◌<◌, ◌≤◌, List, [], ◌∷◌, ◌++◌, length, take, slice_get, Some, Contains}
use Rattle.std.specs.List.{HoldsAt}
use Rattle.std.specs.List.Sorted.{IsStrictlySortedBy}
use Rattle.std.proofs.Common.{arith, get_or, sym, ap, ◌∙◌, subst, inl, inr}
use Rattle.std.proofs.lemmas.Bool.{cases_order, cases_lt}
use Rattle.std.proofs.lemmas.List.{get_or_default}
use Rattle.std.proofs.lemmas.List.Elements.{Contains-append_left, Contains-push, Contains-push_cases, Contains-get_or}
use Rattle.std.proofs.lemmas.Cmp.{tied_itself}
use Rattle.std.proofs.lemmas.Map.Keys.{Less-from_sorted}
use Rattle.std.specs.declared.cmp.Ordering.TheVariants.{Less}
use Rattle.ficus_ids.specs.ListLaws.{same_rising}
use Rattle.ficus_ids.specs.declared.id.Id.{Id}
use Rattle.ficus_entry.specs.declared.entry.Entry.{Entry}
use Rattle.ficus_entry.specs.declared.entry.State.TheVariants.{Live}
use Rattle.ficus_names.specs.Binds.{BindsIn}
use Rattle.ficus_names.specs.Clash.{LeadsFrom, lead_cmp}
use Rattle.ficus_names.specs.Find.{LeadsToSeveral}
use Rattle.ficus_names.specs.declared.clash.Lead.{Lead}
use Rattle.ficus_names.specs.declared.clash.NameClash.{NameClash}
use Rattle.ficus_names.proofs.Keyed.{items_differ, next_has_key}
use Rattle.ficus_names.proofs.Known.{bound_before, bound_here, bound_cases}
use Rattle.ficus_names.proofs.Order.{lead_cmp_total, same_place_between}

-- the leads are those of the live entries in front of the place
abbrev pub AreLeads : List Lead → List Entry → ℕ → Type 0
AreLeads leads entries index =
    (dir target : Id) (name : List ℕ) → LeadsFrom leads dir name target ↔ BindsIn (take index entries) dir name target

-- where an entry leads
abbrev pub lead_of : Entry → Lead
lead_of entry = record { place = record { dir = entry.dir; name = entry.name }; target = entry.target }

module _ (entries : List Entry) (index : ℕ) (entry : Entry) (at : slice_get entries index ≡ Some entry)
    (leads : List Lead) (are : AreLeads leads entries index) where
  pub leads_push : entry.state ≡ Live → AreLeads (leads ++ lead_of entry ∷ []) entries (index + 1)
  leads_push live dir target name =
      let lead : Lead = record { place = record { dir = dir; name = name }; target = target } in (
        λ inside. elim (Contains-push_cases leads (lead_of entry) lead inside) [
          | inl before ↦ bound_before entries index entry at ((are dir target name).0 before)
          | inr same ↦ bound_here entries index entry at (record {
            live = live;
            in_dir = ap (λ (l : Lead). l.place.dir) same;
            named = ap (λ (l : Lead). l.place.name) same;
            leads = ap (λ (l : Lead). l.target) same;
          })
        ],
        λ bound. elim (bound_cases entries index entry at bound) [
          | inl before ↦ Contains-append_left leads (lead_of entry ∷ []) lead ((are dir target name).1 before)
          | inr is ↦
              let same : lead_of entry ≡ lead =
              λ i. record { place = record { dir = is.in_dir i; name = is.named i }; target = is.leads i } in
              subst (Contains (leads ++ lead_of entry ∷ [])) same (Contains-push leads (lead_of entry))
        ],
      )

  pub leads_stay : (entry.state ≡ Live → ⊥) → AreLeads leads entries (index + 1)
  leads_stay dead dir target name = (
    λ inside. bound_before entries index entry at ((are dir target name).0 inside),
    λ bound. elim (bound_cases entries index entry at bound) [
      | inl before ↦ (are dir target name).1 before
      | inr is ↦ absurd (dead is.live)
    ],
  )

-- the same leads in another list
pub lead_bound : (entries : List Entry) (leads once : List Lead) →
    ((lead : Lead) → Contains once lead ↔ Contains leads lead) →
    ((dir target : Id) (name : List ℕ) → LeadsFrom leads dir name target ↔ BindsIn entries dir name target) →
    (dir : Id) (name : List ℕ) (target : Id) → LeadsFrom once dir name target ↔ BindsIn entries dir name target
lead_bound entries leads once same are dir name target =
    let either = same (record { place = record { dir = dir; name = name }; target = target }) in
    let bound = are dir target name in
    (λ inside. bound.0 (either.0 inside), λ is. either.1 (bound.1 is))

-- two lists of leads, each in order and once, are the same exactly where they have the same ones
pub same_leads : (leads others : List Lead) → IsStrictlySortedBy lead_cmp leads → IsStrictlySortedBy lead_cmp others →
    (leads ≡ others) ↔ ((dir : Id) (name : List ℕ) (target : Id) →
    LeadsFrom leads dir name target ↔ LeadsFrom others dir name target)
same_leads leads others rising also = (
  λ same dir name target. rw same (λ inside. inside, λ inside. inside),
  λ same. same_rising (λ a b. lead_cmp a b ≡ Less) (λ lead below. cc (below, tied_itself lead_cmp_total lead))
      lead_cmp_total.trans leads others
      (λ i j d before within. Less-from_sorted lead_cmp leads i j d rising before within)
      (λ i j d before within. Less-from_sorted lead_cmp others i j d also before within)
      (λ lead. (same lead.place.dir lead.place.name lead.target).0)
      (λ lead. (same lead.place.dir lead.place.name lead.target).1),
)

-- below the index two neighbours lead from the place
pub record HasNeighbours (leads : List Lead) (index : ℕ) (place : NameClash) : Type 0 where
  pub at : ℕ
  pub behind : 0 < at
  pub before : at < index
  pub within : at < length leads
  pub here : HoldsAt (λ lead. lead.place ≡ place) leads at
  pub previous : HoldsAt (λ lead. lead.place ≡ place) leads (at - 1)

-- they lead so below any index that is above them
neighbours_below : {leads : List Lead} {index : ℕ} {place : NameClash} (has : HasNeighbours leads index place)
    (other : ℕ) → has.at < other → HasNeighbours leads other place
neighbours_below has other before = record {
  at = has.at;
  behind = has.behind;
  before = before;
  within = has.within;
  here = has.here;
  previous = has.previous;
}

-- the places so far are those from which neighbours below the index lead
abbrev pub ArePlaces : List Lead → ℕ → List NameClash → Type 0
ArePlaces leads index places = (place : NameClash) → Contains places place ↔ HasNeighbours leads index place

module _ (leads : List Lead) where
  pub places_none : ArePlaces leads 1 []
  places_none place = (
    λ inside. absurd (omega (arith, inside.1)),
    λ has. absurd (omega (arith, has.behind, has.before)),
  )

  module _ (index : ℕ) (places : List NameClash) (are : ArePlaces leads index places) where
    later : {place : NameClash} → HasNeighbours leads index place → HasNeighbours leads (index + 1) place
    later has = neighbours_below has (index + 1) (omega (arith, has.before))

    earlier_or_here : {place : NameClash} (has : HasNeighbours leads (index + 1) place) →
        HasNeighbours leads index place ⊎ (has.at ≡ index)
    earlier_or_here has =
        elim (cases_lt has.at index) [
          | inl before ↦ inl (neighbours_below has index before)
          | inr behind ↦ inr (omega (arith, has.before))
        ]

    pub places_push : (place : NameClash) → 0 < index → index < length leads →
        HoldsAt (λ lead. lead.place ≡ place) leads index → HoldsAt (λ lead. lead.place ≡ place) leads (index - 1) →
        ArePlaces leads (index + 1) (places ++ place ∷ [])
    places_push place positive within here previous other = (
      λ inside. elim (Contains-push_cases places place other inside) [
        | inl before ↦ later ((are other).0 before)
        | inr same ↦ subst (HasNeighbours leads (index + 1)) same (record {
          at = index;
          behind = positive;
          before = omega arith;
          within = within;
          here = here;
          previous = previous;
        })
      ],
      λ has. elim (earlier_or_here has) [
        | inl before ↦ Contains-append_left places (place ∷ []) other ((are other).1 before)
        | inr at ↦
            let d : Lead = record { place = place; target = record { replica = 0; number = 0 } } in
            let same : place ≡ other = sym (here d) ∙ ap (λ k. (get_or leads k d).place) (sym at) ∙ has.here d in
            subst (Contains (places ++ place ∷ [])) same (Contains-push places place)
      ],
    )

    pub places_stay : ((d : Lead) → (get_or leads (index - 1) d).place ≡ (get_or leads index d).place → ⊥) →
        ArePlaces leads (index + 1) places
    places_stay differ other = (
      λ inside. later ((are other).0 inside),
      λ has. elim (earlier_or_here has) [
        | inl before ↦ (are other).1 before
        | inr at ↦
            let d : Lead = record { place = other; target = record { replica = 0; number = 0 } } in
            absurd (differ d (ap (λ k. (get_or leads (k - 1) d).place) (sym at) ∙ has.previous d ∙ sym (has.here d)
            ∙ ap (λ k. (get_or leads k d).place) at))
      ],
    )

module _ (leads : List Lead) (rising : IsStrictlySortedBy lead_cmp leads) (place : NameClash) where
  lead_at : (k : ℕ) (d : Lead) → k < length leads → (get_or leads k d).place ≡ place →
      LeadsFrom leads place.dir place.name (get_or leads k d).target
  lead_at k d within is =
      subst (λ (p : NameClash). LeadsFrom leads p.dir p.name (get_or leads k d).target) is (Contains-get_or leads k d within)

  -- neighbours lead to different objects
  pub neighbours_differ : (index : ℕ) → HasNeighbours leads index place →
      LeadsToSeveral (LeadsFrom leads place.dir) place.name
  neighbours_differ index has =
      let d : Lead = record { place = place; target = record { replica = 0; number = 0 } } in
      let one : Lead = get_or leads (has.at - 1) d in
      let other : Lead = get_or leads has.at d in
      record {
        one = one.target;
        other = other.target;
        bound_one = lead_at (has.at - 1) d (omega (arith, has.within)) (has.previous d);
        bound_other = lead_at has.at d has.within (has.here d);
        differ = λ target.
            let from : one.place ≡ other.place = has.previous d ∙ sym (has.here d) in
            items_differ lead_cmp_total leads rising (has.at - 1) has.at d (omega (arith, has.behind)) has.within
            (λ i. record { place = from i; target = target i });
      }

  -- two that lead from one place have neighbours between them
  between : (one other : ℕ) → one < other → other < length leads → (d : Lead) →
      (get_or leads one d).place ≡ place → (get_or leads other d).place ≡ place →
      HasNeighbours leads (length leads) place
  between one other before within d is is_too =
      let next = next_has_key lead_cmp_total leads rising (λ (lead : Lead). lead.place) same_place_between one other d before within
      (is_too ∙ sym is) in
      record {
        at = one + 1;
        behind = omega arith;
        before = omega arith;
        within = omega arith;
        here = λ e. ap (λ (lead : Lead). lead.place) (get_or_default leads (one + 1) e d (omega arith)) ∙ next ∙ is;
        previous = λ e.
            let back : one + 1 - 1 ≡ one = omega arith in
            ap (λ k. (get_or leads k e).place) back ∙ ap (λ (lead : Lead). lead.place) (get_or_default leads one e d (omega arith)) ∙ is;
      }

  pub several_neighbours : LeadsToSeveral (LeadsFrom leads place.dir) place.name →
      HasNeighbours leads (length leads) place
  several_neighbours several =
      let d : Lead = record { place = place; target = several.one } in
      let one = several.bound_one in
      let other = several.bound_other in
      let e : Lead = record { place = place; target = several.other } in
      let at_one : get_or leads one.0 d ≡ d = one.2 in
      let at_other : get_or leads other.0 d ≡ e = get_or_default leads other.0 d e other.1 ∙ other.2 in
      let from_one : (get_or leads one.0 d).place ≡ place = ap (λ (lead : Lead). lead.place) at_one in
      let from_other : (get_or leads other.0 d).place ≡ place = ap (λ (lead : Lead). lead.place) at_other in
      elim (cases_order one.0 other.0) [
        | inl same ↦ absurd (several.differ (ap (λ (lead : Lead). lead.target)
            (sym at_one ∙ ap (λ k. get_or leads k d) same ∙ at_other)))
        | inr (inl before) ↦ between one.0 other.0 before other.1 d from_one from_other
        | inr (inr behind) ↦ between other.0 one.0 behind one.1 d from_other from_one
      ]

  pub places_all : (index : ℕ) (places : List NameClash) → length leads ≤ index → ArePlaces leads index places →
      Contains places place ↔ LeadsToSeveral (LeadsFrom leads place.dir) place.name
  places_all index places past are = (
    λ inside. neighbours_differ index ((are place).0 inside),
    λ several.
        let has = several_neighbours several in
        (are place).1 (neighbours_below has index (omega (arith, has.before))),
  )
