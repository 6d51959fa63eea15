-- `tree`: the lines of all directories that are reached, one directory after the other.
use Rattle.std.proofs.Common.{◌≡◌, ◌↔◌, ℕ, ◌+◌, ◌<◌, ◌≤◌, List, [], ◌∷◌, ◌++◌, length, get_or, take, refl, sym, subst, ◌∙◌, inl, inr, arith}
use Rattle.std.specs.Prelude.{Contains}
use Rattle.std.specs.declared.cmp.Ordering.TheVariants.{Less}
use Rattle.std.proofs.lemmas.List.{take_all, take_more, length-take, get_or-take, get_or_default}
use Rattle.std.proofs.lemmas.List.Elements.{Contains-append_left, Contains-push, Contains-push_cases}
use Rattle.ficus_ids.specs.Id.{id_cmp}
use Rattle.ficus_ids.specs.Rising.{IsRisingBy}
use Rattle.ficus_ids.specs.ListLaws.{here, here_or_there, not_inside_none}
use Rattle.ficus_ids.specs.declared.id.Id.{Id}
use Rattle.ficus_ids.specs.declared.id.TheConstants.{ROOT}
use Rattle.ficus_model.specs.Reached.{IsReached}
use Rattle.ficus_names.specs.Listing.{IsListing}
use Rattle.ficus_names.specs.declared.listing.Line.{Line}
use Rattle.ficus_names.specs.declared.listing.ShownName.{ShownName}
use Rattle.ficus_reach.specs.Leads.{LeadsIn}
use Rattle.ficus_reach.specs.ReachedLaws.{IsReached-along}
use Rattle.ficus_durable_state.specs.declared.saved.Saved.{Saved}
use Rattle.ficus_rules.specs.Lines.{AreLines, AreLinesOf}
use Rattle.ficus_rules.specs.View.{View, IsBoundIn, LeadsWithin, IsReachedIn}
use Rattle.ficus_deciding.specs.View.{held_live, tables_view}
use Rattle.ficus_rules.proofs.Listings.{no_lines, lines_more, lines_along}
use Rattle.ficus_rules.proofs.Views.{same_itself}
use Rattle.ficus_rules.specs.Marks.{without_state}
use Rattle.ficus_deciding.proofs.Tables.{held_as_live}

module _ (view : View) where
  -- the lines of the first objects
  abbrev pub AreFirst : List Id → ℕ → List Line → Type 0
  AreFirst objects index lines = AreLines view (Contains (take index objects)) lines

  pub first_none : (objects : List Id) (lines : List Line) → lines ≡ [] → AreFirst objects 0 lines
  first_none objects lines none =
      let nothing : (dir : Id) → ⊥ ↔ Contains [] dir = λ dir. (λ no. absurd no, λ inside. not_inside_none dir inside) in
      rw none (lines_along (same_itself view) nothing (no_lines view))

  module _ (objects : List Id) (rising : IsRisingBy (λ id. id) objects)
      (index : ℕ) (d : Id) (within : index < length objects) where
    abbrev next : Id
    next = get_or objects index d

    below_next : (other : Id) → Contains (take index objects) other → id_cmp other next ≡ Less
    below_next other (place, inside, is) =
        let before : place < index = omega (arith, length-take index objects) in
        let at : get_or objects place d ≡ other =
        get_or_default objects place d other (omega arith) ∙ sym (get_or-take index objects place other before) ∙ is
        in
        subst (λ (o : Id). id_cmp o next ≡ Less) at (rising.each place index d before within)

    -- those of the next object go behind
    pub first_more : (lines own : List Line) (names : List ShownName) → IsListing (IsBoundIn view next) names →
        AreLinesOf view next names own → AreFirst objects index lines → AreFirst objects (index + 1) (lines ++ own)
    first_more lines own names listing of_next are =
        let more : take (index + 1) objects ≡ take index objects ++ next ∷ [] = take_more objects index d within in
        rw more (lines_more view next names own listing of_next (Contains (take index objects))
        (Contains (take index objects ++ next ∷ [])) lines are below_next
        (λ other earlier. Contains-append_left (take index objects) (next ∷ []) other earlier)
        (Contains-push (take index objects) next)
        (λ other inside. elim (Contains-push_cases (take index objects) next other inside) [
          | inl earlier ↦ inl earlier
          | inr is ↦ inr (sym is)
        ]))

module _ (saved : Saved) where
  pub leads_from : (dir object : Id) → LeadsIn saved.entries dir object →
      LeadsWithin (tables_view saved) dir object
  leads_from dir object way = (
    way.entry.name,
    record {
      entry = without_state way.entry;
      live = subst (Contains saved.entries) (held_as_live way.entry way.live) way.inside;
      in_dir = way.in_dir;
      named = refl;
      leads = way.leads;
    },
  )

  pub leads_into : (dir object : Id) → LeadsWithin (tables_view saved) dir object →
      LeadsIn saved.entries dir object
  leads_into dir object (name, bound) =
      record { entry = held_live bound.entry; inside = bound.live; live = refl; in_dir = bound.in_dir; leads = bound.leads }

  root_is : (object : Id) → Contains (ROOT ∷ []) object → object ≡ ROOT
  root_is object inside =
      elim (here_or_there ROOT object [] inside) [ inl is ↦ is | inr later ↦ absurd (not_inside_none object later) ]

  root_inside : (object : Id) → object ≡ ROOT → Contains (ROOT ∷ []) object
  root_inside object is = subst (Contains (ROOT ∷ [])) (sym is) (here ROOT [])

  -- the lines of all objects that are reached from the root
  pub first_all : (objects : List Id) (index : ℕ) (lines : List Line) →
      ((object : Id) → Contains objects object ↔ IsReached (LeadsIn saved.entries) (Contains (ROOT ∷ [])) object) →
      length objects ≤ index → AreFirst (tables_view saved) objects index lines →
      AreLines (tables_view saved) (IsReachedIn (tables_view saved)) lines
  first_all objects index lines reached past are =
      let whole : take index objects ≡ objects = take_all index objects past in
      let all : AreLines (tables_view saved) (Contains objects) lines =
      subst (λ dirs. AreLines (tables_view saved) (Contains dirs) lines) whole are in
      lines_along (same_itself (tables_view saved)) (λ dir. (
        λ inside. IsReached-along leads_from root_is ((reached dir).0 inside),
        λ in_tree. (reached dir).1 (IsReached-along leads_into root_inside in_tree),
      )) all
