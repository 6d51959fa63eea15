-- A walk over tables, part by part; and which names are taken.
use Rattle.std.proofs.Common.{◌≡◌, ◌≢◌, ◌↔◌, ℕ, ◌+◌, ◌-◌, ◌<◌, ◌≤◌, List, [], ◌∷◌, ◌++◌, Result, Ok, Err, Option, Some, None, length, get_or, take, drop, Bool, not, IsTrue, IfOk, refl, sym, ap, subst, ◌∙◌, inr, arith}
use Rattle.std.specs.List.{last_or}
use Rattle.std.proofs.lemmas.List.{drop_all, drop_more, take_all, take_more}
use Rattle.std.proofs.lemmas.Option.{same_Some}
use denote.Enum.Bare.{sameb}
use Rattle.ficus_ids.specs.declared.id.Id.{Id}
use Rattle.ficus_ids.specs.declared.refusal.Refusal.{Refusal}
use Rattle.ficus_ids.specs.declared.refusal.Refusal.TheVariants.{NoEntry, NotDir, Ambiguous}
use Rattle.ficus_ids.specs.contracts.refusal.Refusal.{the_type}
use Rattle.ficus_path.specs.declared.path.Base.{Base}
use Rattle.ficus_path.specs.declared.path.Part.{Part}
use Rattle.ficus_path.specs.declared.path.Path.{Path}
use Rattle.ficus_path.specs.Path.{IsNew}
use Rattle.ficus_names.specs.Binds.{BindsIn}
use Rattle.ficus_names.specs.Find.{FindsOnly, FindAnswer}
use Rattle.ficus_names.specs.FindLaws.{FindAnswer-along}
use Rattle.ficus_durable_state.specs.declared.saved.Saved.{Saved}
use Rattle.ficus_rules.specs.View.{IsBoundIn, IsTakenIn, IsDirectoryIn}
use Rattle.ficus_deciding.specs.View.{IsRootOrVisible, IsVisibleBy, tables_view}
use Rattle.ficus_rules.specs.Walk.{BaseRule, PartsRule, WalkRule, last_name, last_target, name_of, target_of}
use Rattle.ficus_rules.specs.Rule.{Where}
use Rattle.ficus_rules.proofs.Rules.{then_goes}
use Rattle.ficus_deciding.proofs.Refusals.{tested_goes, tested_stops}
use Rattle.ficus_deciding.proofs.Tables.{tables_bound, bound_visible}
use Rattle.ficus_rules.proofs.Walks.{found_bound}

module _ (saved : Saved) where
  -- what is found in what the tables show
  abbrev FoundRule : Id → Part → Result Id Refusal → Type 0
  FoundRule object part = FindAnswer (IsBoundIn (tables_view saved) object) part.name part.target

  -- what a part leads to from an object
  abbrev StepRule : Id → Part → Result Id Refusal → Type 0
  StepRule object part = Where (IsDirectoryIn (tables_view saved) object) NotDir (FoundRule object part)

  module _ (object : Id) (part : Part) where
    found_shown : (answer : Result Id Refusal) →
        FindAnswer (BindsIn saved.entries object) part.name part.target answer → FoundRule object part answer
    found_shown answer found = FindAnswer-along (tables_bound saved object) part.name part.target answer found

    -- what is found among the entries is visible
    pub found_visible : (answer : Result Id Refusal) →
        FindAnswer (BindsIn saved.entries object) part.name part.target answer →
        IfOk answer (IsRootOrVisible saved)
    found_visible (Ok next) found =
        inr (bound_visible saved (found_bound (IsBoundIn (tables_view saved) object) part.name part.target next
        (found_shown (Ok next) found)))
    found_visible (Err refusal) found = tt

    -- and what the part leads to from a directory
    pub stepped : (answer : Result Id Refusal) → IsDirectoryIn (tables_view saved) object →
        FindAnswer (BindsIn saved.entries object) part.name part.target answer → StepRule object part answer
    stepped (Ok next) directory found = (directory, found_shown (Ok next) found)
    stepped (Err refusal) directory found = inr (directory, found_shown (Err refusal) found)

  -- an object reached, such that all parts lead from the base to what the rest leads to from there
  pub record HasReached (base : Base) (parts : List Part) (object : Id) (rest : List Part) : Type 0 where
    pub shown : IsRootOrVisible saved object
    pub leads : (answer : Result Id Refusal) → PartsRule (tables_view saved) rest object answer →
        WalkRule (tables_view saved) base parts answer

  pub reached_start : (base : Base) (parts : List Part) (object : Id) → IsRootOrVisible saved object →
      BaseRule (tables_view saved) base (Ok object) → HasReached base parts object parts
  reached_start base parts object shown begun = record {
    shown = shown;
    leads = λ answer rest. then_goes (BaseRule (tables_view saved) base) (PartsRule (tables_view saved) parts) object
        answer begun rest;
  }

  module _ {base : Base} {object : Id} {parts : List Part} (index : ℕ) (part : Part) (within : index < length parts)
      (is : part ≡ get_or parts index part) (reached : HasReached base parts object (drop index parts)) where
    step : (answer : Result Id Refusal) →
        PartsRule (tables_view saved) (part ∷ drop (index + 1) parts) object answer →
        WalkRule (tables_view saved) base parts answer
    step answer rest =
        let next : drop index parts ≡ part ∷ drop (index + 1) parts =
        drop_more parts index part within ∙ ap (λ p. p ∷ drop (index + 1) parts) (sym is) in
        reached.leads answer (rw next rest)

    pub reached_next : (next : Id) → IsRootOrVisible saved next → StepRule object part (Ok next) →
        HasReached base parts next (drop (index + 1) parts)
    reached_next next shown stepped = record {
      shown = shown;
      leads = λ answer rest. step answer (tested_goes _ _ NotDir (FoundRule object part)
          (PartsRule (tables_view saved) (drop (index + 1) parts)) next stepped answer rest);
    }

    pub refused_part : (refusal : Refusal) → StepRule object part (Err refusal) →
        WalkRule (tables_view saved) base parts (Err refusal)
    refused_part refusal stepped =
        step (Err refusal) (tested_stops _ _ NotDir (FoundRule object part)
        (PartsRule (tables_view saved) (drop (index + 1) parts)) refusal stepped)

  pub reached_end : {base : Base} {object : Id} {parts : List Part} (index : ℕ) → length parts ≤ index →
      HasReached base parts object (drop index parts) → WalkRule (tables_view saved) base parts (Ok object)
  reached_end {base} {object} {parts} index past reached =
      reached.leads (Ok object) (rw (drop_all index parts past) refl)

  -- a name is taken unless it is refused as leading nowhere
  taken_by : (dir : Id) (name : List ℕ) (refusal : Refusal) (taken : Bool) →
      FindsOnly (IsBoundIn (tables_view saved) dir) name (Err refusal) →
      taken ≡ not (sameb the_type refusal NoEntry) → IsTrue taken ↔ IsTakenIn (tables_view saved) dir name
  taken_by dir name NoEntry taken found is = (λ truth. cc, λ bound. absurd (found bound.0 bound.1))
  taken_by dir name Ambiguous taken found is = (λ truth. (found.one, found.bound_one), λ bound. is)
  taken_by dir name other taken found is = absurd found

last_from : (start : Option Part) (front : List Part) (last : Part) → last_or start (front ++ last ∷ []) ≡ Some last
last_from start [] last = refl
last_from start (part ∷ front) last = last_from (Some part) front last

not_empty : (parts : List Part) → parts ≢ [] → 1 ≤ length parts
not_empty [] some = absurd (some refl)
not_empty (part ∷ parts) some = omega arith

-- the last part stands at the end
pub last_at_end : (parts : List Part) (last : Part) → parts ≢ [] → last ≡ get_or parts (length parts - 1) last →
    last_or None parts ≡ Some last
last_at_end parts last some is =
    let before : List Part = take (length parts - 1) parts in
    let whole : parts ≡ before ++ get_or parts (length parts - 1) last ∷ [] =
    sym (take_all (length parts - 1 + 1) parts (omega (arith, not_empty parts some))) ∙ take_more parts
    (length parts - 1) last (omega (arith, not_empty parts some)) in
    ap (last_or None) whole ∙ last_from None before (get_or parts (length parts - 1) last) ∙ ap Some (sym is)

-- the last part of a new path has no target
last_is_new : (path : Path) (last : Part) → IsNew path → last_or None path.parts ≡ Some last → last.target ≡ None
last_is_new path last (front, part, is, new) at =
    let same : Some part ≡ Some last = sym (last_from None front part) ∙ sym (ap (last_or None) is) ∙ at in
    ap (λ (p : Part). p.target) (sym (same_Some part last same)) ∙ new

module _ (saved : Saved) (dir : Id) (path : Path) (last : Part) (at : last_or None path.parts ≡ Some last) where
  name_is : last_name path ≡ last.name
  name_is = ap name_of at

  pub taken_where_found : (object : Id) →
      FindAnswer (BindsIn saved.entries dir) last.name last.target (Ok object) →
      IsTakenIn (tables_view saved) dir (last_name path)
  taken_where_found object found =
      let shown = found_shown saved dir last (Ok object) found in
      rw name_is (object, found_bound (IsBoundIn (tables_view saved) dir) last.name last.target object shown)

  pub taken_by_refusal : (refusal : Refusal) (taken : Bool) → IsNew path →
      FindAnswer (BindsIn saved.entries dir) last.name last.target (Err refusal) →
      taken ≡ not (sameb the_type refusal NoEntry) → IsTrue taken ↔ IsTakenIn (tables_view saved) dir (last_name path)
  taken_by_refusal refusal taken is_new found is =
      let shown = found_shown saved dir last (Err refusal) found in
      let only : FindsOnly (IsBoundIn (tables_view saved) dir) last.name (Err refusal) =
      subst (λ target. FindAnswer (IsBoundIn (tables_view saved) dir) last.name target (Err refusal))
      (last_is_new path last is_new at) shown in
      rw name_is (taken_by saved dir last.name refusal taken only is)

  -- what the last part leads to
  pub entry_found : (answer : Result Id Refusal) →
      FindAnswer (BindsIn saved.entries dir) last.name last.target answer →
      FindAnswer (IsBoundIn (tables_view saved) dir) (last_name path) (last_target path) answer
  entry_found answer found =
      let shown = found_shown saved dir last answer found in
      rw (name_is, ap target_of at) shown

pub entry_visible : (saved : Saved) (dir : Id) (last : Part) (answer : Result Id Refusal) →
    FindAnswer (BindsIn saved.entries dir) last.name last.target answer → IfOk answer (IsVisibleBy saved)
entry_visible saved dir last (Ok object) found =
    bound_visible saved (found_bound (IsBoundIn (tables_view saved) dir) last.name last.target object
    (found_shown saved dir last (Ok object) found))
entry_visible saved dir last (Err refusal) found = tt
