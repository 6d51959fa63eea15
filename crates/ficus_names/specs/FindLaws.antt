-- Laws of what is found, for the proofs of this crate and of those above it.
use Rattle.std.specs.Prelude.{◌≡◌, ◌↔◌, ℕ, List, Option, Some, None, Result, Ok, Err, refl}
use Rattle.std.proofs.Common.{sym, ap, ◌∙◌}
use Rattle.ficus_ids.specs.declared.id.Id.{Id}
use Rattle.ficus_ids.specs.declared.refusal.Refusal.{Refusal}
use Rattle.ficus_ids.specs.declared.refusal.Refusal.TheVariants.{NoEntry, Ambiguous}
use Rattle.ficus_names.specs.Find.{LeadsOnlyTo, LeadsToSeveral, FindsOnly, FindsTarget, FindAnswer}

-- ways of binding that agree everywhere give the same answers
module _ {binds others : List ℕ → Id → Type 0}
    (same : (name : List ℕ) (target : Id) → binds name target ↔ others name target) where
  FindsOnly-along : (name : List ℕ) (result : Result Id Refusal) → FindsOnly binds name result →
      FindsOnly others name result
  FindsOnly-along name (Ok object) found = record {
    bound = (same name object).0 found.bound;
    only = λ other bound. found.only other ((same name other).1 bound);
  }
  FindsOnly-along name (Err NoEntry) none = λ target bound. none target ((same name target).1 bound)
  FindsOnly-along name (Err Ambiguous) several = record {
    one = several.one;
    other = several.other;
    bound_one = (same name several.one).0 several.bound_one;
    bound_other = (same name several.other).0 several.bound_other;
    differ = several.differ;
  }
  FindsOnly-along name (Err _) never = absurd never

  FindsTarget-along : (name : List ℕ) (target : Id) (result : Result Id Refusal) →
      FindsTarget binds name target result → FindsTarget others name target result
  FindsTarget-along name target (Ok object) found = ((same name target).0 found.0, found.1)
  FindsTarget-along name target (Err NoEntry) none = λ bound. none ((same name target).1 bound)
  FindsTarget-along name target (Err _) never = absurd never

  pub FindAnswer-along : (name : List ℕ) (target : Option Id) (result : Result Id Refusal) →
      FindAnswer binds name target result → FindAnswer others name target result
  FindAnswer-along name None result found = FindsOnly-along name result found
  FindAnswer-along name (Some target) result found = FindsTarget-along name target result found

-- the answers that there are for a name alone
data OnlyAnswer (binds : List ℕ → Id → Type 0) (name : List ℕ) : Result Id Refusal → Type 0 where
  One : {object : Id} → LeadsOnlyTo binds name object → OnlyAnswer binds name (Ok object)
  Nothing : ((target : Id) → binds name target → ⊥) → OnlyAnswer binds name (Err NoEntry)
  Several : LeadsToSeveral binds name → OnlyAnswer binds name (Err Ambiguous)

module _ (binds : List ℕ → Id → Type 0) (name : List ℕ) where
  only_answer : (result : Result Id Refusal) → FindsOnly binds name result → OnlyAnswer binds name result
  only_answer (Ok object) found = One found
  only_answer (Err NoEntry) none = Nothing none
  only_answer (Err Ambiguous) several = Several several
  only_answer (Err _) never = absurd never

  not_several : (object : Id) → LeadsOnlyTo binds name object → LeadsToSeveral binds name → ⊥
  not_several object found several =
      several.differ (found.only several.one several.bound_one ∙ sym (found.only several.other several.bound_other))

  one_only : {result other : Result Id Refusal} →
      OnlyAnswer binds name result → OnlyAnswer binds name other → result ≡ other
  one_only (One found) (One too) = ap Ok (too.only _ found.bound)
  one_only (One found) (Nothing none) = absurd (none _ found.bound)
  one_only (One found) (Several several) = absurd (not_several _ found several)
  one_only (Nothing none) (One found) = absurd (none _ found.bound)
  one_only (Nothing none) (Nothing too) = refl
  one_only (Nothing none) (Several several) = absurd (none several.one several.bound_one)
  one_only (Several several) (One found) = absurd (not_several _ found several)
  one_only (Several several) (Nothing none) = absurd (none several.one several.bound_one)
  one_only (Several several) (Several too) = refl

  one_target : (target : Id) (result other : Result Id Refusal) →
      FindsTarget binds name target result → FindsTarget binds name target other → result ≡ other
  one_target target (Ok object) (Ok other) found too = ap Ok (found.1 ∙ sym too.1)
  one_target target (Ok object) (Err NoEntry) found none = absurd (none found.0)
  one_target target (Err NoEntry) (Ok object) none found = absurd (none found.0)
  one_target target (Err NoEntry) (Err NoEntry) none too = refl
  one_target target (Ok object) (Err _) found never = absurd never
  one_target target (Err NoEntry) (Err _) none never = absurd never
  one_target target (Err _) other never too = absurd never

  -- there is one answer
  pub one_answer : (target : Option Id) (result other : Result Id Refusal) →
      FindAnswer binds name target result → FindAnswer binds name target other → result ≡ other
  one_answer None result other found too = one_only (only_answer result found) (only_answer other too)
  one_answer (Some target) result other found too = one_target target result other found too

-- the answer follows from what is bound
pub same_answer : {binds others : List ℕ → Id → Type 0} →
    ((name : List ℕ) (target : Id) → binds name target ↔ others name target) →
    (name : List ℕ) (target : Option Id) (result other : Result Id Refusal) →
    FindAnswer binds name target result → FindAnswer others name target other → result ≡ other
same_answer {others = others} same name target result other found too =
    one_answer others name target result other (FindAnswer-along same name target result found) too
