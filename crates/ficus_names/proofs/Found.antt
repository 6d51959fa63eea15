-- What an answer of the index says of a name.
use Rattle.std.specs.Prelude.{◌≡◌, ◌≢◌, ℕ, List, Contains}
use Rattle.std.proofs.Common.{sym, ◌∙◌, inl, inr}
use Rattle.ficus_ids.specs.declared.id.Id.{Id}
use Rattle.ficus_ids.specs.IdLaws.{same_id_or_not}
use Rattle.ficus_entry.specs.declared.entry.Entry.{Entry}
use Rattle.ficus_entry.specs.Inside.{IsNamedIn}
use Rattle.ficus_names.specs.Binds.{BindsIn}
use Rattle.ficus_names.specs.Find.{LeadsOnlyTo, LeadsToSeveral}

module _ (entries : List Entry) (dir : Id) (name : List ℕ) where
  pub bound_by : (entry : Entry) → Contains entries entry → IsNamedIn entry dir name → (target : Id) →
      entry.target ≡ target → BindsIn entries dir name target
  bound_by entry inside is target leads =
      record { entry = entry; inside = inside; live = is.live; in_dir = is.in_dir; named = is.named; leads = leads }

  pub named_by : (target : Id) (bound : BindsIn entries dir name target) → IsNamedIn bound.entry dir name
  named_by target bound = record { live = bound.live; in_dir = bound.in_dir; named = bound.named }

  -- the one entry that was found leads to the only object, where no other leads elsewhere
  pub only_target : (entry : Entry) → Contains entries entry → IsNamedIn entry dir name →
      ((other : Entry) → Contains entries other → IsNamedIn other dir name → other.target ≢ entry.target → ⊥) →
      LeadsOnlyTo (BindsIn entries dir) name entry.target
  only_target entry inside is none = record {
    bound = bound_by entry inside is entry.target (λ _. entry.target);
    only = λ target bound. elim (same_id_or_not target entry.target) [
      | inl same ↦ same
      | inr differs ↦ absurd (none bound.entry bound.inside (named_by target bound) (λ is_it. differs (sym bound.leads ∙ is_it)))
    ];
  }

  pub two_targets : (one other : Entry) → Contains entries one → IsNamedIn one dir name →
      Contains entries other → IsNamedIn other dir name → other.target ≢ one.target →
      LeadsToSeveral (BindsIn entries dir) name
  two_targets one other inside is inside_too is_too differs = record {
    one = other.target;
    other = one.target;
    bound_one = bound_by other inside_too is_too other.target (λ _. other.target);
    bound_other = bound_by one inside is one.target (λ _. one.target);
    differ = differs;
  }
