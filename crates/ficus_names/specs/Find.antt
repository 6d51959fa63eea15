-- What is found in a directory, over any way of saying which names lead to which objects.
use Rattle.std.specs.Prelude.{◌≡◌, ◌≢◌, ℕ, List, Option, Some, None, Result, Ok, Err}
use Rattle.ficus_ids.specs.declared.id.Id.{Id}
use Rattle.ficus_ids.specs.declared.refusal.Refusal.{Refusal}
use Rattle.ficus_ids.specs.declared.refusal.Refusal.TheVariants.{NoEntry, Ambiguous}

-- the name leads to this object alone
pub record LeadsOnlyTo (binds : List ℕ → Id → Type 0) (name : List ℕ) (target : Id) : Type 0 where
  pub bound : binds name target
  pub only : (other : Id) → binds name other → other ≡ target

-- the name leads to two different objects
pub record LeadsToSeveral (binds : List ℕ → Id → Type 0) (name : List ℕ) : Type 0 where
  pub one : Id
  pub other : Id
  pub bound_one : binds name one
  pub bound_other : binds name other
  pub differ : one ≢ other

-- the answer for a name alone: its only object, `NoEntry` where it leads nowhere, `Ambiguous` where it leads to several
abbrev pub FindsOnly : (List ℕ → Id → Type 0) → List ℕ → Result Id Refusal → Type 0
FindsOnly binds name (Ok object) = LeadsOnlyTo binds name object
FindsOnly binds name (Err NoEntry) = (target : Id) → binds name target → ⊥
FindsOnly binds name (Err Ambiguous) = LeadsToSeveral binds name
FindsOnly binds name (Err _) = ⊥

-- the answer for a name and a target: the target, or `NoEntry` where the name doesn't lead to it
abbrev pub FindsTarget : (List ℕ → Id → Type 0) → List ℕ → Id → Result Id Refusal → Type 0
FindsTarget binds name target (Ok object) = binds name target × (object ≡ target)
FindsTarget binds name target (Err NoEntry) = binds name target → ⊥
FindsTarget binds name target (Err _) = ⊥

-- the answer for a name and, where there is one, a target
abbrev pub FindAnswer : (List ℕ → Id → Type 0) → List ℕ → Option Id → Result Id Refusal → Type 0
FindAnswer binds name None result = FindsOnly binds name result
FindAnswer binds name (Some target) result = FindsTarget binds name target result
