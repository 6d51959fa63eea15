-- What a replica may still write: the rule keeps that there is one answer, and that it is the same over views that show
-- the same.
use Rattle.std.proofs.Common.{ℕ, Result, Ok, Err, inl, inr}
use Rattle.ficus_ids.specs.declared.refusal.Refusal.{Refusal}
use Rattle.ficus_ids.specs.declared.refusal.Refusal.TheVariants.{Memory, TooLong, Spent, Quota}
use Rattle.ficus_model.specs.Lawful.{most_file_bytes}
use Rattle.ficus_rules.specs.Limits.{LimitsUpTo, LimitsRule}
use Rattle.ficus_rules.specs.Rule.{Gives, RefusesNothing, Once, Along}
use Rattle.ficus_rules.specs.View.{View, SameView}
use Rattle.ficus_rules.proofs.Rules.{passed as step, unless_once, unless_along}

pub up_to_once : {B : Type 0} (most : ℕ) (view : View) (bytes : ℕ) {rest : Result B Refusal → Type 0} → Once rest →
    Once (LimitsUpTo most view bytes rest)
up_to_once most view bytes once = unless_once _ _ (unless_once _ _ (unless_once _ _ once))

pub up_to_along : {B : Type 0} {one other : View} (most : ℕ) → SameView one other → (bytes : ℕ)
    {rest more : Result B Refusal → Type 0} → Along rest more →
    Along (LimitsUpTo most one bytes rest) (LimitsUpTo most other bytes more)
up_to_along most same bytes next =
    unless_along TooLong (λ long. long, λ long. long)
    (unless_along Spent same.spent (unless_along Quota (same.over_quota bytes) next))

-- within the limits nothing is refused that the rest doesn't refuse
pub up_to_passed : {A B : Type 0} (most : ℕ) (view : View) (bytes : ℕ) (given passed : A)
    (rest : Result B Refusal → Type 0) (refusal : Refusal) → LimitsUpTo most view bytes (Gives given) (Ok passed) →
    LimitsUpTo most view bytes rest (Err refusal) → rest (Err refusal)
up_to_passed most view bytes given passed rest refusal (short, (left, (room, is))) refuses =
    step room (step left (step short refuses))

-- and nothing for want of memory
pub up_to_never : {B : Type 0} (most : ℕ) (view : View) (bytes : ℕ) (b : B) →
    LimitsUpTo most view bytes (Gives b) (Err Memory) → ⊥
up_to_never most view bytes b (inl (long, e)) = cc
up_to_never most view bytes b (inr (short, inl (spent, e))) = cc
up_to_never most view bytes b (inr (short, inr (left, inl (quota, e)))) = cc
up_to_never most view bytes b (inr (short, inr (left, inr (room, none)))) = none

-- so it is with the limits of a file
pub limits_once : {B : Type 0} (view : View) (bytes : ℕ) {rest : Result B Refusal → Type 0} → Once rest →
    Once (LimitsRule view bytes rest)
limits_once view bytes once = up_to_once most_file_bytes view bytes once

pub limits_along : {B : Type 0} {one other : View} → SameView one other → (bytes : ℕ)
    {rest more : Result B Refusal → Type 0} → Along rest more →
    Along (LimitsRule one bytes rest) (LimitsRule other bytes more)
limits_along same bytes next = up_to_along most_file_bytes same bytes next

module _ {B : Type 0} (view : View) (bytes : ℕ) (b : B) where
  pub limits_none : {A : Type 0} (given passed : A) → LimitsRule view bytes (Gives given) (Ok passed) →
      RefusesNothing (LimitsRule view bytes (Gives b))
  limits_none given passed within refusal refuses =
      up_to_passed most_file_bytes view bytes given passed (Gives b) refusal within refuses

  pub limits_never : LimitsRule view bytes (Gives b) (Err Memory) → ⊥
  limits_never none = up_to_never most_file_bytes view bytes b none
