-- Rules, step by step: what refuses a step refuses the whole, and where it lets pass, the answer is that of the rest.
use Rattle.std.proofs.Common.{◌≡◌, ℕ, List, length, Result, Ok, Err, ◌↔◌, false, inl, inr, sym, subst}
use Rattle.std.specs.Prelude.{IsTrue, IsErrAnd}
use Rattle.std.proofs.lemmas.Bool.{false≢true}
use Rattle.std.proofs.lemmas.Result.{err_from_is_err_and}
use Rattle.ficus_ids.specs.declared.id.Id.{Id}
use Rattle.ficus_ids.specs.declared.refusal.Refusal.{Refusal}
use Rattle.ficus_ids.specs.declared.refusal.Refusal.TheVariants.{Memory}
use Rattle.ficus_model.specs.declared.event.Op.{Op}
use Rattle.ficus_path.specs.declared.path.Path.{Path}
use Rattle.ficus_rules.specs.Limits.{LimitsRule}
use Rattle.ficus_rules.specs.Rule.{Then, RefusedOr, Gives, RefusesNothing, UnlessMemory, UnlessMemoryWhere}
use Rattle.ficus_rules.specs.View.{View}
use Rattle.ficus_rules.specs.Resolved.{ResolvedRule}
use Rattle.ficus_rules.specs.Walk.{VersionedRule}
use Rattle.ficus_rules.proofs.Rules.{behind, or_refused, passed, refusal_along}
use Rattle.ficus_rules.proofs.Walks.{versioned_once}
use Rattle.ficus_deciding.specs.Files.{ResolvedWithin}
use Rattle.ficus_deciding.specs.Told.{ToldAs}

-- what the test denies isn't so
pub isnt : {P : Type 0} → IsTrue false ↔ P → P → ⊥
isnt tells so = false≢true (tells.1 so)

module _ {A B : Type 0} (bad good : Type 0) (refusal : Refusal) (first : Result A Refusal → Type 0)
    (rest : A → Result B Refusal → Type 0) where
  -- a test and a step, and then the rest
  pub tested_goes : (a : A) → RefusedOr bad good refusal first (Ok a) → (answer : Result B Refusal) →
      rest a answer → RefusedOr bad good refusal (Then first rest) answer
  tested_goes a tested (Ok b) so = (tested.0, (a, tested.1, so))
  tested_goes a tested (Err other) so = inr (tested.0, inr (a, tested.1, so))

  pub tested_stops : (other : Refusal) → RefusedOr bad good refusal first (Err other) →
      RefusedOr bad good refusal (Then first rest) (Err other)
  tested_stops other (inl refuses) = inl refuses
  tested_stops other (inr stops) = inr (stops.0, inl stops.1)

-- What is an answer as a refusal is one as the result that gives it.
pub refused_so : {A : Type 0} (IsAnswer : Result A Refusal → Type 0) (refusal : Refusal) → IsAnswer (Err refusal) →
    (result : Result A Refusal) → IsErrAnd result (λ given. given ≡ refusal) → IsAnswer result
refused_so IsAnswer refusal so result is =
    let given = err_from_is_err_and result is in
    rw (given.1, given.2) so

-- Ways out: what refuses a first step refuses the whole, and is told as it is where what is given is told in some way.
module _ {A B : Type 0} (may : Type 0) (first : Result A Refusal → Type 0) (rule : Result B Refusal → Type 0)
    (never : first (Err Memory) → ⊥) (there : (refusal : Refusal) → first (Err refusal) → rule (Err refusal)) where
  pub stopped : (refusal : Refusal) → first (Err refusal) → (result : Result B Refusal) →
      IsErrAnd result (λ given. given ≡ refusal) → UnlessMemoryWhere may rule result
  stopped refusal refused result is =
      refused_so (UnlessMemoryWhere may rule) refusal
      (or_refused may first rule refusal never (there refusal) refused) result is

  pub told_stopped : {C : Type 0} (told_as : C → B) (refusal : Refusal) → first (Err refusal) →
      (result : Result C Refusal) → IsErrAnd result (λ given. given ≡ refusal) →
      ToldAs told_as (UnlessMemoryWhere may rule) result
  told_stopped told_as refusal refused result is =
      refused_so (ToldAs told_as (UnlessMemoryWhere may rule)) refusal
      (or_refused may first rule refusal never (there refusal) refused) result is

-- and where memory was wanted this may be
module _ {B : Type 0} (may : Type 0) (rule : Result B Refusal → Type 0) where
  pub wanted : (result : Result B Refusal) → IsErrAnd result (λ given. given ≡ Memory) → may →
      UnlessMemoryWhere may rule result
  wanted result is so = refused_so (UnlessMemoryWhere may rule) Memory so result is

  pub told_wanted : {C : Type 0} (told_as : C → B) (result : Result C Refusal) →
      IsErrAnd result (λ given. given ≡ Memory) → may → ToldAs told_as (UnlessMemoryWhere may rule) result
  told_wanted told_as result is so = refused_so (ToldAs told_as (UnlessMemoryWhere may rule)) Memory so result is

-- A step of a rule: where all before it lets pass, the whole refuses what the step refuses, and nothing else.
module _ {A B : Type 0} (may : Type 0) (step : Result A Refusal → Type 0) (rule : Result B Refusal → Type 0)
    (also : RefusesNothing rule → may) (there : (refusal : Refusal) → step (Err refusal) → rule (Err refusal))
    (back : (refusal : Refusal) → rule (Err refusal) → step (Err refusal)) where
  -- so it is with want of memory too
  pub step_stopped : (refusal : Refusal) → UnlessMemory step (Err refusal) → (result : Result B Refusal) →
      IsErrAnd result (λ given. given ≡ refusal) → UnlessMemoryWhere may rule result
  step_stopped refusal refused result is =
      refused_so (UnlessMemoryWhere may rule) refusal
      (refusal_along step rule refusal (λ none. also (λ other refuses. none other (back other refuses)))
      (there refusal) refused) result is

-- The change of a file's versions at a path by bytes: where the file is fit for it, the limits alone refuse.
module _ (view : View) (path : Path) (bytes : List ℕ) (bad good : Id → Type 0) (unfit : Refusal) (op : Id → Op) where
  pub by_bytes_stopped : (file : Id) → VersionedRule view path (Ok file) → (bad file → ⊥) → good file →
      (refusal : Refusal) → UnlessMemory (LimitsRule view (length bytes) (Gives bytes)) (Err refusal) →
      (result : Result Op Refusal) → IsErrAnd result (λ given. given ≡ refusal) →
      UnlessMemory (Then (VersionedRule view path)
      (λ file. RefusedOr (bad file) (good file) unfit (LimitsRule view (length bytes) (Gives (op file))))) result
  by_bytes_stopped file walked not_bad is_good =
      step_stopped _ (LimitsRule view (length bytes) (Gives bytes)) (Then (VersionedRule view path)
      (λ file. RefusedOr (bad file) (good file) unfit (LimitsRule view (length bytes) (Gives (op file)))))
      (λ none. none) (λ refusal over. inr (file, walked, inr (is_good, over)))
      (λ refusal refuses. passed not_bad (behind (versioned_once view path) file walked refuses))

module _ (view : View) (file : Id) where
  -- where the resolver is refused, what stands on its text is
  pub not_resolved : (op : List ℕ → Op) (refusal : Refusal) → ResolvedWithin view file (Err refusal) →
      Then (ResolvedRule view file) (λ bytes. LimitsRule view (length bytes) (Gives (op bytes))) (Err refusal)
  not_resolved op refusal (inl declined) = inl declined
  not_resolved op refusal (inr (bytes, comes, inl long)) = inr (bytes, comes, inl long)
  not_resolved op refusal (inr (bytes, comes, inr (short, none))) = absurd none

  -- else it makes the text
  pub is_resolved : (bytes : List ℕ) → ResolvedWithin view file (Ok bytes) → ResolvedRule view file (Ok bytes)
  is_resolved bytes (made, comes, (short, is)) = subst (λ text. ResolvedRule view file (Ok text)) (sym is) comes
