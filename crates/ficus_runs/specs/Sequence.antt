-- Actions on a world, one after the other.
use Rattle.std.specs.Prelude.{◌≡◌, List, [], ◌++◌, Result, Ok, Err}
use Rattle.ficus_ids.specs.declared.refusal.Refusal.{Refusal}
use Rattle.ficus_runs.specs.Outcome.{Outcome}

-- what an action leaves: what became of all that it asked of the outside, in order, and the world after it
pub record Effect (World : Type 0) : Type 0 where
  pub outcomes : List Outcome
  pub after : World

-- nothing is changed, and nothing is asked of the outside
abbrev pub unchanged : {World : Type 0} → World → Effect World
unchanged old = record { outcomes = []; after = old }

-- what two actions leave, one after the other
abbrev pub joined : {World : Type 0} → Effect World → Effect World → Effect World
joined first last = record { outcomes = first.outcomes ++ last.outcomes; after = last.after }

-- An action says, from the world before it, what it gives or the refusal at which it ends, and what it leaves.
abbrev pub Action : Type 0 → Type 0 → Type 1
Action World A = World → Result A Refusal → Effect World → Type 0

-- First one action, then, unless it is refused, another one from the world that it leaves.
pub data First {World A B : Type 0} (first : Action World A) (rest : A → Action World B) (old : World) :
    Result B Refusal → Effect World → Type 0 where
  Ends : {refusal : Refusal} {left : Effect World} → first old (Err refusal) left
      → First first rest old (Err refusal) left
  Goes : {a : A} {middle left : Effect World} {result : Result B Refusal} → first old (Ok a) middle
      → rest a middle.after result left → First first rest old result (joined middle left)

-- Gives what the rule says of the world, and changes nothing.
pub data ByRule {World A : Type 0} (rule : World → Result A Refusal → Type 0) (old : World) :
    Result A Refusal → Effect World → Type 0 where
  Says : {result : Result A Refusal} → rule old result → ByRule rule old result (unchanged old)

-- A cut says, from the world before it, what is left where memory is refused on the way.
abbrev pub Cut : Type 0 → Type 1
Cut World = World → Effect World → Type 0

-- nothing is done
abbrev pub NothingDone : {World : Type 0} → Cut World
NothingDone old left = left ≡ unchanged old

-- Memory is refused in the one action, or in what comes behind it, which takes up what the action has left.
pub data CutFirst {World A : Type 0} (first : Action World A) (cut : Cut World) (behind : A → Cut World)
    (old : World) : Effect World → Type 0 where
  InFirst : {left : Effect World} → cut old left → CutFirst first cut behind old left
  InRest : {a : A} {middle left : Effect World} → first old (Ok a) middle → behind a middle.after left
      → CutFirst first cut behind old (joined middle left)
