-- What is carried out on a world and its disks, one action after the other.
use Rattle.std.proofs.Common.{◌≡◌, ◌≢◌, ℕ, ◌+◌, List, [], ◌∷◌, ◌++◌, Result, Ok, Err, Option, refl, sym, ap, ap₂, subst, ◌∙◌}
use Rattle.ficus_model.specs.declared.event.Event.{Event}
use Rattle.ficus_replica.specs.declared.replica.Replica.{Replica}
use Rattle.std.specs.Prelude.{IsErrOf}
use Rattle.ficus_disk.specs.declared.disk.Disk.{Ghosts as Disk}
use Rattle.ficus_disk.specs.declared.pair.Pair.{Pair}
use Rattle.ficus_ids.specs.declared.refusal.Refusal.{Refusal}
use Rattle.ficus_ids.specs.declared.refusal.Refusal.TheVariants as refusal
use Rattle.ficus_keeper.specs.declared.keep.Keep.{Ghosts as Keep}
use Rattle.ficus_rules.specs.Rule.{UnlessMemoryWhere}
use Rattle.ficus_script.specs.declared.answer.Answer.{Answer}
use Rattle.ficus_script.specs.declared.command.Command.{Command}
use Rattle.ficus_runs.specs.Answers.{OrMemory}
use Rattle.ficus_runs.specs.Fuses.{FuseState, FusesAllowAll, Keeping, after_outcomes}
use Rattle.ficus_runs.specs.Outcome.{Outcome, IsDone, IsSaved, LinkFails, SaveFails, armings_in, is_arming, is_store_failure, store_failures}
use Rattle.ficus_runs.specs.Sequence.{Effect, First, joined, unchanged}
use Rattle.ficus_runs.specs.Sequence.First.{Ends, Goes}
use Rattle.ficus_opening.specs.declared.member.Member.{Member}
use Rattle.ficus_opening.specs.declared.member.Pending.{Pending}
use Rattle.ficus_runs.specs.Numbered.{IsNumbered}
use Rattle.ficus_world.specs.Acts.{SavesNext}
use Rattle.ficus_world.specs.Disks.{Carried, CarriedOn, DisksComeTo, DisksFollow, StaysOn}
use Rattle.ficus_world.specs.Fuses.{FusesFollow, FusesStand, keeping_of}
use Rattle.ficus_world.specs.Moves.{CarriesOut, TablesMayWantMemory, WholeAction, advanced, not_saved, saved}
use Rattle.ficus_world.specs.Stepped.{ComesTo}
use Rattle.ficus_world.specs.World.{Backed, Whole}
use Rattle.ficus_world.proofs.Disks.{count_append, follows_alike, follows_none, follows_then}
use Rattle.ficus_world.proofs.Fuses.{after_then, allow_then, fuses_none, fuses_then}

-- whatever it is
pub or_memory : {A : Type 0} (rule : Result A Refusal → Type 0) (answer : Result A Refusal) → rule answer
    → OrMemory rule answer
or_memory rule (Ok a) is = is
or_memory rule (Err refusal.Memory) is = tt
or_memory rule (Err r) is = is

pub or_refused : {A : Type 0} (rule : Result A Refusal → Type 0) (r : Refusal)
    → (r ≢ refusal.Memory → rule (Err r)) → OrMemory rule (Err r)
or_refused rule refusal.Memory is = tt
or_refused rule r is = is (λ e. cc)

-- what holds of it anyway
pub or_memory_weaker : {A P Q : Type 0} → (P → Q) → (answer : Result A Refusal) → OrMemory (λ given. P) answer
    → OrMemory (λ given. Q) answer
or_memory_weaker weaker (Ok a) is = weaker is
or_memory_weaker weaker (Err refusal.Memory) is = tt
or_memory_weaker weaker (Err r) is = weaker is

-- the same of a refusal, whatever would have been given
still_refused : (A B P : Type 0) (r : Refusal) → OrMemory {A = A} (λ given. P) (Err r)
    → OrMemory {A = B} (λ given. P) (Err r)
still_refused A B P refusal.Memory is = tt
still_refused A B P r is = is

-- where an answer may be want of memory, and what it comes to
pub wanted_where : {A : Type 0} (may : Type 0) (rule : Result A Refusal → Type 0) (answer : Result A Refusal)
    → OrMemory rule answer → (IsErrOf answer refusal.Memory → may) → UnlessMemoryWhere may rule answer
wanted_where may rule (Ok a) is wants = is
wanted_where may rule (Err refusal.Memory) is wants = wants refl
wanted_where may rule (Err r) is wants = is

-- an action that is refused ends what begins with it
module _ {A B : Type 0} (first : WholeAction A) (rest : A → WholeAction B) (old : Whole) where
  pub ends_first : (r : Refusal) (left : Effect Whole) → OrMemory (λ given. first old given left) (Err r)
      → OrMemory (λ given. First first rest old given left) (Err r)
  ends_first refusal.Memory left is = tt
  ends_first r left is = Ends is

  -- and one that isn't goes on
  pub goes_on : {a : A} (middle left : Effect Whole) → first old (Ok a) middle → (result : Result B Refusal)
      → OrMemory (λ given. rest a middle.after given left) result
      → OrMemory (λ given. First first rest old given (joined middle left)) result
  goes_on middle left is (Ok b) behind = Goes is behind
  goes_on middle left is (Err refusal.Memory) behind = tt
  goes_on middle left is (Err r) behind = Goes is behind

  module _ {K D : Type 0} {keep : Keep K} {disk : Disk D} where
    pub carried_first : (r : Refusal) (new : Whole) (x y : List (Pair D))
        → CarriedOn keep disk first (Err r) old new x y → CarriedOn keep disk (First first rest) (Err r) old new x y
    carried_first r new x y is = record {
      outcomes = is.outcomes;
      does = ends_first r (record { outcomes = is.outcomes; after = new }) is.does;
      disks = is.disks;
      fuses = still_refused A B (FusesFollow keep disk is.outcomes old.members new.members x y) r is.fuses;
    }

    pub carried_then : {a : A} (middle new : Whole) (x y z : List (Pair D)) (result : Result B Refusal)
        → CarriedOn keep disk first (Ok a) old middle x y → CarriedOn keep disk (rest a) result middle new y z
        → CarriedOn keep disk (First first rest) result old new x z
    carried_then middle new x y z result is behind = record {
      outcomes = is.outcomes ++ behind.outcomes;
      does = goes_on (record { outcomes = is.outcomes; after = middle })
          (record { outcomes = behind.outcomes; after = new }) is.does result behind.does;
      disks = follows_then is.disks behind.disks;
      fuses = or_memory_weaker (λ more. fuses_then is.fuses more) result behind.fuses;
    }

-- what asks nothing of the disks
pub record AreQuiet (outcomes : List Outcome) : Type 0 where
  pub fails : (r : ℕ) → store_failures r outcomes ≡ 0
  pub arms : (r : ℕ) → armings_in r outcomes ≡ 0
  pub allowed : (keeping : Keeping) (F : ℕ → FuseState) → FusesAllowAll keeping F outcomes
  pub after : (keeping : Keeping) (F : ℕ → FuseState) → after_outcomes keeping F outcomes ≡ F

pub quiet_none : AreQuiet []
quiet_none = record {
  fails = λ r. refl;
  arms = λ r. refl;
  allowed = λ keeping F. tt;
  after = λ keeping F. refl;
}

pub quiet_done : AreQuiet (IsDone ∷ [])
quiet_done = record {
  fails = λ r. refl;
  arms = λ r. refl;
  allowed = λ keeping F. (tt, tt);
  after = λ keeping F. refl;
}

pub quiet_failure : AreQuiet (LinkFails ∷ [])
quiet_failure = record {
  fails = λ r. refl;
  arms = λ r. refl;
  allowed = λ keeping F. (tt, tt);
  after = λ keeping F. refl;
}

-- one thing after the other
pub quiet_then : {one other : List Outcome} → AreQuiet one → AreQuiet other → AreQuiet (one ++ other)
quiet_then {one} {other} first second = record {
  fails = λ r.
      count_append (is_store_failure r) one other ∙ ap₂ (λ (m n : ℕ). m + n) (first.fails r) (second.fails r);
  arms = λ r. count_append (is_arming r) one other ∙ ap₂ (λ (m n : ℕ). m + n) (first.arms r) (second.arms r);
  allowed = λ keeping F.
      allow_then keeping F one other (first.allowed keeping F)
      (subst (λ G. FusesAllowAll keeping G other) (sym (first.after keeping F)) (second.allowed keeping F));
  after = λ keeping F.
      after_then keeping F one other ∙ ap (λ G. after_outcomes keeping G other) (first.after keeping F)
      ∙ second.after keeping F;
}

-- leaves them as they are
pub quiet_follows : {D : Type 0} {faults : D → ℕ} {armings : D → Option ℕ} {outcomes : List Outcome}
    (x : List (Pair D)) → AreQuiet outcomes → DisksFollow faults armings outcomes x x
quiet_follows x quiet = follows_alike (λ r. sym (quiet.fails r)) (λ r. sym (quiet.arms r)) follows_none

module _ {K D : Type 0} {keep : Keep K} {disk : Disk D} where
  -- and their fuses
  pub quiet_fuses : {outcomes : List Outcome} {old new : List Member} (x : List (Pair D)) → AreQuiet outcomes
      → new ≡ old → FusesFollow keep disk outcomes old new x x
  quiet_fuses {outcomes} {old} {new} x quiet same = record {
    permit = record { all = λ fused told F stand. quiet.allowed (keeping_of keep) F };
    stand = λ fused told F stand.
        subst (λ G. FusesStand keep disk G new x) (sym (quiet.after (keeping_of keep) F))
        (subst (λ members. FusesStand keep disk F members x) (sym same) stand);
  }

  -- an action that asks nothing of them is carried out on them
  pub quiet_carried : {A : Type 0} (action : WholeAction A) (result : Result A Refusal) (old new : Whole)
      (x : List (Pair D)) → ((left : Effect Whole) → action old result left → AreQuiet left.outcomes)
      → new.members ≡ old.members → Carried (action old) result new → CarriedOn keep disk action result old new x x
  quiet_carried action (Ok a) old new x quiet same is = record {
    outcomes = is.outcomes;
    does = is.does;
    disks = quiet_follows x (quiet (record { outcomes = is.outcomes; after = new }) is.does);
    fuses = quiet_fuses x (quiet (record { outcomes = is.outcomes; after = new }) is.does) same;
  }
  quiet_carried action (Err refusal.Memory) old new x quiet same is = record {
    outcomes = [];
    does = tt;
    disks = follows_none;
    fuses = tt;
  }
  quiet_carried action (Err r) old new x quiet same is = record {
    outcomes = is.outcomes;
    does = is.does;
    disks = quiet_follows x (quiet (record { outcomes = is.outcomes; after = new }) is.does);
    fuses = quiet_fuses x (quiet (record { outcomes = is.outcomes; after = new }) is.does) same;
  }

  -- what asks nothing of the outside
  pub carried_none : {A : Type 0} (action : WholeAction A) (result : Result A Refusal) (old : Whole)
      (x : List (Pair D)) → OrMemory (λ given. action old given (unchanged old)) result
      → CarriedOn keep disk action result old old x x
  carried_none action result old x does = record {
    outcomes = [];
    does = does;
    disks = follows_none;
    fuses = or_memory (λ given. FusesFollow keep disk [] old.members old.members x x) result fuses_none;
  }

  -- want of memory is nothing that is carried out
  pub carried_memory : {A : Type 0} (action : WholeAction A) (old new : Whole) (x y : List (Pair D))
      → DisksFollow disk.faults disk.armings [] x y → CarriedOn keep disk action (Err refusal.Memory) old new x y
  carried_memory action old new x y follows = record { outcomes = []; does = tt; disks = follows; fuses = tt }

  -- what a command comes to, as an action on the world and its disks
  pub comes_to : {tells : Type 0} (old : Whole) (command : Command) (result : Result Answer Refusal)
      (new : Whole) (x y : List (Pair D))
      → CarriedOn keep disk (CarriesOut tells disk.tells command) result old new x y
      → (IsErrOf result refusal.Memory → TablesMayWantMemory old command)
      → ComesTo tells keep disk old command result new x y
  comes_to {tells} old command result new x y is wants = record {
    outcomes = is.outcomes;
    does = wanted_where (TablesMayWantMemory old command)
        (λ answer. CarriesOut tells disk.tells command old answer (record { outcomes = is.outcomes; after = new }))
        result is.does wants;
    disks = is.disks;
    fuses = is.fuses;
  }

  -- A save that isn't done: the member is down, and the event is pending; or memory was refused.
  module _ {A : Type 0} (action : WholeAction A) (old new : Whole) (by : ℕ)
      (was : Member) (next : Pending) (x y : List (Pair D)) where
    pub save_refused : (r : Refusal) → IsNumbered old.members by was
        → SavesNext keep disk by next (Err r) old new x y
        → (IsErrOf {T = Unit {0}} (Err r) refusal.Memory → StaysOn disk.faults disk.armings old new x y)
        → action old (Err refusal.Store) (not_saved old by was next)
        → CarriedOn keep disk action (Err r) old new x y
    save_refused refusal.Store is saves memory does = record {
      outcomes = SaveFails by ∷ [];
      does = subst
          (λ (w : Whole). action old (Err refusal.Store) (record { outcomes = SaveFails by ∷ []; after = w }))
          (sym (saves.0 was is)) does;
      disks = saves.1.disks;
      fuses = saves.1.fuses;
    }
    save_refused refusal.Memory is saves memory does = record {
      outcomes = [];
      does = tt;
      disks = (memory refl).disks;
      fuses = tt;
    }
    save_refused r is saves memory does = absurd saves

-- an action whose save is done
pub carried_saved : {A K D : Type 0} {keep : Keep K} {disk : Disk D} (action : WholeAction A) (given : A)
    (old new : Whole) (by : ℕ) (was : Member) (replica : Replica) (event : Event) (x y : List (Pair D))
    → new ≡ advanced old by was replica event
    → DisksComeTo keep disk (IsSaved by ∷ []) old.members new.members x y
    → action old (Ok given) (saved by (advanced old by was replica event))
    → CarriedOn keep disk action (Ok given) old new x y
carried_saved action given old new by was replica event x y is follows does = record {
  outcomes = IsSaved by ∷ [];
  does = subst (λ (w : Whole). action old (Ok given) (saved by w)) (sym is) does;
  disks = follows.disks;
  fuses = follows.fuses;
}

-- a command whose save is done
pub saved_done : {K D tells : Type 0} {keep : Keep K} {disk : Disk D} (old new : Whole) (command : Command) (by : ℕ)
    (was : Member) (replica : Replica) (event : Event) (answer : Answer) (x y : List (Pair D))
    → new ≡ advanced old by was replica event
    → DisksComeTo keep disk (IsSaved by ∷ []) old.members new.members x y
    → CarriesOut tells disk.tells command old (Ok answer) (saved by (advanced old by was replica event))
    → ComesTo tells keep disk old command (Ok answer) new x y
saved_done {tells = tells} {disk = disk} old new command by was replica event answer x y is follows does = record {
  outcomes = IsSaved by ∷ [];
  does = subst (λ (w : Whole). CarriesOut tells disk.tells command old (Ok answer) (saved by w)) (sym is) does;
  disks = follows.disks;
  fuses = follows.fuses;
}

-- two worlds that are the same, without their keepers
pub whole_is : {K : Type 0} {one other : Backed K} → one ≡ other → one.whole ≡ other.whole
whole_is same = ap (λ backed. backed.whole) same
