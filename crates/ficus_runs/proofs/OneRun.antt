-- A run follows from its commands, and from what decides what becomes of what they ask of the outside: from what did
-- become of it, from its being done, or from the fuses of the members' disks.
use Rattle.std.proofs.Common.{◌≡◌, ◌≢◌, ℕ, true, List, [], ◌∷◌, refl, sym, subst, ◌∙◌, arith}
use Rattle.ficus_model.specs.Lawful.{Volume}
use Rattle.ficus_script.specs.declared.answer.Answer.{Answer}
use Rattle.ficus_script.specs.declared.command.Command.{Command}
use Rattle.ficus_runs.specs.Fuses.{Keeping, FuseState, FusesAllow, FusesAllowAll, after_outcome}
use Rattle.ficus_runs.specs.ModelWorld.{ModelWorld}
use Rattle.ficus_runs.specs.Outcome.{Outcome, IsDone, LinkFails, IsSaved, SaveFails, IsOpened, IsFound, OpeningFails, AllDone, is_done, is_link_failure, link_failures}
use Rattle.ficus_runs.specs.Run.{Run, EachDone}
use Rattle.ficus_runs.specs.Outcomes.{all_outcomes}
use Rattle.ficus_runs.proofs.Oracles.{Oracle, AllowsOne, Agrees, run_decided}
use Rattle.ficus_runs.proofs.Outcomes.{count_append, all_done}

-- the first of those that are expected
abbrev IsNext : List Outcome → Outcome → Type 0
IsNext [] outcome = ⊥
IsNext (first ∷ rest) outcome = outcome ≡ first

-- and those behind it
abbrev those_behind : List Outcome → List Outcome
those_behind [] = []
those_behind (first ∷ rest) = rest

one_next : (expected : List Outcome) (one other : Outcome) → one ≢ other → IsNext expected one → IsNext expected other
    → ⊥
one_next [] one other differ none too = none
one_next (first ∷ rest) one other differ is too = differ (is ∙ sym too)

-- what became of it is what is expected
abbrev by_outcomes : Oracle (List Outcome)
by_outcomes = record {
  allows = IsNext;
  next = λ expected outcome. those_behind expected;
}

one_outcome : AllowsOne by_outcomes
one_outcome = record {
  done_or_failed = λ expected. one_next expected IsDone LinkFails (λ e. cc);
  saved_or_failed = λ expected r. one_next expected (IsSaved r) (SaveFails r) (λ e. cc);
  opened_or_found = λ expected r. one_next expected (IsOpened r) (IsFound r) (λ e. cc);
  opened_or_failed = λ expected r. one_next expected (IsOpened r) (OpeningFails r) (λ e. cc);
  found_or_failed = λ expected r. one_next expected (IsFound r) (OpeningFails r) (λ e. cc);
}

as_expected : (outcomes : List Outcome) → Agrees by_outcomes outcomes outcomes
as_expected [] = tt
as_expected (outcome ∷ outcomes) = (refl, as_expected outcomes)

-- all is done
abbrev by_doing : Oracle (Unit {0})
by_doing = record {
  allows = λ always outcome. is_done outcome ≡ true;
  next = λ always outcome. always;
}

one_done : AllowsOne by_doing
one_done = record {
  done_or_failed = λ always is too. cc;
  saved_or_failed = λ always r is too. cc;
  opened_or_found = λ always r is too. cc;
  opened_or_failed = λ always r is too. cc;
  found_or_failed = λ always r is too. cc;
}

as_done : (outcomes : List Outcome) → AllDone outcomes → Agrees by_doing tt outcomes
as_done [] done = tt
as_done (outcome ∷ outcomes) done = (done.0, as_done outcomes done.1)

-- the fuses allow it, and the link doesn't fail
abbrev by_fuses : Keeping → Oracle (ℕ → FuseState)
by_fuses keeping = record {
  allows = λ F outcome. FusesAllow keeping F outcome × (outcome ≢ LinkFails);
  next = after_outcome keeping;
}

one_allowed : (keeping : Keeping) → AllowsOne (by_fuses keeping)
one_allowed keeping = record {
  done_or_failed = λ F is too. too.1 refl;
  saved_or_failed = λ F r is too. let yes = is.0 in let no = too.0 in cc;
  opened_or_found = λ F r is too. let no = is.0 in let yes = too.0 in cc;
  opened_or_failed = λ F r is too. too.0;
  found_or_failed = λ F r is too. too.0;
}

no_link_failure : (outcome : Outcome) (outcomes : List Outcome) → link_failures (outcome ∷ outcomes) ≡ 0
    → outcome ≢ LinkFails
no_link_failure outcome outcomes none failed =
    let there = subst (λ first. link_failures (first ∷ outcomes) ≡ 0) failed none in
    omega (arith, there, count_append is_link_failure (LinkFails ∷ []) outcomes)

as_fuses_allow : (keeping : Keeping) (F : ℕ → FuseState) (outcomes : List Outcome) → FusesAllowAll keeping F outcomes
    → link_failures outcomes ≡ 0 → Agrees (by_fuses keeping) F outcomes
as_fuses_allow keeping F [] allowed none = tt
as_fuses_allow keeping F (outcome ∷ outcomes) allowed none = (
  (allowed.0, no_link_failure outcome outcomes none),
  as_fuses_allow keeping (after_outcome keeping F outcome) outcomes allowed.1
      (omega (arith, none, count_append is_link_failure (outcome ∷ []) outcomes)),
)

module _ {volume : Volume} {W V U : ModelWorld} {commands : List Command} {answers others : List Answer} where
  pub run_once : {outcomes : List (List Outcome)} → Run volume W commands outcomes answers V
      → Run volume W commands outcomes others U → (answers ≡ others) × (V ≡ U)
  run_once {outcomes} one two =
      let agrees = as_expected (all_outcomes outcomes) in
      let same = run_decided by_outcomes one_outcome (all_outcomes outcomes) one two agrees agrees in
      (same.1, same.2)

  pub done_run_once : {outcomes more : List (List Outcome)} → EachDone outcomes → EachDone more
      → Run volume W commands outcomes answers V → Run volume W commands more others U
      → (outcomes ≡ more) × (answers ≡ others) × (V ≡ U)
  done_run_once {outcomes} {more} done done_too one two =
      run_decided by_doing one_done tt one two (as_done (all_outcomes outcomes) (all_done outcomes done))
      (as_done (all_outcomes more) (all_done more done_too))

  pub fused_run_once : {outcomes more : List (List Outcome)} (keeping : Keeping) (F : ℕ → FuseState)
      → Run volume W commands outcomes answers V → Run volume W commands more others U
      → FusesAllowAll keeping F (all_outcomes outcomes) → FusesAllowAll keeping F (all_outcomes more)
      → link_failures (all_outcomes outcomes) ≡ 0 → link_failures (all_outcomes more) ≡ 0
      → (outcomes ≡ more) × (answers ≡ others) × (V ≡ U)
  fused_run_once {outcomes} {more} keeping F one two allowed allowed_too none none_too =
      run_decided (by_fuses keeping) (one_allowed keeping) F one two
      (as_fuses_allow keeping F (all_outcomes outcomes) allowed none)
      (as_fuses_allow keeping F (all_outcomes more) allowed_too none_too)
