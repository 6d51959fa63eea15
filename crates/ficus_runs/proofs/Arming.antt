-- Disks are armed by a stop alone.
use Rattle.std.proofs.Common.{◌≡◌, ◌≢◌, ℕ, ◌+◌, Bool, List, ◌∷◌, cond, Result, Ok, Err, refl, sym, ap, subst, ◌∙◌, inl, inr, ◌⊎◌, arith}
use Rattle.std.specs.Prelude.{Contains}
use Rattle.std.proofs.lemmas.Bool.{cases_eq, ne_eqb}
use Rattle.ficus_ids.specs.ListLaws.{here, there}
use Rattle.ficus_ids.specs.declared.refusal.Refusal.{Refusal}
use Rattle.ficus_model.specs.declared.event.Event.{Event}
use Rattle.ficus_model.specs.Lawful.{Volume}
use Rattle.ficus_rules.specs.Rule.{Once}
use Rattle.ficus_script.specs.declared.answer.Answer.{Answer}
use Rattle.ficus_script.specs.declared.command.Command.{Command}
use Rattle.ficus_script.specs.declared.command.Command.TheVariants.{Stop}
use Rattle.ficus_runs.specs.Actions.{ModelAction, Adds, Saves, Posts, Fetches, Opens, Arms}
use Rattle.ficus_runs.specs.Actions.Adds.{Added}
use Rattle.ficus_runs.specs.Actions.Saves.{Saved, NotSaved}
use Rattle.ficus_runs.specs.Actions.Posts.{IsPosted, NotPosted}
use Rattle.ficus_runs.specs.Actions.Fetches.{Fetched, NotFetched}
use Rattle.ficus_runs.specs.Actions.Opens.{Opened, Found, NotOpened}
use Rattle.ficus_runs.specs.Actions.Arms.{Armed}
use Rattle.ficus_runs.specs.ModelWorld.{ModelWorld, Posted}
use Rattle.ficus_runs.specs.Outcome.{Outcome, is_arming, armings_in}
use Rattle.ficus_runs.specs.Run.{DoesPart, Step, Run}
use Rattle.ficus_runs.specs.Run.Run.{End, Then}
use Rattle.ficus_runs.specs.Sequence.{First, ByRule, Cut, CutFirst, Effect, NothingDone}
use Rattle.ficus_runs.specs.Sequence.CutFirst.{InFirst, InRest}
use Rattle.ficus_runs.specs.Sequence.First.{Ends, Goes}
use Rattle.ficus_runs.specs.Sequence.ByRule.{Says}
use Rattle.ficus_runs.specs.Outcomes.{all_outcomes}
use Rattle.ficus_runs.proofs.EachAction.{HoldsOfActions, does_holds, part_holds}
use Rattle.ficus_runs.proofs.Outcomes.{count_append}

-- the command is a stop of this member
pub record IsStop (r : ℕ) (command : Command) : Type 0 where
  pub calls : ℕ
  pub pick : ℕ
  pub is : command ≡ Stop r calls pick

stop_or_not : (r : ℕ) (command : Command) → IsStop r command ⊎ ((calls pick : ℕ) → command ≢ Stop r calls pick)
stop_or_not r (Stop by calls pick) =
    elim (cases_eq by r) [
      | inl same ↦ inl (record { calls = calls; pick = pick; is = ap (λ n. Stop n calls pick) same })
      | inr differ ↦ inr (λ other another e. differ (let same : by ≡ r = cc in same))
    ]
stop_or_not r other = inr (λ calls pick e. cc)

module _ (r : ℕ) where
  -- the action doesn't arm the disks of member r
  abbrev IsUnarming : (A : Type 0) → ModelWorld → ModelAction A → Type 0
  IsUnarming A W does =
      (result : Result A Refusal) (left : Effect ModelWorld) → does W result left → armings_in r left.outcomes ≡ 0

  behind_unarming : {A B : Type 0} (first : ModelAction A) (rest : A → ModelAction B) (W : ModelWorld)
      → IsUnarming A W first
      → ((a : A) (left : Effect ModelWorld) → first W (Ok a) left → IsUnarming B left.after (rest a))
      → IsUnarming B W (First first rest)
  behind_unarming first rest W none behind result left (Ends {refusal = q} is) = none (Err q) left is
  behind_unarming first rest W none behind result left (Goes {a = a} {middle = m} {left = l} is next) =
      omega (
        arith,
        count_append (is_arming r) m.outcomes l.outcomes,
        none (Ok a) m is,
        behind a m is result l next,
      )

  by_rule_unarming : {A : Type 0} (rule : ModelWorld → Result A Refusal → Type 0) → ((W : ModelWorld) → Once (rule W))
      → (W : ModelWorld) → IsUnarming A W (ByRule rule)
  by_rule_unarming rule once W result left (Says is) = refl

  adds_unarming : {A : Type 0} (given : ModelWorld → A) (event : Event) (W : ModelWorld)
      → IsUnarming A W (Adds given event)
  adds_unarming given event W result left Added = refl

  saves_unarming : {A : Type 0} (given : ModelWorld → A) (by : ℕ) (event : Event) (W : ModelWorld)
      → IsUnarming A W (Saves given by event)
  saves_unarming given by event W result left Saved = refl
  saves_unarming given by event W result left NotSaved = refl

  posts_unarming : (behind : Posted) (size : ℕ) (W : ModelWorld) → IsUnarming ℕ W (Posts behind size)
  posts_unarming behind size W result left IsPosted = refl
  posts_unarming behind size W result left NotPosted = refl

  fetches_unarming : (W : ModelWorld) → IsUnarming (Unit {0}) W Fetches
  fetches_unarming W result left Fetched = refl
  fetches_unarming W result left NotFetched = refl

  opens_unarming : (volume : Volume) (by : ℕ) (W : ModelWorld) → IsUnarming Answer W (Opens volume by)
  opens_unarming volume by W result left (Opened at) = refl
  opens_unarming volume by W result left (Found at may) = refl
  opens_unarming volume by W result left (NotOpened at) = refl

  arms_unarming : (by calls pick : ℕ) → by ≢ r → (W : ModelWorld) → IsUnarming Answer W (Arms by calls pick)
  arms_unarming by calls pick other W result left Armed =
      ap (λ (armed : Bool). 0 + cond armed 1 0) (ne_eqb by r other)

  actions_unarming : (volume : Volume) → HoldsOfActions volume IsUnarming
  actions_unarming volume = record {
    behind = behind_unarming;
    by_rule = by_rule_unarming;
    adds = λ given event W none may. adds_unarming given event W;
    serves = λ server ask served W now. adds_unarming _ _ W;
    saves = λ given by event W up none may. saves_unarming given by event W;
    posts = posts_unarming;
    fetches = fetches_unarming;
    opens = λ by W member. opens_unarming volume by W;
  }

  -- nor does a command that is no stop of it
  pub step_unarming : {volume : Volume} {old new : ModelWorld} {command : Command} {outcomes : List Outcome}
      {answer : Answer} → Step volume old command outcomes answer new
      → ((calls pick : ℕ) → command ≢ Stop r calls pick) → armings_in r outcomes ≡ 0
  step_unarming {volume} {old} {new} {command} {outcomes} step no_stop =
      does_holds volume IsUnarming (actions_unarming volume) command
      (λ by calls pick same. arms_unarming by calls pick (λ here.
      no_stop calls pick (same ∙ ap (λ n. Stop n calls pick) here))) old step.result
      (record { outcomes = outcomes; after = new }) step.does

  -- also where memory is refused on the way
  abbrev IsUnarmingPart : ModelWorld → Cut ModelWorld → Type 0
  IsUnarmingPart W cut = (left : Effect ModelWorld) → cut W left → armings_in r left.outcomes ≡ 0

  nothing_unarming : (W : ModelWorld) → IsUnarmingPart W NothingDone
  nothing_unarming W left same = ap (λ (e : Effect ModelWorld). armings_in r e.outcomes) same

  cut_unarming : {A : Type 0} (first : ModelAction A) (cut : Cut ModelWorld) (rest : A → Cut ModelWorld)
      (W : ModelWorld) → IsUnarming A W first → IsUnarmingPart W cut
      → ((a : A) (left : Effect ModelWorld) → first W (Ok a) left → IsUnarmingPart left.after (rest a))
      → IsUnarmingPart W (CutFirst first cut rest)
  cut_unarming first cut rest W none cut_none behind left (InFirst is) = cut_none left is
  cut_unarming first cut rest W none cut_none behind left (InRest {a = a} {middle = m} {left = l} is next) =
      omega (arith, count_append (is_arming r) m.outcomes l.outcomes, none (Ok a) m is, behind a m is l next)

  pub part_unarming : (volume : Volume) (command : Command) (W : ModelWorld)
      → IsUnarmingPart W (DoesPart volume command)
  part_unarming volume =
      part_holds volume IsUnarming (actions_unarming volume) IsUnarmingPart
      (record { nothing = nothing_unarming; behind = cut_unarming })

  -- so where they are armed in a run, there is a stop
  pub run_arms : {volume : Volume} {old new : ModelWorld} {commands : List Command} {outcomes : List (List Outcome)}
      {answers : List Answer} → Run volume old commands outcomes answers new
      → armings_in r (all_outcomes outcomes) ≢ 0 → (calls : ℕ) × (pick : ℕ) × Contains commands (Stop r calls pick)
  run_arms End some = absurd (some refl)
  run_arms (Then {command = command} {commands = commands} {outcomes = first} {more = more} step rest) some =
      elim (stop_or_not r command) [
        | inl stop ↦ (
          stop.calls,
          stop.pick,
          subst (λ c. Contains (c ∷ commands) (Stop r stop.calls stop.pick)) (sym stop.is)
              (here (Stop r stop.calls stop.pick) commands),
        )
        | inr no_stop ↦
            let found = run_arms rest (λ none. some
            (count_append (is_arming r) first (all_outcomes more)
            ∙ omega (arith, step_unarming step no_stop, none))) in
            (found.0, found.1, there command (Stop r found.0 found.1) commands found.2)
      ]
