-- Where nothing fails in a run, all that is asked of the outside is done, since all members stay up.
use Rattle.std.proofs.Common.{◌≡◌, ℕ, ◌+◌, ◌-◌, ◌<◌, ◌≤◌, ◌==◌, List, [], ◌∷◌, cond, Result, Ok, Err, Some, ◌≢◌, refl, sym, ◌∙◌, inl, inr, ◌⊎◌, arith, eq-eqb}
use Rattle.std.specs.Prelude.{replicate, slice_set}
use Rattle.std.proofs.lemmas.List.{get_or-replicate, length-replicate}
use Rattle.std.proofs.lemmas.Option.{get_or_from_slice_get}
use Rattle.ficus_ids.specs.declared.refusal.Refusal.{Refusal}
use Rattle.ficus_model.specs.declared.event.Event.{Event}
use Rattle.ficus_model.specs.Lawful.{Volume}
use Rattle.ficus_rules.specs.Rule.{Once}
use Rattle.ficus_script.specs.declared.answer.Answer.{Answer}
use Rattle.ficus_script.specs.declared.command.Command.{Command}
use Rattle.ficus_runs.specs.Actions.{ModelAction, Adds, Saves, Posts, Fetches, Opens, Arms}
use Rattle.ficus_runs.specs.Actions.Adds.{Added}
use Rattle.ficus_runs.specs.Actions.Saves.{Saved, NotSaved}
use Rattle.ficus_runs.specs.Actions.Posts.{IsPosted, NotPosted}
use Rattle.ficus_runs.specs.Actions.Fetches.{Fetched, NotFetched}
use Rattle.ficus_runs.specs.Actions.Opens.{Opened, Found, NotOpened}
use Rattle.ficus_runs.specs.Actions.Arms.{Armed}
use Rattle.ficus_runs.specs.ModelWorld.{ModelWorld, Posted, Standing, Up, Down}
use Rattle.ficus_runs.specs.Numbered.{IsNumbered}
use Rattle.ficus_runs.specs.Outcome.{Outcome, LinkFails, SaveFails, OpeningFails, AllDone}
use Rattle.ficus_runs.specs.Run.{Step, Run, EachDone}
use Rattle.ficus_runs.specs.Run.Run.{End, Then}
use Rattle.ficus_runs.specs.Sequence.{First, ByRule, Effect}
use Rattle.ficus_runs.specs.Sequence.First.{Ends, Goes}
use Rattle.ficus_runs.specs.Sequence.ByRule.{Says}
use Rattle.ficus_runs.specs.Outcomes.{all_outcomes, NothingFails}
use Rattle.ficus_runs.proofs.EachAction.{HoldsOfActions, does_holds}
use Rattle.ficus_runs.proofs.Outcomes.{done_append, nothing_fails_both}
use Rattle.ficus_runs.proofs.Replaced.{replaced}

-- each member is up
pub record AreUp (standings : List Standing) : Type 0 where
  pub each : (r : ℕ) (standing : Standing) → IsNumbered standings r standing → standing ≡ Up

-- as they all are at the start,
pub up_first : (members : ℕ) → AreUp (replicate members Up)
up_first members = record {
  each = λ r standing is.
      let within : r - 1 < members =
      omega (arith, is.member.at_least, is.member.at_most, length-replicate members Up) in
      sym (get_or_from_slice_get (replicate members Up) (r - 1) standing standing is.is)
      ∙ get_or-replicate members (r - 1) Up standing within;
}

-- and as it stays where one more is
up_again : (standings : List Standing) (by : ℕ) → 1 ≤ by → AreUp standings
    → AreUp (slice_set standings (by - 1) Up)
up_again standings by one up = record {
  each = λ r standing is. go r standing (replaced standings by r Up standing one is);
}
  where
    go : (r : ℕ) (standing : Standing) → ((r ≡ by) × (standing ≡ Up)) ⊎ ((by ≢ r) × IsNumbered standings r standing)
        → standing ≡ Up
    go r standing (inl here) = here.1
    go r standing (inr there) = up.each r standing there.1

counted : (r : ℕ) → 0 + cond (r == r) 1 0 ≡ 0 → ⊥
counted r none = omega (arith, rw (eq-eqb r r refl) at none)

pub link_failed : NothingFails (LinkFails ∷ []) → ⊥
link_failed none = omega (arith, none.link)

pub save_failed : (by : ℕ) → NothingFails (SaveFails by ∷ []) → ⊥
save_failed by none = counted by (none.stores by)

opening_failed : (by : ℕ) → NothingFails (OpeningFails by ∷ []) → ⊥
opening_failed by none = counted by (none.stores by)

-- from a world in which all members are up an action in which nothing fails does all, and they stay up
abbrev StaysUp : (A : Type 0) → ModelWorld → ModelAction A → Type 0
StaysUp A W does =
    (result : Result A Refusal) (left : Effect ModelWorld) → AreUp W.standings → NothingFails left.outcomes
    → does W result left → AllDone left.outcomes × AreUp left.after.standings

behind_up : {A B : Type 0} (first : ModelAction A) (rest : A → ModelAction B) (W : ModelWorld) → StaysUp A W first
    → ((a : A) (left : Effect ModelWorld) → first W (Ok a) left → StaysUp B left.after (rest a))
    → StaysUp B W (First first rest)
behind_up first rest W stays behind result left up none (Ends {refusal = r} is) = stays (Err r) left up none is
behind_up first rest W stays behind result left up none (Goes {a = a} {middle = m} {left = l} is next) =
    let parts = nothing_fails_both m.outcomes l.outcomes none in
    let here = stays (Ok a) m up parts.0 is in
    let there = behind a m is result l here.1 parts.1 next in
    (done_append m.outcomes l.outcomes here.0 there.0, there.1)

by_rule_up : {A : Type 0} (rule : ModelWorld → Result A Refusal → Type 0) → ((W : ModelWorld) → Once (rule W))
    → (W : ModelWorld) → StaysUp A W (ByRule rule)
by_rule_up rule once W result left up none (Says is) = (tt, up)

adds_up : {A : Type 0} (given : ModelWorld → A) (event : Event) (W : ModelWorld) → StaysUp A W (Adds given event)
adds_up given event W result left up none Added = (tt, up)

saves_up : {A : Type 0} (given : ModelWorld → A) (by : ℕ) (event : Event) (W : ModelWorld)
    → StaysUp A W (Saves given by event)
saves_up given by event W result left up none Saved = ((refl, tt), up)
saves_up given by event W result left up none NotSaved = absurd (save_failed by none)

posts_up : (behind : Posted) (size : ℕ) (W : ModelWorld) → StaysUp ℕ W (Posts behind size)
posts_up behind size W result left up none IsPosted = ((refl, tt), up)
posts_up behind size W result left up none NotPosted = absurd (link_failed none)

fetches_up : (W : ModelWorld) → StaysUp (Unit {0}) W Fetches
fetches_up W result left up none Fetched = ((refl, tt), up)
fetches_up W result left up none NotFetched = absurd (link_failed none)

opens_up : (volume : Volume) (by : ℕ) (W : ModelWorld) → StaysUp Answer W (Opens volume by)
opens_up volume by W result left up none (Opened at) =
    ((refl, tt), up_again W.standings by at.member.at_least up)
opens_up volume by W result left up none (Found {event = event} at may) =
    let none_down = up.each by (Down (Some event)) at in absurd (cc)
opens_up volume by W result left up none (NotOpened at) = absurd (opening_failed by none)

arms_up : (by calls pick : ℕ) (W : ModelWorld) → StaysUp Answer W (Arms by calls pick)
arms_up by calls pick W result left up none Armed = ((refl, tt), up)

actions_up : (volume : Volume) → HoldsOfActions volume StaysUp
actions_up volume = record {
  behind = behind_up;
  by_rule = by_rule_up;
  adds = λ given event W none may. adds_up given event W;
  serves = λ server ask served W now. adds_up _ _ W;
  saves = λ given by event W up none may. saves_up given by event W;
  posts = posts_up;
  fetches = fetches_up;
  opens = λ by W member. opens_up volume by W;
}

pub step_up : {volume : Volume} {old new : ModelWorld} {command : Command} {outcomes : List Outcome}
    {answer : Answer} → Step volume old command outcomes answer new → AreUp old.standings → NothingFails outcomes
    → AllDone outcomes × AreUp new.standings
step_up {volume} {old} {new} {command} {outcomes} step up none =
    does_holds volume StaysUp (actions_up volume) command (λ by calls pick same. arms_up by calls pick) old
    step.result (record { outcomes = outcomes; after = new }) up none step.does

pub run_up : {volume : Volume} {old new : ModelWorld} {commands : List Command} {outcomes : List (List Outcome)}
    {answers : List Answer} → Run volume old commands outcomes answers new → AreUp old.standings
    → NothingFails (all_outcomes outcomes) → EachDone outcomes × AreUp new.standings
run_up End up none = (tt, up)
run_up (Then {outcomes = first} {more = more} step rest) up none =
    let parts = nothing_fails_both first (all_outcomes more) none in
    let here = step_up step up parts.0 in
    let there = run_up rest here.1 parts.1 in
    ((here.0, there.0), there.1)
