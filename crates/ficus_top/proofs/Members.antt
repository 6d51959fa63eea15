-- What commands ask of disks they ask of the disks of members.
use Rattle.std.proofs.Common.{◌≡◌, ℕ, ◌+◌, ◌==◌, Bool, List, ◌++◌, cond, length, Result, Ok, Err, refl, ap, subst, ◌∙◌, arith}
use Rattle.std.proofs.lemmas.Bool.{ne_eqb}
use Rattle.std.proofs.lemmas.List.{length-set}
use Rattle.ficus_ids.specs.Members.{IsMember}
use Rattle.ficus_ids.specs.declared.refusal.Refusal.{Refusal}
use Rattle.ficus_model.specs.declared.event.Event.{Event}
use Rattle.ficus_model.specs.Lawful.{Volume}
use Rattle.ficus_script.specs.declared.answer.Answer.{Answer}
use Rattle.ficus_script.specs.declared.command.Command.{Command}
use Rattle.ficus_runs.specs.Actions.{ModelAction, Adds, Saves, Posts, Fetches, Opens, Arms}
use Rattle.ficus_runs.specs.Actions.Adds.{Added}
use Rattle.ficus_runs.specs.Actions.Saves.{Saved, NotSaved}
use Rattle.ficus_runs.specs.Actions.Posts.{IsPosted, NotPosted}
use Rattle.ficus_runs.specs.Actions.Fetches.{Fetched, NotFetched}
use Rattle.ficus_runs.specs.Actions.Opens.{Opened, Found, NotOpened}
use Rattle.ficus_runs.specs.Actions.Arms.{Armed}
use Rattle.ficus_runs.specs.ModelWorld.{ModelWorld, Posted, IsUp}
use Rattle.ficus_runs.specs.Outcome.{Outcome, is_store_failure, store_failures}
use Rattle.ficus_runs.specs.Run.{Does, Run, Step}
use Rattle.ficus_runs.specs.Run.Run.{End, Then}
use Rattle.ficus_runs.specs.Sequence.{First, ByRule, Effect}
use Rattle.ficus_runs.specs.Sequence.First.{Ends, Goes}
use Rattle.ficus_runs.specs.Sequence.ByRule.{Says}
use Rattle.ficus_runs.specs.Outcomes.{all_outcomes}
use Rattle.ficus_runs.proofs.EachAction.{HoldsOfActions, does_holds}
use Rattle.ficus_runs.proofs.Outcomes.{count_append}

module _ (members : ℕ) where
  -- no disk of another than these members failed
  abbrev pub SparesOthers : List Outcome → Type 0
  SparesOthers outcomes = (r : ℕ) → (IsMember members r → ⊥) → store_failures r outcomes ≡ 0

  -- there are as many members afterwards, and no other's disk failed
  record IsAmong (left : Effect ModelWorld) : Type 0 where
    count : length left.after.standings ≡ members
    spares : SparesOthers left.outcomes

  -- so it is of what the action leaves of this world
  abbrev StaysAmong : (A : Type 0) → ModelWorld → ModelAction A → Type 0
  StaysAmong A W does =
      (result : Result A Refusal) (left : Effect ModelWorld) → length W.standings ≡ members → does W result left
      → IsAmong left

  spares_both : (one other : List Outcome) → SparesOthers one → SparesOthers other → SparesOthers (one ++ other)
  spares_both one other spares spares_too r none =
      omega (arith, count_append (is_store_failure r) one other, spares r none, spares_too r none)

  behind_among : {A B : Type 0} (first : ModelAction A) (rest : A → ModelAction B) (W : ModelWorld)
      → StaysAmong A W first
      → ((a : A) (left : Effect ModelWorld) → first W (Ok a) left → StaysAmong B left.after (rest a))
      → StaysAmong B W (First first rest)
  behind_among first rest W stays behind result left count (Ends {refusal = r} is) = stays (Err r) left count is
  behind_among first rest W stays behind result left count (Goes {a = a} {middle = m} {left = l} is next) =
      let here = stays (Ok a) m count is in
      let there = behind a m is result l here.count next in
      record { count = there.count; spares = spares_both m.outcomes l.outcomes here.spares there.spares }

  by_rule_among : {A : Type 0} (rule : ModelWorld → Result A Refusal → Type 0) (W : ModelWorld)
      → StaysAmong A W (ByRule rule)
  by_rule_among rule W result left count (Says is) = record { count = count; spares = λ r none. refl }

  failed_once : (by r : ℕ) → IsMember members by → (IsMember members r → ⊥)
      → 0 + cond (by == r) 1 0 ≡ 0
  failed_once by r member none =
      ap (λ (failed : Bool). 0 + cond failed 1 0)
      (ne_eqb by r (λ same. none (subst (IsMember members) same member)))

  saves_among : {A : Type 0} (given : ModelWorld → A) (by : ℕ) (event : Event) (W : ModelWorld) → IsUp by W
      → StaysAmong A W (Saves given by event)
  saves_among given by event W up result left count Saved = record { count = count; spares = λ r none. refl }
  saves_among given by event W up result left count NotSaved = record {
    count = length-set W.standings _ _ ∙ count;
    spares = λ r none. failed_once by r (subst (λ n. IsMember n by) count up.member) none;
  }

  adds_among : {A : Type 0} (given : ModelWorld → A) (event : Event) (W : ModelWorld)
      → StaysAmong A W (Adds given event)
  adds_among given event W result left count Added = record { count = count; spares = λ r none. refl }

  posts_among : (behind : Posted) (size : ℕ) (W : ModelWorld) → StaysAmong ℕ W (Posts behind size)
  posts_among behind size W result left count IsPosted = record { count = count; spares = λ r none. refl }
  posts_among behind size W result left count NotPosted = record { count = count; spares = λ r none. refl }

  fetches_among : (W : ModelWorld) → StaysAmong (Unit {0}) W Fetches
  fetches_among W result left count Fetched = record { count = count; spares = λ r none. refl }
  fetches_among W result left count NotFetched = record { count = count; spares = λ r none. refl }

  opens_among : (volume : Volume) (by : ℕ) (W : ModelWorld) → StaysAmong Answer W (Opens volume by)
  opens_among volume by W result left count (Opened at) = record {
    count = length-set W.standings _ _ ∙ count;
    spares = λ r none. refl;
  }
  opens_among volume by W result left count (Found at may) = record {
    count = length-set W.standings _ _ ∙ count;
    spares = λ r none. refl;
  }
  opens_among volume by W result left count (NotOpened at) = record {
    count = length-set W.standings _ _ ∙ count;
    spares = λ r none. failed_once by r (subst (λ n. IsMember n by) count at.member) none;
  }

  arms_among : (by calls pick : ℕ) (W : ModelWorld) → StaysAmong Answer W (Arms by calls pick)
  arms_among by calls pick W result left count Armed = record { count = count; spares = λ r none. refl }

  actions_among : (volume : Volume) → HoldsOfActions volume StaysAmong
  actions_among volume = record {
    behind = behind_among;
    by_rule = λ rule once. by_rule_among rule;
    adds = λ given event W none may. adds_among given event W;
    serves = λ server ask served W now. adds_among _ _ W;
    saves = λ given by event W up none may. saves_among given by event W up;
    posts = posts_among;
    fetches = fetches_among;
    opens = λ by W member. opens_among volume by W;
  }

  does_among : (volume : Volume) (command : Command) (W : ModelWorld) → StaysAmong Answer W (Does volume command)
  does_among volume command =
      does_holds volume StaysAmong (actions_among volume) command (λ by calls pick same. arms_among by calls pick)

-- in a run no disk of another than its members failed
pub run_spares : {volume : Volume} {members : ℕ} {old new : ModelWorld} {commands : List Command}
    {outcomes : List (List Outcome)} {answers : List Answer} → Run volume old commands outcomes answers new
    → length old.standings ≡ members → SparesOthers members (all_outcomes outcomes)
run_spares End count = λ r none. refl
run_spares {volume} {members} {old}
    (Then {middle = middle} {command = command} {outcomes = first} {more = more} step rest) count =
    let here = does_among members volume command old step.result
    (record { outcomes = first; after = middle }) count step.does in
    spares_both members first (all_outcomes more) here.spares (run_spares rest here.count)

-- a command and a run leave as many standings
pub step_count : {volume : Volume} {old new : ModelWorld} {command : Command} {outcomes : List Outcome}
    {answer : Answer} → Step volume old command outcomes answer new → length old.standings ≡ volume.members
    → length new.standings ≡ volume.members
step_count {volume} {old} {new} {command} {outcomes} step count =
    (does_among volume.members volume command old step.result (record { outcomes = outcomes; after = new }) count
    step.does).count

pub run_count : {volume : Volume} {old new : ModelWorld} {commands : List Command} {outcomes : List (List Outcome)}
    {answers : List Answer} → Run volume old commands outcomes answers new → length old.standings ≡ volume.members
    → length new.standings ≡ volume.members
run_count End count = count
run_count (Then step rest) count = run_count rest (step_count step count)
