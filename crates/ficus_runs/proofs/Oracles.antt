-- What decides what becomes of all that is asked of the outside decides what commands come to.
use Rattle.std.proofs.Common.{◌≡◌, ℕ, List, [], ◌∷◌, ◌++◌, Result, Ok, Err, Some, refl, sym, ap, ap₂, subst, ◌∙◌}
use Rattle.ficus_ids.specs.declared.refusal.Refusal.{Refusal}
use Rattle.ficus_model.specs.declared.event.Event.{Event}
use Rattle.ficus_model.specs.Lawful.{Volume}
use Rattle.ficus_rules.specs.Rule.{Once}
use Rattle.ficus_script.specs.declared.answer.Answer.{Answer}
use Rattle.ficus_script.specs.declared.command.Command.{Command}
use Rattle.ficus_runs.specs.Actions.{ModelAction, Adds, Saves, Posts, Fetches, Opens, Arms, restarted, with_standing, down_from}
use Rattle.ficus_runs.specs.Actions.Adds.{Added}
use Rattle.ficus_runs.specs.Actions.Saves.{Saved, NotSaved}
use Rattle.ficus_runs.specs.Actions.Posts.{IsPosted, NotPosted}
use Rattle.ficus_runs.specs.Actions.Fetches.{Fetched, NotFetched}
use Rattle.ficus_runs.specs.Actions.Opens.{Opened, Found, NotOpened}
use Rattle.ficus_runs.specs.Actions.Arms.{Armed}
use Rattle.ficus_runs.specs.Answers.{answer_as}
use Rattle.ficus_runs.specs.ModelWorld.{ModelWorld, Posted}
use Rattle.ficus_runs.specs.Outcome.{Outcome, IsDone, LinkFails, IsSaved, SaveFails, IsOpened, IsFound, OpeningFails}
use Rattle.ficus_runs.specs.Run.{Does, Step, Run}
use Rattle.ficus_runs.specs.Run.Run.{End, Then}
use Rattle.ficus_runs.specs.Sequence.{First, ByRule, Effect, joined}
use Rattle.ficus_runs.specs.Sequence.First.{Ends, Goes}
use Rattle.ficus_runs.specs.Sequence.ByRule.{Says}
use Rattle.ficus_runs.specs.Outcomes.{all_outcomes}
use Rattle.ficus_runs.proofs.EachAction.{HoldsOfActions, does_holds}
use Rattle.ficus_runs.proofs.Numbers.{number_once}

-- What decides what becomes of all that is asked of the outside: what it allows as it stands, and how it stands after
-- that.
pub record Oracle (S : Type 0) : Type 1 where
  pub allows : S → Outcome → Type 0
  pub next : S → Outcome → S

-- of what may become of one thing it allows one at most
pub record AllowsOne {S : Type 0} (oracle : Oracle S) : Type 0 where
  pub done_or_failed : (s : S) → oracle.allows s IsDone → oracle.allows s LinkFails → ⊥
  pub saved_or_failed : (s : S) (r : ℕ) → oracle.allows s (IsSaved r) → oracle.allows s (SaveFails r) → ⊥
  pub opened_or_found : (s : S) (r : ℕ) → oracle.allows s (IsOpened r) → oracle.allows s (IsFound r) → ⊥
  pub opened_or_failed : (s : S) (r : ℕ) → oracle.allows s (IsOpened r) → oracle.allows s (OpeningFails r) → ⊥
  pub found_or_failed : (s : S) (r : ℕ) → oracle.allows s (IsFound r) → oracle.allows s (OpeningFails r) → ⊥

-- it allows each of these, as it stands after those before it
abbrev pub Agrees : {S : Type 0} → Oracle S → S → List Outcome → Type 0
Agrees oracle s [] = Unit {0}
Agrees oracle s (outcome ∷ outcomes) = oracle.allows s outcome × Agrees oracle (oracle.next s outcome) outcomes

-- how it stands after these
abbrev pub after_all : {S : Type 0} → Oracle S → S → List Outcome → S
after_all oracle s [] = s
after_all oracle s (outcome ∷ outcomes) = after_all oracle (oracle.next s outcome) outcomes

module _ {S : Type 0} (oracle : Oracle S) where
  agrees_first : (s : S) (one other : List Outcome) → Agrees oracle s (one ++ other) → Agrees oracle s one
  agrees_first s [] other agrees = tt
  agrees_first s (outcome ∷ one) other agrees =
      (agrees.0, agrees_first (oracle.next s outcome) one other agrees.1)

  agrees_behind : (s : S) (one other : List Outcome) → Agrees oracle s (one ++ other)
      → Agrees oracle (after_all oracle s one) other
  agrees_behind s [] other agrees = agrees
  agrees_behind s (outcome ∷ one) other agrees = agrees_behind (oracle.next s outcome) one other agrees.1

  -- what the oracle allows says what the action gives and leaves
  abbrev pub IsDecided : (A : Type 0) → ModelWorld → ModelAction A → Type 0
  IsDecided A old does =
      (one other : Result A Refusal) (left right : Effect ModelWorld) (s : S) → does old one left
      → does old other right → Agrees oracle s left.outcomes → Agrees oracle s right.outcomes
      → (one ≡ other) × (left ≡ right)

  module _ (allowing : AllowsOne oracle) where
    module _ {A B : Type 0} (first : ModelAction A) (rest : A → ModelAction B) (old : ModelWorld)
        (first_decided : IsDecided A old first)
        (rest_decided : (a : A) (left : Effect ModelWorld) → first old (Ok a) left → IsDecided B left.after (rest a))
      where
        behind_decided : IsDecided B old (First first rest)
        behind_decided one other left right s (Ends {refusal = r} is) (Ends {refusal = q} too) mine theirs =
            let e = first_decided (Err r) (Err q) left right s is too mine theirs in
            let f = e.0 in
            (ap Err (let h : r ≡ q = cc in h), e.1)
        behind_decided one other left right s (Ends {refusal = r} is)
            (Goes {a = a} {middle = n} {left = k} too then) mine theirs =
            let e = (first_decided (Err r) (Ok a) left n s is too mine
            (agrees_first s n.outcomes k.outcomes theirs)).0 in
            absurd (cc)
        behind_decided one other left right s (Goes {a = a} {middle = m} {left = l} is then)
            (Ends {refusal = r} too) mine theirs =
            let e = (first_decided (Ok a) (Err r) m right s is too (agrees_first s m.outcomes l.outcomes mine)
            theirs).0 in
            absurd (cc)
        behind_decided one other left right s (Goes {a = a} {middle = m} {left = l} is then)
            (Goes {a = b} {middle = n} {left = k} too then_too) mine theirs =
            let e = first_decided (Ok a) (Ok b) m n s is too (agrees_first s m.outcomes l.outcomes mine)
            (agrees_first s n.outcomes k.outcomes theirs) in
            let f = e.0 in
            let given : b ≡ a = cc in
            let r = rest_decided a m is one other l k (after_all oracle s m.outcomes) then
            (subst (λ (t : Effect ModelWorld). rest a t.after other k) (sym e.1)
            (subst (λ z. rest z n.after other k) given then_too))
            (agrees_behind s m.outcomes l.outcomes mine)
            (subst (λ (t : Effect ModelWorld). Agrees oracle (after_all oracle s t.outcomes) k.outcomes) (sym e.1)
            (agrees_behind s n.outcomes k.outcomes theirs)) in
            (r.0, ap₂ joined e.1 r.1)

    by_rule_decided : {A : Type 0} (rule : ModelWorld → Result A Refusal → Type 0) → ((W : ModelWorld) → Once (rule W))
        → (old : ModelWorld) → IsDecided A old (ByRule rule)
    by_rule_decided rule once old one other left right s (Says is) (Says too) mine theirs =
        (once old one other is too, refl)

    adds_decided : {A : Type 0} (given : ModelWorld → A) (event : Event) (old : ModelWorld)
        → IsDecided A old (Adds given event)
    adds_decided given event old one other left right s Added Added mine theirs = (refl, refl)

    saves_decided : {A : Type 0} (given : ModelWorld → A) (by : ℕ) (event : Event) (old : ModelWorld)
        → IsDecided A old (Saves given by event)
    saves_decided given by event old one other left right s Saved Saved mine theirs = (refl, refl)
    saves_decided given by event old one other left right s NotSaved NotSaved mine theirs = (refl, refl)
    saves_decided given by event old one other left right s Saved NotSaved mine theirs =
        absurd (allowing.saved_or_failed s by mine.0 theirs.0)
    saves_decided given by event old one other left right s NotSaved Saved mine theirs =
        absurd (allowing.saved_or_failed s by theirs.0 mine.0)

    posts_decided : (behind : Posted) (size : ℕ) (old : ModelWorld) → IsDecided ℕ old (Posts behind size)
    posts_decided behind size old one other left right s IsPosted IsPosted mine theirs = (refl, refl)
    posts_decided behind size old one other left right s NotPosted NotPosted mine theirs = (refl, refl)
    posts_decided behind size old one other left right s IsPosted NotPosted mine theirs =
        absurd (allowing.done_or_failed s mine.0 theirs.0)
    posts_decided behind size old one other left right s NotPosted IsPosted mine theirs =
        absurd (allowing.done_or_failed s theirs.0 mine.0)

    fetches_decided : (old : ModelWorld) → IsDecided (Unit {0}) old Fetches
    fetches_decided old one other left right s Fetched Fetched mine theirs = (refl, refl)
    fetches_decided old one other left right s NotFetched NotFetched mine theirs = (refl, refl)
    fetches_decided old one other left right s Fetched NotFetched mine theirs =
        absurd (allowing.done_or_failed s mine.0 theirs.0)
    fetches_decided old one other left right s NotFetched Fetched mine theirs =
        absurd (allowing.done_or_failed s theirs.0 mine.0)

    opens_decided : (volume : Volume) (by : ℕ) (old : ModelWorld) → IsDecided Answer old (Opens volume by)
    opens_decided volume by old one other left right s (Opened at) (Opened at_too) mine theirs = (refl, refl)
    opens_decided volume by old one other left right s (Found {event = e} at may) (Found {event = f} at_too may_too)
        mine theirs =
        let same = number_once at at_too in
        let events : e ≡ f = cc in
        (refl, ap (λ event. record { outcomes = IsFound by ∷ []; after = restarted old by (Some event) }) events)
    opens_decided volume by old one other left right s (NotOpened at) (NotOpened at_too) mine theirs = (
      refl,
      ap (λ standing. record { outcomes = OpeningFails by ∷ []; after = with_standing old by (down_from standing) })
          (number_once at at_too),
    )
    opens_decided volume by old one other left right s (Opened at) (Found at_too may) mine theirs =
        absurd (allowing.opened_or_found s by mine.0 theirs.0)
    opens_decided volume by old one other left right s (Found at may) (Opened at_too) mine theirs =
        absurd (allowing.opened_or_found s by theirs.0 mine.0)
    opens_decided volume by old one other left right s (Opened at) (NotOpened at_too) mine theirs =
        absurd (allowing.opened_or_failed s by mine.0 theirs.0)
    opens_decided volume by old one other left right s (NotOpened at) (Opened at_too) mine theirs =
        absurd (allowing.opened_or_failed s by theirs.0 mine.0)
    opens_decided volume by old one other left right s (Found at may) (NotOpened at_too) mine theirs =
        absurd (allowing.found_or_failed s by mine.0 theirs.0)
    opens_decided volume by old one other left right s (NotOpened at) (Found at_too may) mine theirs =
        absurd (allowing.found_or_failed s by theirs.0 mine.0)

    arms_decided : (by calls pick : ℕ) (old : ModelWorld) → IsDecided Answer old (Arms by calls pick)
    arms_decided by calls pick old one other left right s Armed Armed mine theirs = (refl, refl)

    actions_decided : (volume : Volume) → HoldsOfActions volume IsDecided
    actions_decided volume = record {
      behind = behind_decided;
      by_rule = by_rule_decided;
      adds = λ given event W none may. adds_decided given event W;
      serves = λ server ask served W now. adds_decided _ _ W;
      saves = λ given by event W up none may. saves_decided given by event W;
      posts = posts_decided;
      fetches = fetches_decided;
      opens = λ by W member. opens_decided volume by W;
    }

    -- so it decides one command,
    pub does_decided : (volume : Volume) (command : Command) (old : ModelWorld)
        → IsDecided Answer old (Does volume command)
    does_decided volume command =
        does_holds volume IsDecided (actions_decided volume) command (λ by calls pick same. arms_decided by calls pick)

    pub step_decided : {volume : Volume} {old new other : ModelWorld} {command : Command} {outcomes more : List Outcome}
        {answer again : Answer} (s : S) → Step volume old command outcomes answer new
        → Step volume old command more again other → Agrees oracle s outcomes → Agrees oracle s more
        → (outcomes ≡ more) × (answer ≡ again) × (new ≡ other)
    step_decided {volume} {old} {new} {other} {command} {outcomes} {more} s one two mine theirs =
        let is = does_decided volume command old one.result two.result (record { outcomes = outcomes; after = new })
        (record { outcomes = more; after = other }) s one.does two.does mine theirs in (
          ap (λ (left : Effect ModelWorld). left.outcomes) is.1,
          one.answer_is ∙ ap answer_as is.0 ∙ sym two.answer_is,
          ap (λ (left : Effect ModelWorld). left.after) is.1,
        )

    -- and commands, one after the other
    pub run_decided : {volume : Volume} {W V U : ModelWorld} {commands : List Command}
        {outcomes more : List (List Outcome)} {answers others : List Answer} (s : S)
        → Run volume W commands outcomes answers V → Run volume W commands more others U
        → Agrees oracle s (all_outcomes outcomes) → Agrees oracle s (all_outcomes more)
        → (outcomes ≡ more) × (answers ≡ others) × (V ≡ U)
    run_decided s End End mine theirs = (refl, refl, refl)
    run_decided {volume} {U = U} s
        (Then {commands = commands} {outcomes = one} {more = later} step rest)
        (Then {outcomes = two} {more = later_too} {answers = others} step_too rest_too) mine theirs =
        let same = step_decided s step step_too (agrees_first s one (all_outcomes later) mine)
        (agrees_first s two (all_outcomes later_too) theirs) in
        let ends = run_decided (after_all oracle s one) rest
        (subst (λ M. Run volume M commands later_too others U) (sym same.2) rest_too)
        (agrees_behind s one (all_outcomes later) mine)
        (subst (λ (asked : List Outcome). Agrees oracle (after_all oracle s asked) (all_outcomes later_too))
        (sym same.0) (agrees_behind s two (all_outcomes later_too) theirs)) in (
          ap₂ (λ (first : List Outcome) (behind : List (List Outcome)). first ∷ behind) same.0 ends.0,
          ap₂ (λ (first : Answer) (behind : List Answer). first ∷ behind) same.1 ends.1,
          ends.2,
        )
