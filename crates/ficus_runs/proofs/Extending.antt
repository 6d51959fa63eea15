-- Commands only add to what has happened; so what a member knows to be removed is never alive there again.
use Rattle.std.proofs.Common.{◌≡◌, ℕ, List, [], ◌∷◌, ◌++◌, Result, Ok, Err, refl, sym, ap, subst, ◌∙◌, append_assoc}
use Rattle.std.proofs.lemmas.List.{append-nil}
use Rattle.ficus_ids.specs.declared.refusal.Refusal.{Refusal}
use Rattle.ficus_model.specs.declared.event.Event.{Event}
use Rattle.ficus_model.specs.declared.event.Event.TheVariants.{Restart}
use Rattle.ficus_model.specs.Known.{Knows}
use Rattle.ficus_model.specs.Lawful.{Volume}
use Rattle.ficus_model.specs.Live.{ModelEntry, IsLive, IsRemoved}
use Rattle.ficus_laws.proofs.OneMore.{within_more}
use Rattle.ficus_laws.proofs.Shown.{removed_within}
use Rattle.ficus_rules.specs.Rule.{Once}
use Rattle.ficus_script.specs.declared.answer.Answer.{Answer}
use Rattle.ficus_script.specs.declared.command.Command.{Command}
use Rattle.ficus_runs.specs.Actions.{ModelAction, Adds, Saves, Posts, Fetches, Opens, Arms}
use Rattle.ficus_runs.specs.Actions.Adds.{Added}
use Rattle.ficus_runs.specs.Actions.Saves.{Saved, NotSaved}
use Rattle.ficus_runs.specs.Actions.Posts.{IsPosted, NotPosted}
use Rattle.ficus_runs.specs.Actions.Fetches.{Fetched, NotFetched}
use Rattle.ficus_runs.specs.Actions.Opens.{Opened, Found, NotOpened}
use Rattle.ficus_runs.specs.Actions.Arms.{Armed}
use Rattle.ficus_runs.specs.ModelWorld.{ModelWorld, Posted}
use Rattle.ficus_runs.specs.Outcome.{Outcome}
use Rattle.ficus_runs.specs.Run.{DoesPart, Step, Run}
use Rattle.ficus_runs.specs.Run.Run.{End, Then}
use Rattle.ficus_runs.specs.Sequence.{First, ByRule, Cut, CutFirst, Effect, NothingDone}
use Rattle.ficus_runs.specs.Sequence.CutFirst.{InFirst, InRest}
use Rattle.ficus_runs.specs.Sequence.First.{Ends, Goes}
use Rattle.ficus_runs.specs.Sequence.ByRule.{Says}
use Rattle.ficus_runs.proofs.EachAction.{HoldsOfActions, does_holds, part_holds}

-- the one history begins with the other
pub record Extends (H longer : List Event) : Type 0 where
  pub later : List Event
  pub is : longer ≡ H ++ later

pub as_it_was : (H : List Event) → Extends H H
as_it_was H = record { later = []; is = sym (append-nil H) }

one_more : (H : List Event) (event : Event) → Extends H (H ++ event ∷ [])
one_more H event = record { later = event ∷ []; is = refl }

pub further : {H longer longest : List Event} → Extends H longer → Extends longer longest → Extends H longest
further {H} first second = record {
  later = first.later ++ second.later;
  is = second.is ∙ ap (λ front. front ++ second.later) first.is ∙ append_assoc H first.later second.later;
}

-- an action only adds to what has happened
abbrev IsAdding : (A : Type 0) → ModelWorld → ModelAction A → Type 0
IsAdding A W does =
    (result : Result A Refusal) (left : Effect ModelWorld) → does W result left → Extends W.events left.after.events

behind_extends : {A B : Type 0} (first : ModelAction A) (rest : A → ModelAction B) (W : ModelWorld)
    → IsAdding A W first → ((a : A) (left : Effect ModelWorld) → first W (Ok a) left → IsAdding B left.after (rest a))
    → IsAdding B W (First first rest)
behind_extends first rest W adding behind result left (Ends {refusal = r} is) = adding (Err r) left is
behind_extends first rest W adding behind result left (Goes {a = a} {middle = m} {left = l} is next) =
    further (adding (Ok a) m is) (behind a m is result l next)

by_rule_extends : {A : Type 0} (rule : ModelWorld → Result A Refusal → Type 0) → ((W : ModelWorld) → Once (rule W))
    → (W : ModelWorld) → IsAdding A W (ByRule rule)
by_rule_extends rule once W result left (Says is) = as_it_was W.events

adds_extends : {A : Type 0} (given : ModelWorld → A) (event : Event) (W : ModelWorld)
    → IsAdding A W (Adds given event)
adds_extends given event W result left Added = one_more W.events event

saves_extends : {A : Type 0} (given : ModelWorld → A) (by : ℕ) (event : Event) (W : ModelWorld)
    → IsAdding A W (Saves given by event)
saves_extends given by event W result left Saved = one_more W.events event
saves_extends given by event W result left NotSaved = as_it_was W.events

posts_extends : (behind : Posted) (size : ℕ) (W : ModelWorld) → IsAdding ℕ W (Posts behind size)
posts_extends behind size W result left IsPosted = as_it_was W.events
posts_extends behind size W result left NotPosted = as_it_was W.events

fetches_extends : (W : ModelWorld) → IsAdding (Unit {0}) W Fetches
fetches_extends W result left Fetched = as_it_was W.events
fetches_extends W result left NotFetched = as_it_was W.events

opens_extends : (volume : Volume) (by : ℕ) (W : ModelWorld) → IsAdding Answer W (Opens volume by)
opens_extends volume by W result left (Opened at) = one_more W.events (Restart by)
opens_extends volume by W result left (Found {event = event} at may) =
    further (one_more W.events event) (one_more (W.events ++ event ∷ []) (Restart by))
opens_extends volume by W result left (NotOpened at) = as_it_was W.events

arms_extends : (by calls pick : ℕ) (W : ModelWorld) → IsAdding Answer W (Arms by calls pick)
arms_extends by calls pick W result left Armed = as_it_was W.events

actions_extend : (volume : Volume) → HoldsOfActions volume IsAdding
actions_extend volume = record {
  behind = behind_extends;
  by_rule = by_rule_extends;
  adds = λ given event W none may. adds_extends given event W;
  serves = λ server ask served W now. adds_extends _ _ W;
  saves = λ given by event W up none may. saves_extends given by event W;
  posts = posts_extends;
  fetches = fetches_extends;
  opens = λ by W member. opens_extends volume by W;
}

pub step_extends : {volume : Volume} {old new : ModelWorld} {command : Command} {outcomes : List Outcome}
    {answer : Answer} → Step volume old command outcomes answer new → Extends old.events new.events
step_extends {volume} {old} {new} {command} {outcomes} step =
    does_holds volume IsAdding (actions_extend volume) command (λ by calls pick same. arms_extends by calls pick) old
    step.result (record { outcomes = outcomes; after = new }) step.does

-- also where memory is refused on the way
abbrev IsAddingPart : ModelWorld → Cut ModelWorld → Type 0
IsAddingPart W cut = (left : Effect ModelWorld) → cut W left → Extends W.events left.after.events

nothing_extends : (W : ModelWorld) → IsAddingPart W NothingDone
nothing_extends W left same =
    subst (λ (e : Effect ModelWorld). Extends W.events e.after.events) (sym same) (as_it_was W.events)

cut_extends : {A : Type 0} (first : ModelAction A) (cut : Cut ModelWorld) (rest : A → Cut ModelWorld) (W : ModelWorld)
    → IsAdding A W first → IsAddingPart W cut
    → ((a : A) (left : Effect ModelWorld) → first W (Ok a) left → IsAddingPart left.after (rest a))
    → IsAddingPart W (CutFirst first cut rest)
cut_extends first cut rest W adding cut_adding behind left (InFirst is) = cut_adding left is
cut_extends first cut rest W adding cut_adding behind left (InRest {a = a} {middle = m} {left = l} is next) =
    further (adding (Ok a) m is) (behind a m is l next)

pub part_extends : (volume : Volume) (command : Command) (W : ModelWorld) → IsAddingPart W (DoesPart volume command)
part_extends volume =
    part_holds volume IsAdding (actions_extend volume) IsAddingPart
    (record { nothing = nothing_extends; behind = cut_extends })

pub run_extends : {volume : Volume} {old new : ModelWorld} {commands : List Command} {outcomes : List (List Outcome)}
    {answers : List Answer} → Run volume old commands outcomes answers new → Extends old.events new.events
run_extends {old = old} End = as_it_was old.events
run_extends (Then step rest) = further (step_extends step) (run_extends rest)

pub run_never_returns : {volume : Volume} {old new : ModelWorld} {commands : List Command}
    {outcomes : List (List Outcome)} {answers : List Answer} → Run volume old commands outcomes answers new
    → (replica : ℕ) (entry : ModelEntry) → IsRemoved old.events (Knows old.events replica) entry.id
    → IsLive new.events (Knows new.events replica) entry → ⊥
run_never_returns {old = old} {new = new} run replica entry removed live =
    let more = run_extends run in
    let there = subst (λ H. IsLive H (Knows H replica) entry) more.is live in
    there.not_removed (removed_within (within_more old.events more.later replica) removed)
