-- Commands leave a lawful history, also where memory is refused on the way, and keep what holds of every world of a run.
use Rattle.std.proofs.Common.{◌≡◌, ℕ, ◌-◌, List, length, Result, Ok, Err, Some, refl, sym, subst, inl, inr, ◌⊎◌}
use Rattle.ficus_ids.specs.Members.{IsMember}
use Rattle.ficus_ids.specs.declared.refusal.Refusal.{Refusal}
use Rattle.ficus_model.specs.declared.event.Event.{Event}
use Rattle.ficus_model.specs.declared.event.Event.TheVariants as event
use Rattle.ficus_model.specs.Lawful.{Volume, MayCome, IsLawful}
use Rattle.ficus_laws.proofs.Lawful.{lawful_more}
use Rattle.ficus_rules.specs.Rule.{Once}
use Rattle.ficus_script.specs.declared.answer.Answer.{Answer}
use Rattle.ficus_script.specs.declared.command.Command.{Command}
use Rattle.ficus_runs.specs.Actions.{ModelAction, Adds, Saves, Posts, Fetches, Opens, Arms, down_from, next_position, with_event, with_post, with_standing}
use Rattle.ficus_runs.specs.Actions.Adds.{Added}
use Rattle.ficus_runs.specs.Actions.Saves.{Saved, NotSaved}
use Rattle.ficus_runs.specs.Actions.Posts.{IsPosted, NotPosted}
use Rattle.ficus_runs.specs.Actions.Fetches.{Fetched, NotFetched}
use Rattle.ficus_runs.specs.Actions.Opens.{Opened, Found, NotOpened}
use Rattle.ficus_runs.specs.Actions.Arms.{Armed}
use Rattle.ficus_runs.specs.Exchange.{IsServedNow, Served}
use Rattle.ficus_runs.specs.ModelWorld.{ModelWorld, Posted, Standing, Up, Down, IsUp}
use Rattle.ficus_runs.specs.Numbered.{IsNumbered}
use Rattle.ficus_runs.specs.Outcome.{Outcome}
use Rattle.ficus_runs.specs.Run.{DoesPart, Step, Run}
use Rattle.ficus_runs.specs.Run.Run.{End, Then}
use Rattle.ficus_runs.specs.RunWorld.{IsNoServe, IsRunWorld}
use Rattle.ficus_runs.specs.Sequence.{First, ByRule, Cut, CutFirst, Effect, NothingDone}
use Rattle.ficus_runs.specs.Sequence.First.{Ends, Goes}
use Rattle.ficus_runs.specs.Sequence.ByRule.{Says}
use Rattle.ficus_runs.specs.Sequence.CutFirst.{InFirst, InRest}
use Rattle.ficus_runs.proofs.EachAction.{HoldsOfActions, does_holds, part_holds}
use Rattle.ficus_runs.proofs.Replaced.{either_placed}
use Rattle.ficus_runs.proofs.Serving.{serves_all, serves_more, serves_other}

-- What holds of a world holds of it still once an event has happened that may: another than a Serve, the Serve of what a
-- member saves, or one that was pending; once a message is posted; and once a member stands otherwise, where no Serve
-- becomes pending.
pub record IsKept (volume : Volume) (P : ModelWorld → Type 0) : Type 0 where
  pub other : (W : ModelWorld) (next : Event) → IsNoServe next → MayCome volume W.events next → P W
      → P (with_event W next)
  pub serve : (W : ModelWorld) (server ask : ℕ) (served : Served) → IsServedNow volume W.events server ask served → P W
      → P (with_event W (event.Serve server ask served.state (length served.messages)))
  pub found : (W : ModelWorld) (by : ℕ) (next : Event) → IsNumbered W.standings by (Down (Some next))
      → MayCome volume W.events next → P W → P (with_event W next)
  pub post : (W : ModelWorld) (posted : Posted) (size : ℕ) → P W → P (with_post W posted size)
  pub standing : (W : ModelWorld) (by : ℕ) (standing : Standing)
      → ((next : Event) → standing ≡ Down (Some next) → IsNoServe next ⊎ IsNumbered W.standings by (Down (Some next)))
      → P W → P (with_standing W by standing)

module _ (volume : Volume) (P : ModelWorld → Type 0) (kept : IsKept volume P) where
  -- a history that stays lawful beside it
  abbrev Both : ModelWorld → Type 0
  Both W = IsLawful volume W.events × P W

  -- the action leads from such a world to another
  abbrev Keeps : (A : Type 0) → ModelWorld → ModelAction A → Type 0
  Keeps A W does = (result : Result A Refusal) (left : Effect ModelWorld) → Both W → does W result left → Both left.after

  -- and so does what is cut short
  abbrev CutKeeps : ModelWorld → Cut ModelWorld → Type 0
  CutKeeps W cut = (left : Effect ModelWorld) → Both W → cut W left → Both left.after

  first_kept : {A B : Type 0} (first : ModelAction A) (rest : A → ModelAction B) (W : ModelWorld) → Keeps A W first
      → ((a : A) (left : Effect ModelWorld) → first W (Ok a) left → Keeps B left.after (rest a))
      → Keeps B W (First first rest)
  first_kept first rest W keeps behind result left world (Ends {refusal = r} is) = keeps (Err r) left world is
  first_kept first rest W keeps behind result left world (Goes {a = a} {middle = m} {left = l} is next) =
      behind a m is result l (keeps (Ok a) m world is) next

  by_rule_kept : {A : Type 0} (rule : ModelWorld → Result A Refusal → Type 0) → ((W : ModelWorld) → Once (rule W))
      → (W : ModelWorld) → Keeps A W (ByRule rule)
  by_rule_kept rule once W result left world (Says is) = world

  -- an event happens that may
  happens : (W : ModelWorld) (next : Event) → IsNoServe next → MayCome volume W.events next → Both W
      → Both (with_event W next)
  happens W next none may world =
      (lawful_more volume W.events next world.0 may, kept.other W next none may world.1)

  adds_kept : {A : Type 0} (given : ModelWorld → A) (event : Event) (W : ModelWorld) → IsNoServe event
      → MayCome volume W.events event → Keeps A W (Adds given event)
  adds_kept given event W none may result left world Added = happens W event none may world

  -- what a member saves is served
  serve_kept : (server ask : ℕ) (served : Served) (W : ModelWorld) → IsServedNow volume W.events server ask served
      → Keeps ℕ W (Adds next_position (event.Serve server ask served.state (length served.messages)))
  serve_kept server ask served W now result left world Added = (
    lawful_more volume W.events (event.Serve server ask served.state (length served.messages)) world.0 now.may,
    kept.serve W server ask served now world.1,
  )

  saves_kept : {A : Type 0} (given : ModelWorld → A) (by : ℕ) (event : Event) (W : ModelWorld) → IsUp by W
      → IsNoServe event → (IsLawful volume W.events → MayCome volume W.events event) → Keeps A W (Saves given by event)
  saves_kept given by event W up none may result left world Saved = happens W event none (may world.0) world
  saves_kept given by event W up none may result left world NotSaved = (
    world.0,
    kept.standing W by (Down (Some event))
        (λ next is. inl (subst IsNoServe (let same : event ≡ next = cc in same) none)) world.1,
  )

  posts_kept : (posted : Posted) (size : ℕ) (W : ModelWorld) → Keeps ℕ W (Posts posted size)
  posts_kept posted size W result left world IsPosted = (world.0, kept.post W posted size world.1)
  posts_kept posted size W result left world NotPosted = world

  fetches_kept : (W : ModelWorld) → Keeps (Unit {0}) W Fetches
  fetches_kept W result left world Fetched = world
  fetches_kept W result left world NotFetched = world

  -- a member has restarted, and is up
  restart_kept : (by : ℕ) (W : ModelWorld) → IsMember volume.members by → Both W
      → Both (with_standing (with_event W (event.Restart by)) by Up)
  restart_kept by W member world =
      let now = happens W (event.Restart by) refl member world in
      (now.0, kept.standing (with_event W (event.Restart by)) by Up (λ next is. absurd (cc)) now.1)

  opens_kept : (by : ℕ) (W : ModelWorld) → IsMember volume.members by → Keeps Answer W (Opens volume by)
  opens_kept by W member result left world (Opened at) = restart_kept by W member world
  opens_kept by W member result left world (Found {event = e} at may) =
      restart_kept by (with_event W e) member
      (lawful_more volume W.events e world.0 may, kept.found W by e at may world.1)
  opens_kept by W member result left world (NotOpened {standing = standing} at) =
      (world.0, kept.standing W by (down_from standing) (λ next is. inr (still standing at next is)) world.1)
    where
      still : (standing : Standing) → IsNumbered W.standings by standing → (next : Event)
          → down_from standing ≡ Down (Some next) → IsNumbered W.standings by (Down (Some next))
      still Up at next is = absurd (cc)
      still (Down pending) at next is = subst (λ standing. IsNumbered W.standings by standing) is at

  arms_kept : (by calls pick : ℕ) (W : ModelWorld) → Keeps Answer W (Arms by calls pick)
  arms_kept by calls pick W result left world Armed = world

  actions_kept : HoldsOfActions volume Keeps
  actions_kept = record {
    behind = first_kept;
    by_rule = by_rule_kept;
    adds = adds_kept;
    serves = serve_kept;
    saves = saves_kept;
    posts = posts_kept;
    fetches = fetches_kept;
    opens = opens_kept;
  }

  nothing_kept : (W : ModelWorld) → CutKeeps W NothingDone
  nothing_kept W left world same = subst (λ (effect : Effect ModelWorld). Both effect.after) (sym same) world

  cut_kept : {A : Type 0} (first : ModelAction A) (cut : Cut ModelWorld) (rest : A → Cut ModelWorld) (W : ModelWorld)
      → Keeps A W first → CutKeeps W cut
      → ((a : A) (left : Effect ModelWorld) → first W (Ok a) left → CutKeeps left.after (rest a))
      → CutKeeps W (CutFirst first cut rest)
  cut_kept first cut rest W keeps cut_keeps behind left world (InFirst is) = cut_keeps left world is
  cut_kept first cut rest W keeps cut_keeps behind left world (InRest {a = a} {middle = m} {left = l} is next) =
      behind a m is l (keeps (Ok a) m world is) next

  -- so does what a command has done where memory is refused
  pub part_kept : (command : Command) (W : ModelWorld) (left : Effect ModelWorld) → IsLawful volume W.events → P W
      → DoesPart volume command W left → IsLawful volume left.after.events × P left.after
  part_kept command W left lawful world =
      part_holds volume Keeps actions_kept CutKeeps (record { nothing = nothing_kept; behind = cut_kept }) command W left
      (lawful, world)

  -- and what it does
  pub step_kept : {old new : ModelWorld} {command : Command} {outcomes : List Outcome} {answer : Answer}
      → Step volume old command outcomes answer new → IsLawful volume old.events → P old → P new
  step_kept {old} {new} {command} {outcomes} step lawful world =
      (does_holds volume Keeps actions_kept command (λ by calls pick same. arms_kept by calls pick) old step.result
      (record { outcomes = outcomes; after = new }) (lawful, world) step.does).1

module _ (volume : Volume) where
  -- a history stays lawful
  lawful_kept : IsKept volume (λ W. IsLawful volume W.events)
  lawful_kept = record {
    other = λ W next none may lawful. lawful_more volume W.events next lawful may;
    serve = λ W server ask served now lawful.
        lawful_more volume W.events (event.Serve server ask served.state (length served.messages)) lawful now.may;
    found = λ W by next at may lawful. lawful_more volume W.events next lawful may;
    post = λ W posted size lawful. lawful;
    standing = λ W by standing none lawful. lawful;
  }

  pub part_lawful : (command : Command) (W : ModelWorld) (left : Effect ModelWorld) → IsLawful volume W.events
      → DoesPart volume command W left → IsLawful volume left.after.events
  part_lawful command W left lawful part =
      (part_kept volume (λ V. IsLawful volume V.events) lawful_kept command W left lawful lawful part).0

  -- each Serve of a run has all pieces, and none is pending
  pub world_kept : IsKept volume (IsRunWorld volume)
  world_kept = record {
    other = λ W next none may world.
        record { serves = serves_other volume W world.serves next none; pending = world.pending };
    serve = λ W server ask served now world. record {
      serves = serves_more volume W world.serves (event.Serve server ask served.state (length served.messages))
          (serves_all volume W.events server ask served now);
      pending = world.pending;
    };
    found = λ W by next at may world. record {
      serves = serves_other volume W world.serves next (world.pending by next at);
      pending = world.pending;
    };
    post = λ W posted size world. record { serves = record { each = world.serves.each }; pending = world.pending };
    standing = λ W by standing none world. record {
      serves = record { each = world.serves.each };
      pending = λ r next is. which W world by standing none r next
          (either_placed W.standings (by - 1) r standing (Down (Some next)) is);
    };
  }
    where
      new : (W : ModelWorld) → IsRunWorld volume W → (by : ℕ) (next : Event)
          → IsNoServe next ⊎ IsNumbered W.standings by (Down (Some next)) → IsNoServe next
      new W world by next (inl none) = none
      new W world by next (inr at) = world.pending by next at

      which : (W : ModelWorld) → IsRunWorld volume W → (by : ℕ) (standing : Standing)
          → ((next : Event) → standing ≡ Down (Some next)
          → IsNoServe next ⊎ IsNumbered W.standings by (Down (Some next))) → (r : ℕ) (next : Event)
          → (Down (Some next) ≡ standing) ⊎ IsNumbered W.standings r (Down (Some next)) → IsNoServe next
      which W world by standing none r next (inl is) = new W world by next (none next (sym is))
      which W world by standing none r next (inr was) = world.pending r next was

pub step_lawful : {volume : Volume} {old new : ModelWorld} {command : Command} {outcomes : List Outcome}
    {answer : Answer} → Step volume old command outcomes answer new → IsLawful volume old.events
    → IsLawful volume new.events
step_lawful {volume} step lawful =
    step_kept volume (λ W. IsLawful volume W.events) (lawful_kept volume) step lawful lawful

pub run_lawful : {volume : Volume} {old new : ModelWorld} {commands : List Command} {outcomes : List (List Outcome)}
    {answers : List Answer} → Run volume old commands outcomes answers new → IsLawful volume old.events
    → IsLawful volume new.events
run_lawful End lawful = lawful
run_lawful (Then step rest) lawful = run_lawful rest (step_lawful step lawful)

pub step_of_run : {volume : Volume} {old new : ModelWorld} {command : Command} {outcomes : List Outcome}
    {answer : Answer} → Step volume old command outcomes answer new → IsLawful volume old.events
    → IsRunWorld volume old → IsRunWorld volume new
step_of_run {volume} step lawful world = step_kept volume (IsRunWorld volume) (world_kept volume) step lawful world

pub run_of_run : {volume : Volume} {old new : ModelWorld} {commands : List Command} {outcomes : List (List Outcome)}
    {answers : List Answer} → Run volume old commands outcomes answers new → IsLawful volume old.events
    → IsRunWorld volume old → IsRunWorld volume new
run_of_run End lawful world = world
run_of_run (Then step rest) lawful world = run_of_run rest (step_lawful step lawful) (step_of_run step lawful world)
