-- What each command does, action by action, whatever the actions do to a world.
use Rattle.std.specs.Prelude.{ℕ}
use Rattle.ficus_commands.specs.declared.change.Change.{Change}
use Rattle.ficus_commands.specs.declared.look.Look.{Look}
use Rattle.ficus_model.specs.declared.event.Op.{Op}
use Rattle.ficus_script.specs.declared.answer.Answer.{Answer}
use Rattle.ficus_script.specs.declared.answer.Answer.TheVariants.{Done, Mail}
use Rattle.ficus_script.specs.declared.command.Command.{Command}
use Rattle.ficus_script.specs.declared.command.Command.TheVariants as command
use Rattle.ficus_script.specs.declared.order.Order.{Order}
use Rattle.ficus_runs.specs.Actions.{Each, EachPart, GivesOnly}
use Rattle.ficus_runs.specs.Exchange.{mails_of}
use Rattle.ficus_runs.specs.Sequence.{Action, Cut, CutFirst, First, NothingDone}

-- what a command does, and what it has done where memory is refused on the way
pub record Plan (World : Type 0) : Type 1 where
  pub does : Action World Answer
  pub part : Cut World

-- where memory is refused on the way nothing is done
abbrev pub at_once : {World : Type 0} → Action World Answer → Plan World
at_once does = record { does = does; part = NothingDone }

-- a pull finds its members, asks, gives the message, and then each that was posted in answer
abbrev pub Pulls : {World Peers : Type 0} → Action World Peers → Action World ℕ → (ℕ → Action World Answer)
    → Action World Answer
Pulls finds asks gives =
    First finds
    (λ peers. First asks (λ number. First (gives number) (λ given. Each gives Done (mails_of given))))

-- where memory is refused on the way it keeps its ask, and the gives before
abbrev pub PullsSome : {World Peers : Type 0} → Action World Peers → Action World ℕ → (ℕ → Action World Answer)
    → Cut World
PullsSome finds asks gives =
    CutFirst finds NothingDone
    (λ peers. CutFirst asks NothingDone
    (λ number. CutFirst (gives number) NothingDone (λ given. EachPart gives (mails_of given))))

-- The actions of which commands consist, over some worlds. First what an action gives that finds a member, one that
-- takes commands, or two that do; then these; and then what is done with what was found.
pub record Actions (World : Type 0) : Type 1 where
  pub Found : Type 0
  pub FoundUp : Type 0
  pub FoundPeers : Type 0
  pub finds : ℕ → Action World Found
  pub finds_up : ℕ → Action World FoundUp
  pub finds_peers : ℕ → ℕ → Action World FoundPeers
  pub decides : ℕ → FoundUp → Change → Action World Op
  pub updates : ℕ → FoundUp → Op → Action World Answer
  pub shows : ℕ → FoundUp → Look → Action World Answer
  pub collects : ℕ → FoundUp → Action World Answer
  pub asks : ℕ → ℕ → Action World ℕ
  pub gives : ℕ → Action World Answer
  pub compares : ℕ → ℕ → FoundPeers → Action World Answer
  pub opens : ℕ → Found → Action World Answer
  pub arms : ℕ → ℕ → ℕ → FoundUp → Action World Answer
  pub sweeps : Order → Plan World
  pub explains : ℕ → Plan World

-- the plan of each command
abbrev pub plan : {World : Type 0} → Actions World → Command → Plan World
plan actions (command.Change by change) =
    at_once (First (actions.finds_up by)
    (λ member. First (actions.decides by member change) (actions.updates by member)))
plan actions (command.Look by look) =
    at_once (First (actions.finds_up by) (λ member. actions.shows by member look))
plan actions (command.Collect by) = at_once (First (actions.finds_up by) (actions.collects by))
plan actions (command.Ask by to) = at_once (First (actions.asks by to) (λ number. GivesOnly (Mail number)))
plan actions (command.Give number) = at_once (actions.gives number)
plan actions (command.Pull by to) = record {
  does = Pulls (actions.finds_peers by to) (actions.asks by to) actions.gives;
  part = PullsSome (actions.finds_peers by to) (actions.asks by to) actions.gives;
}
plan actions (command.Alike by other) =
    at_once (First (actions.finds_peers by other) (actions.compares by other))
plan actions (command.Restart by) = at_once (First (actions.finds by) (actions.opens by))
plan actions (command.Stop by calls pick) = at_once (First (actions.finds_up by) (actions.arms by calls pick))
plan actions (command.Sweep order) = actions.sweeps order
plan actions (command.Why by) = actions.explains by
