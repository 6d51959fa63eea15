-- Sweeps: pulls in a fixed order, and then collections, one after the other, up to the first refusal. Of rounds in such
-- orders, after which each has heard of all that all had heard of, and knows that all have, the source is Guy, Popek
-- and Page 1993.
use Rattle.std.specs.Prelude.{ℕ, ◌+◌, ◌-◌, List, [], ◌∷◌, ◌++◌, map}
use Rattle.std.specs.List.{range_with_len}
use Rattle.ficus_model.specs.Lawful.{Volume}
use Rattle.ficus_script.specs.declared.answer.Answer.{Answer}
use Rattle.ficus_script.specs.declared.answer.Answer.TheVariants as answer
use Rattle.ficus_script.specs.declared.command.Command.{Command}
use Rattle.ficus_script.specs.declared.command.Command.TheVariants as command
use Rattle.ficus_script.specs.declared.order.Order.{Order}
use Rattle.ficus_script.specs.declared.order.Order.TheVariants.{Star, Ring}
use Rattle.ficus_runs.specs.Actions.{ModelAction, AtMember, AtPeers, Counts, GivesOnly, Collects as SavesCollection}
use Rattle.ficus_runs.specs.Exchange.{Asks, GivesMail}
use Rattle.ficus_runs.specs.ModelWorld.{ModelWorld}
use Rattle.ficus_runs.specs.Plan.{Pulls, PullsSome}
use Rattle.ficus_runs.specs.Sequence.{Cut, CutFirst, First, NothingDone}

-- the member pulls from the other: it asks, its message is given, and then each that was posted in answer
abbrev pub PullsFrom : Volume → ℕ → ℕ → ModelAction Answer
PullsFrom volume by to = Pulls (AtPeers volume by to) (Asks volume by to) (GivesMail volume)

-- what a pull has done where memory is refused on the way: it keeps its ask, and the gives before
abbrev pub PullsPart : Volume → ℕ → ℕ → Cut ModelWorld
PullsPart volume by to = PullsSome (AtPeers volume by to) (Asks volume by to) (GivesMail volume)

-- the member gives up what everybody knows to be removed everywhere
abbrev pub CollectsAt : Volume → ℕ → ModelAction Answer
CollectsAt volume by = First (AtMember volume by) (λ member. First (Counts volume by) (SavesCollection by))

-- one step of a sweep: a member pulls from another, or one collects
pub data SweepStep : Type 0 where
  Pulling : ℕ → ℕ → SweepStep
  Collecting : ℕ → SweepStep

-- which is also a command
abbrev pub command_of : SweepStep → Command
command_of (Pulling by to) = command.Pull by to
command_of (Collecting by) = command.Collect by

abbrev pub DoesSweepStep : Volume → SweepStep → ModelAction Answer
DoesSweepStep volume (Pulling by to) = PullsFrom volume by to
DoesSweepStep volume (Collecting by) = CollectsAt volume by

abbrev pub DoesSweepPart : Volume → SweepStep → Cut ModelWorld
DoesSweepPart volume (Pulling by to) = PullsPart volume by to
DoesSweepPart volume (Collecting by) = NothingDone

-- what each of some members does in turn, in rising order
pub data Leg : Type 0 where
  Gathers : Leg
  Spreads : Leg
  HandsOn : Leg
  Collects : Leg

-- replica 1 pulls from the member, the member from it, the member from the one before it, or the member collects
abbrev pub leg_step : Leg → ℕ → SweepStep
leg_step Gathers member = Pulling 1 member
leg_step Spreads member = Pulling member 1
leg_step HandsOn member = Pulling member (member - 1)
leg_step Collects member = Collecting member

-- so many members from this one on, in turn
abbrev pub leg_steps : Leg → ℕ → ℕ → List SweepStep
leg_steps leg first count = map (leg_step leg) (range_with_len first count)

-- replica 1 pulls from 2, 3 and so on, and then each of these from it
abbrev pub star_round : ℕ → List SweepStep
star_round members = leg_steps Gathers 2 (members - 1) ++ leg_steps Spreads 2 (members - 1)

-- each replica from 2 on pulls from the one before it, and then replica 1 from the last
abbrev pub ring_round : ℕ → List SweepStep
ring_round members = leg_steps HandsOn 2 (members - 1) ++ Pulling 1 members ∷ []

-- three star rounds, or four ring rounds, and then each member collects
abbrev pub sweep_steps : Order → ℕ → List SweepStep
sweep_steps Star members =
    star_round members ++ (star_round members ++ (star_round members ++ leg_steps Collects 1 members))
sweep_steps Ring members =
    ring_round members ++ (ring_round members ++ (ring_round members ++ (ring_round members
    ++ leg_steps Collects 1 members)))

-- how many pulls there were, and how many removed entries and how many files and directories were given up in all
pub record Swept : Type 0 where
  pub pulls : ℕ
  pub entries : ℕ
  pub files : ℕ

abbrev pub none_swept : Swept
none_swept = record { pulls = 0; entries = 0; files = 0 }

-- with the answer to one step more: `Done` to a pull, and the counts of a collection
abbrev pub with_answer : Swept → Answer → Swept
with_answer swept answer.Done = record swept { pulls = swept.pulls + 1 }
with_answer swept (answer.Collected entries files) =
    record swept { entries = swept.entries + entries; files = swept.files + files }
with_answer swept other = swept

-- a sweep is answered with its counts
abbrev pub swept_answer : Swept → Answer
swept_answer swept = answer.Swept swept.pulls swept.entries swept.files

-- the steps, one after the other, up to the first refusal
abbrev pub Sweeps : Volume → List SweepStep → Swept → ModelAction Swept
Sweeps volume [] swept = GivesOnly swept
Sweeps volume (step ∷ steps) swept =
    First (DoesSweepStep volume step) (λ answer. Sweeps volume steps (with_answer swept answer))

-- what they have done where memory is refused on the way: the steps before it, and the part of one
abbrev pub SweepsPart : Volume → List SweepStep → Cut ModelWorld
SweepsPart volume [] = NothingDone
SweepsPart volume (step ∷ steps) =
    CutFirst (DoesSweepStep volume step) (DoesSweepPart volume step) (λ answer. SweepsPart volume steps)
