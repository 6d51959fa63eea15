-- The laws, as the law functions state them: over links and disks that tell what they hold.
use Rattle.std.specs.Prelude.{◌≡◌, ℕ, ◌-◌, ◌≤◌, ◌⊎◌, List, [], ◌++◌, Result, slice_set}
use Rattle.ficus_model.specs.Final.{IsFinal}
use Rattle.ficus_model.specs.Known.{Knows}
use Rattle.ficus_model.specs.Lawful.{Volume, IsLawful}
use Rattle.ficus_model.specs.Live.{ModelEntry, IsLive, IsRemoved}
use Rattle.ficus_durable_state.specs.Saved.{FitsImage}
use Rattle.ficus_durable_state.specs.declared.saved.Saved.{Saved}
use Rattle.ficus_ids.specs.declared.refusal.Refusal.{Refusal}
use Rattle.ficus_script.specs.declared.answer.Answer.{Answer}
use Rattle.ficus_wire.specs.declared.message.Message.{Message}
use Rattle.ficus_runs.specs.Exchange.{ServesAll}
use Rattle.ficus_runs.specs.Message.{IsMessageAt}
use Rattle.ficus_runs.specs.ModelWorld.{ModelWorld}
use Rattle.ficus_runs.specs.Numbered.{IsNumbered}
use Rattle.ficus_runs.specs.Outcome.{Outcome}
use Rattle.ficus_opening.specs.declared.member.Member.{Member}
use Rattle.ficus_world.specs.Moves.{CarriesOut}
use Rattle.ficus_world.specs.World.{Whole, WorldStandsFor}
use Rattle.ficus_world.specs.Machines.Killed.{BeginsWith, GoesOn, MayBeFound}
use Rattle.ficus_world.specs.Machines.Names.{IsNamedAlike}
use Rattle.ficus_world.specs.Machines.Part.{Deed, MayBeAsked, command_of}
use Rattle.ficus_world.specs.Machines.Together.{Alone, AreOneWorld, Happens, OpenedAt, StaysOneWorld, Together, Told, WerePosted}

-- machines that are one world stay so, whatever each of them does, and whichever messages come to whom, and when
abbrev pub MachinesStayOneWorld : Type 0
MachinesStayOneWorld = (volume : Volume) (W : ModelWorld) (all : Whole) (machines last : List Whole)
    (sent last_sent : List (List ℕ)) (told : List Told) → AreOneWorld volume W all machines sent
    → Together (Unit {0}) (Unit {0}) machines sent told last last_sent → StaysOneWorld volume W told last last_sent

-- what has happened on machines that are one world is lawful, and what was given up there is given up for good
abbrev pub MachinesAreLawful : Type 0
MachinesAreLawful = (volume : Volume) (W : ModelWorld) (all : Whole) (machines : List Whole) (sent : List (List ℕ))
    → AreOneWorld volume W all machines sent → IsLawful volume W.events × IsFinal volume.members W.events

-- what a member knew to be removed is alive for it after nothing that machines do
abbrev pub NothingReturnsAnywhere : Type 0
NothingReturnsAnywhere = (volume : Volume) (W after : ModelWorld) (told : List Told) (replica : ℕ)
    (entry : ModelEntry) → Happens volume W told after → IsRemoved W.events (Knows W.events replica) entry.id
    → IsLive after.events (Knows after.events replica) entry → ⊥

-- machines that were each opened where all members stand so are one world
abbrev pub OpenedAreOneWorld : Type 0
OpenedAreOneWorld = (volume : Volume) (W : ModelWorld) (all : Whole) (machines : List Whole)
    → WorldStandsFor volume W all → all.post.posts ≡ []
    → ((r : ℕ) (machine : Whole) → IsNumbered machines r machine → OpenedAt volume W r machine)
    → AreOneWorld volume W all machines []

-- what one process does alone the machines do, where what came to it had been posted
abbrev pub ProcessesJoin : Type 0
ProcessesJoin = (r : ℕ) (machine after : Whole) (came posted : List (List ℕ)) (told : List Told)
    (machines : List Whole) (sent : List (List ℕ))
    → Alone (Unit {0}) (Unit {0}) r machine came posted told after → IsNumbered machines r machine
    → WerePosted came sent
    → Together (Unit {0}) (Unit {0}) machines sent told (slice_set machines (r - 1) after) (sent ++ posted)

-- and runs of machines may stand one behind the other
abbrev pub RunsJoin : Type 0
RunsJoin = (machines middle last : List Whole) (sent mid_sent last_sent : List (List ℕ)) (told more : List Told)
    → Together (Unit {0}) (Unit {0}) machines sent told middle mid_sent
    → Together (Unit {0}) (Unit {0}) middle mid_sent more last last_sent
    → Together (Unit {0}) (Unit {0}) machines sent (told ++ more) last last_sent

-- two messages of one name are one, where each Serve had as many pieces as its tables
abbrev pub OneMessageOfAName : Type 0
OneMessageOfAName = (volume : Volume) (W : ModelWorld) (position other index again : ℕ) (one two : Message)
    → IsLawful volume W.events → ServesAll volume W → W.earlier ≤ position → W.earlier ≤ other
    → IsMessageAt volume W.events position index one → IsMessageAt volume W.events other again two
    → IsNamedAlike one two → one ≡ two

-- Whatever a kill left of a step, where the disks then hold what the member had or what it then has, what the next
-- process begins with is what the machine may have come to.
abbrev pub KilledProcessesGoOn : Type 0
KilledProcessesGoOn = (r : ℕ) (machine after begun : Whole) (was now : Member) (deed : Deed)
    (result : Result Answer Refusal) (outcomes : List Outcome) (more : List (List ℕ)) (found : Saved)
    → IsNumbered machine.members r was → IsNumbered after.members r now → MayBeAsked r machine deed
    → CarriesOut (Unit {0}) (Unit {0}) (command_of r deed) machine result
    (record { outcomes = outcomes; after = after }) → after.post.posts ≡ machine.post.posts ++ more
    → FitsImage found → MayBeFound was found ⊎ MayBeFound now found → BeginsWith r machine begun found
    → BeginsWith r after begun found → GoesOn r machine begun
