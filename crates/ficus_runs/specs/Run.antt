-- What commands answer, and what they do to a world of the model.
use Rattle.std.specs.Prelude.{◌≡◌, ℕ, List, [], ◌∷◌, length, Result, Err}
use Rattle.ficus_ids.specs.Members.{IsMember}
use Rattle.ficus_ids.specs.declared.refusal.Refusal.{Refusal}
use Rattle.ficus_ids.specs.declared.refusal.Refusal.TheVariants as refusal
use Rattle.ficus_model.specs.Lawful.{Volume}
use Rattle.ficus_script.specs.declared.command.Command.{Command}
use Rattle.ficus_script.specs.declared.command.Command.TheVariants as command
use Rattle.ficus_script.specs.declared.answer.Answer.{Answer}
use Rattle.ficus_rules.specs.Change.{MayWantMemory}
use Rattle.ficus_rules.specs.View.{history_view}
use Rattle.ficus_runs.specs.Actions.{ModelAction, Arms, AtMember, AtPeers, Collects, Compares, Counts, Decides, Explaining, GivesOnly, Opens, Sees, Updates, Wants}
use Rattle.ficus_runs.specs.Answers.{answer_as}
use Rattle.ficus_runs.specs.Exchange.{Asks, GivesMail}
use Rattle.ficus_runs.specs.ModelWorld.{ModelWorld, IsUp, IsFused}
use Rattle.ficus_runs.specs.Outcome.{Outcome, AllDone}
use Rattle.ficus_runs.specs.Peers.{ArePeers}
use Rattle.ficus_runs.specs.Plan.{Actions, at_once, plan}
use Rattle.ficus_runs.specs.Sequence.{Cut, Effect, First}
use Rattle.ficus_runs.specs.Traits.{traits}
use Rattle.ficus_runs.specs.Sweep.{Sweeps, SweepsPart, none_swept, sweep_steps, swept_answer}

-- the actions of which commands consist, over worlds of the model
abbrev pub of_model : Volume → Actions ModelWorld
of_model volume = record {
  Found = Unit {0};
  FoundUp = Unit {0};
  FoundPeers = Unit {0};
  finds = λ by. Wants (λ W. IsMember volume.members by) refusal.Member;
  finds_up = AtMember volume;
  finds_peers = AtPeers volume;
  decides = λ by member. Decides volume by;
  updates = λ by member. Updates by;
  shows = λ by member. Sees volume by;
  collects = λ by member. First (Counts volume by) (Collects by);
  asks = Asks volume;
  gives = GivesMail volume;
  compares = λ by other peers. Compares volume by other;
  opens = λ by member. Opens volume by;
  arms = λ by calls pick member. First (Wants (IsFused by) refusal.NoFuse) (λ fused. Arms by calls pick);
  sweeps = λ order. record {
    does = First (Sweeps volume (sweep_steps order volume.members) none_swept)
        (λ swept. GivesOnly (swept_answer swept));
    part = SweepsPart volume (sweep_steps order volume.members);
  };
  explains = λ by. at_once (First (AtMember volume by) (λ member. Explaining by));
}

-- what each command does, action by action
abbrev pub Does : Volume → Command → ModelAction Answer
Does volume command = (plan (of_model volume) command).does

-- What each command has done where memory is refused on the way: nothing; but a pull keeps its ask, and the gives
-- before, and a sweep the steps before the one in which it is, and what that one has done.
abbrev pub DoesPart : Volume → Command → Cut ModelWorld
DoesPart volume command = (plan (of_model volume) command).part

-- the command asks only for what is shown
abbrev pub OnlyLooks : Command → Type 0
OnlyLooks command = (traits command).looks

-- nothing refuses the command, where all that it asks of the outside is done
abbrev pub IsUnrefused : Volume → ModelWorld → Command → Type 0
IsUnrefused volume W command =
    (refusal : Refusal) (left : Effect ModelWorld) → AllDone left.outcomes → Does volume command W (Err refusal) left
    → ⊥

-- two different members, which both take commands
abbrev pub AreUpPeers : Volume → ModelWorld → ℕ → ℕ → Type 0
AreUpPeers volume W by other = ArePeers volume.members by other × IsUp by W × IsUp other W

-- Where the command may end for want of memory: where nothing refuses it; and, for a change by a member, where the
-- member has to take memory before that is known. A message between members is spelled before there is known to be room
-- for it, and is fetched before it is known what it says. Disks are read before it is known what they hold. The steps
-- of a sweep are laid out before any is taken.
abbrev pub CommandMayWantMemory : Volume → ModelWorld → Command → Type 0
CommandMayWantMemory volume W (command.Change by change) =
    IsMember volume.members by × IsUp by W × MayWantMemory (history_view volume W.events by) change
CommandMayWantMemory volume W (command.Look by look) = IsUnrefused volume W (command.Look by look)
CommandMayWantMemory volume W (command.Collect by) = IsUnrefused volume W (command.Collect by)
CommandMayWantMemory volume W (command.Ask by to) = ArePeers volume.members by to × IsUp by W
CommandMayWantMemory volume W (command.Give number) = IsMember (length W.posted) number
CommandMayWantMemory volume W (command.Pull by to) = AreUpPeers volume W by to
CommandMayWantMemory volume W (command.Alike by other) = IsUnrefused volume W (command.Alike by other)
CommandMayWantMemory volume W (command.Restart by) = IsMember volume.members by
CommandMayWantMemory volume W (command.Stop by calls pick) = ⊥
CommandMayWantMemory volume W (command.Sweep order) = Unit {0}
CommandMayWantMemory volume W (command.Why by) = IsUnrefused volume W (command.Why by)

-- one command: what became of all that it asked of the outside, its answer, and the world after it
pub record Step (volume : Volume) (old : ModelWorld) (command : Command) (outcomes : List Outcome) (answer : Answer)
    (new : ModelWorld) : Type 0 where
  pub result : Result Answer Refusal
  pub does : Does volume command old result (record { outcomes = outcomes; after = new })
  pub answer_is : answer ≡ answer_as result

-- commands, one after the other: what became of all that each asked of the outside, their answers, and the world after
-- them
pub data Run (volume : Volume) :
    ModelWorld → List Command → List (List Outcome) → List Answer → ModelWorld → Type 0 where
  End : {W : ModelWorld} → Run volume W [] [] [] W
  Then : {old middle new : ModelWorld} {command : Command} {commands : List Command}
      {outcomes : List Outcome} {more : List (List Outcome)} {answer : Answer} {answers : List Answer}
      → Step volume old command outcomes answer middle → Run volume middle commands more answers new
      → Run volume old (command ∷ commands) (outcomes ∷ more) (answer ∷ answers) new

-- in each command all that was asked of the outside was done
abbrev pub EachDone : List (List Outcome) → Type 0
EachDone [] = Unit {0}
EachDone (outcomes ∷ more) = AllDone outcomes × EachDone more
