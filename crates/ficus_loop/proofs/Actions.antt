-- A world follows actions of the model: one that does nothing, one after the other, and one that is a command's.
use Rattle.std.proofs.Common.{List, [], ◌++◌, Result, Ok, refl, arith}
use Rattle.ficus_disk.specs.declared.disk.Disk.{Ghosts as Disk}
use Rattle.ficus_disk.specs.declared.pair.Pair.{Pair}
use Rattle.ficus_ids.specs.declared.refusal.Refusal.{Refusal}
use Rattle.ficus_keeper.specs.declared.keep.Keep.{Ghosts as Keep}
use Rattle.ficus_model.specs.Lawful.{Volume}
use Rattle.ficus_script.specs.declared.answer.Answer.{Answer}
use Rattle.ficus_script.specs.declared.command.Command.{Command}
use Rattle.ficus_runs.specs.Actions.{ModelAction}
use Rattle.ficus_runs.specs.Answers.{answer_as}
use Rattle.ficus_runs.specs.ModelWorld.{ModelWorld}
use Rattle.ficus_runs.specs.Outcome.{Outcome}
use Rattle.ficus_runs.specs.Run.{Does, DoesPart}
use Rattle.ficus_runs.specs.Sequence.{Cut, Effect, joined, unchanged}
use Rattle.ficus_loop.specs.SweepFollows.{FollowsAction, StopsAction}
use Rattle.ficus_world.specs.Follows.{Follows, FollowsIn, FollowsOn, StopsOn}
use Rattle.ficus_world.specs.World.{Whole, WorldStandsFor}
use Rattle.ficus_world.proofs.Disks.{follows_none, follows_then}
use Rattle.ficus_world.proofs.Fuses.{fuses_none, fuses_then}
use Rattle.ficus_world.proofs.Lifting.Outcomes.{both_caused, steady_caused}

-- an action that does what a command does is a step of that command
step_of : {A : Type 0} {volume : Volume} {W : ModelWorld} {old new : Whole} {action : ModelAction A}
    {result : Result A Refusal} (command : Command) (came : Result Answer Refusal) (outcomes : List Outcome)
    → FollowsIn volume W old action result (record { outcomes = outcomes; after = new })
    → ((left : Effect ModelWorld) → action W result left → Does volume command W came left)
    → Follows volume W old command outcomes (answer_as came) new
step_of command came outcomes follows so = record {
  after = follows.after;
  step = record {
    result = came;
    does = so (record { outcomes = outcomes; after = follows.after }) follows.does;
    answer_is = refl;
  };
  caused = follows.caused;
  stored = follows.stored;
  stands = follows.stands;
}

module _ {K D : Type 0} {keep : Keep K} {disk : Disk D} {volume : Volume} where
  -- what an action leaves in the model
  abbrev pub effect_of : {A : Type 0} {W : ModelWorld} {old new : Whole} {action : ModelAction A}
      {result : Result A Refusal} {old_disks new_disks : List (Pair D)}
      → FollowsAction keep disk volume W old action result new old_disks new_disks → Effect ModelWorld
  effect_of on = record { outcomes = on.outcomes; after = on.follows.after }

  -- one that does nothing
  pub nothing_follows : {A : Type 0} (action : ModelAction A) (result : Result A Refusal) (W : ModelWorld)
      (world : Whole) (disks : List (Pair D)) → WorldStandsFor volume W world → action W result (unchanged W)
      → FollowsAction keep disk volume W world action result world disks disks
  nothing_follows action result W world disks stands does = record {
    outcomes = [];
    follows = record {
      after = W;
      does = does;
      caused = steady_caused world.post.faults;
      stored = refl;
      stands = stands;
    };
    disks = follows_none;
    fuses = fuses_none;
  }

  -- whatever does a part stops with that
  part_stops : {part : Cut ModelWorld} {result : Result (Unit {0}) Refusal} {W : ModelWorld} {old new : Whole}
      {old_disks new_disks : List (Pair D)}
      → FollowsAction {A = Unit {0}} keep disk volume W old (λ V given left. part V left) result new old_disks new_disks
      → StopsAction keep disk volume W old part new old_disks new_disks
  part_stops on = record {
    outcomes = on.outcomes;
    stops = record {
      after = on.follows.after;
      does = on.follows.does;
      caused = on.follows.caused;
      stored = on.follows.stored;
      stands = on.follows.stands;
    };
    disks = on.disks;
    fuses = on.fuses.permit;
  }

  -- memory is refused before anything is done
  pub nothing_stops : (part : Cut ModelWorld) (W : ModelWorld) (world : Whole) (disks : List (Pair D))
      → WorldStandsFor volume W world → part W (unchanged W)
      → StopsAction keep disk volume W world part world disks disks
  nothing_stops part W world disks stands does =
      part_stops (nothing_follows {A = Unit {0}} (λ V given left. part V left) (Ok tt) W world disks stands does)

  -- one action, and then another from the world that it leaves
  pub then_follows : {A B C : Type 0} {W : ModelWorld} {before middle new : Whole} {one : ModelAction A}
      {other : ModelAction B} {done : Result A Refusal} {given : Result B Refusal}
      {old_disks mid_disks new_disks : List (Pair D)} (both : ModelAction C) (result : Result C Refusal)
      (first : FollowsAction keep disk volume W before one done middle old_disks mid_disks)
      (behind : FollowsAction keep disk volume first.follows.after middle other given new mid_disks new_disks)
      → both W result (joined (effect_of first) (effect_of behind))
      → FollowsAction keep disk volume W before both result new old_disks new_disks
  then_follows both result first behind does = record {
    outcomes = first.outcomes ++ behind.outcomes;
    follows = record {
      after = behind.follows.after;
      does = does;
      caused = both_caused first.outcomes behind.outcomes first.follows.caused behind.follows.caused;
      stored = omega (arith, first.follows.stored, behind.follows.stored);
      stands = behind.follows.stands;
    };
    disks = follows_then first.disks behind.disks;
    fuses = fuses_then first.fuses behind.fuses;
  }

  -- an action that does what a command does is followed as that command
  pub as_command : {A : Type 0} {W : ModelWorld} {old new : Whole} {action : ModelAction A} {result : Result A Refusal}
      {old_disks new_disks : List (Pair D)} (command : Command) (came : Result Answer Refusal)
      → FollowsAction keep disk volume W old action result new old_disks new_disks
      → ((left : Effect ModelWorld) → action W result left → Does volume command W came left)
      → FollowsOn keep disk volume W old command (answer_as came) new old_disks new_disks
  as_command command came on so = record {
    outcomes = on.outcomes;
    follows = step_of command came on.outcomes on.follows so;
    disks = on.disks;
    fuses = on.fuses;
  }

  -- and what has done its part stops as that command
  pub stops_command : {command : Command} {W : ModelWorld} {old new : Whole} {old_disks new_disks : List (Pair D)}
      → StopsAction keep disk volume W old (DoesPart volume command) new old_disks new_disks
      → StopsOn keep disk volume W old command new old_disks new_disks
  stops_command on = record { outcomes = on.outcomes; stops = on.stops; disks = on.disks; fuses = on.fuses }
