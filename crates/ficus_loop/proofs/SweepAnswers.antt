-- A sweep is answered as its command is.
use Rattle.std.proofs.Common.{List, Ok, Err, refl, subst}
use Rattle.ficus_disk.specs.declared.disk.Disk.{Ghosts as Disk}
use Rattle.ficus_disk.specs.declared.pair.Pair.{Pair}
use Rattle.ficus_ids.specs.declared.refusal.Refusal.{Refusal}
use Rattle.ficus_keeper.specs.declared.keep.Keep.{Ghosts as Keep}
use Rattle.ficus_model.specs.Lawful.{Volume}
use Rattle.ficus_runs.specs.ModelWorld.{ModelWorld}
use Rattle.ficus_runs.specs.Run.{Does}
use Rattle.ficus_runs.specs.Sequence.{Effect}
use Rattle.ficus_runs.specs.Sequence.First.{Ends, Goes}
use Rattle.ficus_runs.specs.Sequence.ByRule.{Says}
use Rattle.ficus_runs.specs.Sweep.{Swept, Sweeps, SweepsPart, none_swept, sweep_steps, swept_answer}
use Rattle.ficus_script.specs.declared.answer.Answer.TheVariants as answer
use Rattle.ficus_script.specs.declared.command.Command.TheVariants as command
use Rattle.ficus_script.specs.declared.order.Order.{Order}
use Rattle.ficus_runs.proofs.sweeps.Chains.{then_nothing}
use Rattle.ficus_loop.specs.SweepFollows.{FollowsAction, StopsAction}
use Rattle.ficus_loop.proofs.Actions.{as_command, stops_command}
use Rattle.ficus_world.specs.Follows.{FollowsOn, StopsOn}
use Rattle.ficus_world.specs.World.{Whole}

then_answers : (volume : Volume) (order : Order) (W : ModelWorld) (swept : Swept) (left : Effect ModelWorld)
    → Sweeps volume (sweep_steps order volume.members) none_swept W (Ok swept) left
    → Does volume (command.Sweep order) W (Ok (swept_answer swept)) left
then_answers volume order W swept left does =
    subst (λ effect. Does volume (command.Sweep order) W (Ok (swept_answer swept)) effect) (then_nothing left)
    (Goes does (Says refl))

module _ {K D : Type 0} {keep : Keep K} {disk : Disk D} {W : ModelWorld} {old new : Whole}
    {old_disks new_disks : List (Pair D)} (volume : Volume) (order : Order) where
  -- one that met no refusal, with its counts
  pub sweep_answered : (swept : Swept)
      → FollowsAction keep disk volume W old (Sweeps volume (sweep_steps order volume.members) none_swept) (Ok swept) new
      old_disks new_disks
      → FollowsOn keep disk volume W old (command.Sweep order) (swept_answer swept) new old_disks new_disks
  sweep_answered swept on =
      as_command (command.Sweep order) (Ok (swept_answer swept)) on
      (λ left does. then_answers volume order W swept left does)

  -- one that met a refusal, with that
  pub sweep_refused : (refusal : Refusal)
      → FollowsAction keep disk volume W old (Sweeps volume (sweep_steps order volume.members) none_swept)
      (Err refusal) new old_disks new_disks
      → FollowsOn keep disk volume W old (command.Sweep order) (answer.Refused refusal) new old_disks new_disks
  sweep_refused refusal on = as_command (command.Sweep order) (Err refusal) on (λ left does. Ends does)

  -- and where memory is refused it has done what its command has
  pub sweep_cut : StopsAction keep disk volume W old (SweepsPart volume (sweep_steps order volume.members)) new old_disks
      new_disks → StopsOn keep disk volume W old (command.Sweep order) new old_disks new_disks
  sweep_cut on = stops_command {command = command.Sweep order} on
