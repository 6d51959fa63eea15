-- What is answered to a sweep follows as the sweep does.
use Rattle.std.proofs.Common.{List, Result, Ok, Err, sym, subst}
use Rattle.std.specs.Prelude.{IfOk, OnErr}
use Rattle.ficus_disk.specs.declared.disk.Disk.{Ghosts as Disk}
use Rattle.ficus_disk.specs.declared.pair.Pair.{Pair}
use Rattle.ficus_ids.specs.declared.memory.Memory.{Memory as OutOfMemory}
use Rattle.ficus_keeper.specs.declared.keep.Keep.{Ghosts as Keep}
use Rattle.ficus_model.specs.Lawful.{Volume}
use Rattle.ficus_runs.specs.ModelWorld.{ModelWorld}
use Rattle.ficus_runs.specs.Sweep.{sweep_steps}
use Rattle.ficus_script.specs.declared.answer.Answer.{Answer}
use Rattle.ficus_script.specs.declared.command.Command.TheVariants.{Sweep}
use Rattle.ficus_script.specs.declared.order.Order.{Order}
use Rattle.ficus_loop.proofs.SweepAnswers.{sweep_answered, sweep_cut, sweep_refused}
use Rattle.ficus_loop.specs.SweepFollows.{FollowsSweep, swept_of}
use Rattle.ficus_loop.specs.declared.sweep_fault.SweepFault.{SweepFault}
use Rattle.ficus_loop.specs.declared.sweep_fault.SweepFault.TheVariants.{Stopped, Memory}
use Rattle.ficus_loop.specs.declared.sweep_report.SweepReport.{SweepReport}
use Rattle.ficus_loop.specs.Sweeping.{AnswersSweep}
use Rattle.ficus_world.specs.Follows.{FollowsOn, StopsOn}
use Rattle.ficus_world.specs.World.{Whole}

module _ {K D : Type 0} (keep : Keep K) (disk : Disk D) (volume : Volume) (order : Order) (W : ModelWorld)
    (old new : Whole) (old_disks new_disks : List (Pair D)) where
  pub answer_follows : (swept : Result SweepReport SweepFault) (result : Result Answer OutOfMemory)
      → AnswersSweep swept result
      → FollowsSweep keep disk volume W old (sweep_steps order volume.members) swept new old_disks new_disks
      → IfOk result (λ answer. FollowsOn keep disk volume W old (Sweep order) answer new old_disks new_disks)
  answer_follows (Ok report) (Ok answer) is on =
      subst (λ a. FollowsOn keep disk volume W old (Sweep order) a new old_disks new_disks) (sym is)
      (sweep_answered volume order (swept_of report) on)
  answer_follows (Ok report) (Err memory) is on = absurd is
  answer_follows (Err (Stopped refusal)) (Ok answer) is on =
      subst (λ a. FollowsOn keep disk volume W old (Sweep order) a new old_disks new_disks) (sym is)
      (sweep_refused volume order refusal on)
  answer_follows (Err (Stopped refusal)) (Err memory) is on = absurd is
  answer_follows (Err Memory) (Ok answer) is on = absurd is
  answer_follows (Err Memory) (Err memory) is on = tt

  pub answer_stops : (swept : Result SweepReport SweepFault) (result : Result Answer OutOfMemory)
      → AnswersSweep swept result
      → FollowsSweep keep disk volume W old (sweep_steps order volume.members) swept new old_disks new_disks
      → OnErr result (StopsOn keep disk volume W old (Sweep order) new old_disks new_disks)
  answer_stops (Ok report) (Ok answer) is on = tt
  answer_stops (Ok report) (Err memory) is on = absurd is
  answer_stops (Err (Stopped refusal)) (Ok answer) is on = tt
  answer_stops (Err (Stopped refusal)) (Err memory) is on = absurd is
  answer_stops (Err Memory) (Ok answer) is on = absurd is
  answer_stops (Err Memory) (Err memory) is on = sweep_cut volume order on
