-- The trail of a step leads to what the step leads to.
use Rattle.std.proofs.Common.{ℕ, List, ◌++◌, Option, subst}
use Rattle.ficus_disk.specs.declared.disk.Disk.{Ghosts as Disk}
use Rattle.ficus_disk.specs.declared.pair.Pair.{Pair}
use Rattle.ficus_keeper.specs.Kept.{Kept}
use Rattle.ficus_keeper.specs.declared.keep.Keep.{Ghosts as Keep}
use Rattle.ficus_model.specs.Lawful.{Volume}
use Rattle.ficus_script.specs.declared.answer.Answer.{Answer}
use Rattle.ficus_script.specs.declared.command.Command.{Command}
use Rattle.ficus_runs.specs.ModelWorld.{ModelWorld}
use Rattle.ficus_runs.specs.Outcome.{Outcome}
use Rattle.ficus_runs.specs.Run.{Run}
use Rattle.ficus_runs.specs.Run.Run.{End, Then}
use Rattle.ficus_runs.proofs.Extending.{Extends}
use Rattle.ficus_world.specs.Follows.{StoresAsMany}
use Rattle.ficus_world.specs.Kills.{Passes}
use Rattle.ficus_world.specs.World.{Whole, WorldStandsFor}
use Rattle.ficus_loop.specs.Trail.{RunOn, TrailOf}
use Rattle.ficus_loop.specs.Trail.RunOn.{EndOn, ThenOn}
use Rattle.ficus_loop.proofs.Lifting.{lift}
use Rattle.ficus_loop.proofs.OneModel.{same_model}

-- the trail of what a world passes, by such links, leads to whatever world of the model it then stands for, behind what had happened
pub trail_to : {K D : Type 0} {IsLink : Command → Type 0} (keep : Keep K) (disk : Disk D)
    (only_now : (d : D) (c : List ℕ) → disk.left_since d (disk.moment d) c → disk.may_leave d c) (volume : Volume)
    (tells : Type 0) → tells → disk.tells → (W : ModelWorld) (old new : Whole) (x y : List (Pair D))
    → WorldStandsFor volume W old → Passes tells keep disk IsLink old new x y → (after : ModelWorld)
    → WorldStandsFor volume after new → Extends W.events after.events → StoresAsMany W old after new
    → TrailOf keep.kept disk volume IsLink W after x y
trail_to {IsLink = IsLink} keep disk only_now volume tells told disks_told W old new x y stands passes after stands_after extends stored =
    let lifted = lift keep disk only_now volume tells told disks_told W old new x y stands passes in
    subst (λ (V : ModelWorld). TrailOf keep.kept disk volume IsLink W V x y)
    (same_model volume W lifted.after after old new stands lifted.stands stands_after lifted.extends extends
    lifted.stored stored) (record { trail = lifted.trail; own = lifted.own })

module _ {D : Type 0} {kept : List ℕ → List ℕ → Option Kept} {disk : Disk D} {volume : Volume} where
  -- commands, and then others
  pub run_on_append : {W M N : ModelWorld} {commands others : List Command} {outcomes later : List (List Outcome)}
      {answers more : List Answer} {x y z : List (Pair D)}
      → RunOn kept disk volume W commands outcomes answers M x y
      → RunOn kept disk volume M others later more N y z
      → RunOn kept disk volume W (commands ++ others) (outcomes ++ later) (answers ++ more) N x z
  run_on_append EndOn behind = behind
  run_on_append (ThenOn step does rest) behind = ThenOn step does (run_on_append rest behind)

  -- commands with the disks are commands
  pub run_of : {W M : ModelWorld} {commands : List Command} {outcomes : List (List Outcome)} {answers : List Answer}
      {x y : List (Pair D)} → RunOn kept disk volume W commands outcomes answers M x y
      → Run volume W commands outcomes answers M
  run_of EndOn = End
  run_of (ThenOn step does rest) = Then step (run_of rest)
