-- What a step does to a world, it does to what the world stands for.
use Rattle.std.proofs.Common.{List}
use Rattle.ficus_disk.specs.declared.disk.Disk.{Ghosts as Disk}
use Rattle.ficus_disk.specs.declared.pair.Pair.{Pair}
use Rattle.ficus_keeper.specs.declared.keep.Keep.{Ghosts as Keep}
use Rattle.ficus_model.specs.Lawful.{Volume}
use Rattle.ficus_script.specs.declared.answer.Answer.{Answer}
use Rattle.ficus_script.specs.declared.command.Command.{Command}
use Rattle.ficus_runs.specs.ModelWorld.{ModelWorld}
use Rattle.ficus_world.specs.Follows.{FollowsOn, StopsOn, TellsFor}
use Rattle.ficus_world.specs.Stepped.{CutOn, Stepped}
use Rattle.ficus_world.specs.World.{Whole, WorldStandsFor}
use Rattle.ficus_world.proofs.Lifting.Following.{follow, follow_cut}

module _ {K D : Type 0} (tells : Type 0) (told : tells) (keep : Keep K) (disk : Disk D) (volume : Volume)
    (W : ModelWorld) (old : Whole) (stands : WorldStandsFor volume W old) (command : Command) (new : Whole)
    (x y : List (Pair D)) where
  pub step_follows : TellsFor disk.tells command → (answer : Answer)
      → Stepped tells keep disk old command answer new x y → FollowsOn keep disk volume W old command answer new x y
  step_follows disks_told answer is = record {
    outcomes = is.outcomes;
    follows = follow tells disk.tells told volume W old stands command disks_told is.outcomes answer new is.moves;
    disks = is.disks;
    fuses = is.fuses;
  }

  pub cut_stops : CutOn tells keep disk command old new x y → StopsOn keep disk volume W old command new x y
  cut_stops is = record {
    outcomes = is.outcomes;
    stops =
        follow_cut tells told volume command W old stands (record { outcomes = is.outcomes; after = new }) is.cut;
    disks = is.disks;
    fuses = is.fuses;
  }
