use Rattle.std.proofs.lemmas.Result.{IfOk-weaker}
use Rattle.ficus_runs.specs.Run.{CommandMayWantMemory}
use Rattle.ficus_world.specs.Follows.{FollowsOn, StopsOn}
use Rattle.ficus_world.specs.Moves.{HasCollected}
use Rattle.ficus_world.specs.Stepped.{CutOn, Stepped}
use Rattle.ficus_world.proofs.Collecting.{moves_collected}
use Rattle.ficus_world.proofs.Lifting.Following.{follow_wanted}
use Rattle.ficus_world.proofs.Growing.{comes_foreseen}
use Rattle.ficus_world.proofs.Moved.{answered_cut, answered_moves, answered_wants}
use Rattle.ficus_world.proofs.Lifting.Stepping.{cut_stops, step_follows}
use Rattle.ficus_world.proofs.world.World.step.Goals as goal

pub returns : goal.returns
returns g c =
    let tells = g.L.Link.tells in
    let old = c.args.self.now.whole in
    let new = c.carry_out-came_to.new.self.whole in
    let was = c.args.disks.now.items in
    let now = c.carry_out-came_to.new.disks.items in
    let command = c.args.command.now in
    let came_to = c.carry_out-came_to.result in
    let result = c.answered.result in
    let carried = c.carry_out-came_to.ensures in
    let answered = c.answered.ensures in
    let moves =
    answered_moves tells g.K.Keep g.D.Disk old new command came_to result was now carried.moves answered.answer in
    record {
      moves = moves;
      grows = comes_foreseen tells g.K.Keep g.D.Disk old new command was now came_to carried.moves carried.memory
          c.settled-2.ensures.sound;
      members = carried.acts.members;
      pairs = carried.moves.disks.count;
      memory = answered_cut (CutOn tells g.K.Keep g.D.Disk command old new was now) came_to result carried.memory
          answered.memory;
      unsaved = carried.unsaved;
      backed = carried.acts.backed;
      passes = carried.acts.passes c.settled.ensures c.settled-2.ensures;
      touches = carried.touches;
      spared = carried.spared;
      unwritten = carried.unwritten;
      left = carried.left;
      others = carried.acts.others;
      collected =
          IfOk-weaker result (λ answer. Stepped tells g.K.Keep g.D.Disk old command answer new was now)
          (λ answer. HasCollected command answer new)
          (λ answer is. moves_collected tells g.D.Disk.tells old command is.outcomes answer new is.moves) moves;
      stands = λ told disks_told volume W stands.
          IfOk-weaker result (λ answer. Stepped tells g.K.Keep g.D.Disk old command answer new was now)
          (λ answer. FollowsOn g.K.Keep g.D.Disk volume W old command answer new was now)
          (step_follows tells told g.K.Keep g.D.Disk volume W old stands command new was now disks_told) moves;
      stays = λ told volume W stands.
          answered_cut (StopsOn g.K.Keep g.D.Disk volume W old command new was now) came_to result
          (λ memory. cut_stops tells told g.K.Keep g.D.Disk volume W old stands command new was now
          (carried.memory memory)) answered.memory;
      wants = λ volume W stands.
          answered_wants tells g.K.Keep g.D.Disk old new command came_to result was now
          (CommandMayWantMemory volume W command) (follow_wanted volume W old stands command) carried.moves
          answered.memory;
    }

pub settled-requires-2 : goal.settled-requires-2
settled-requires-2 g c = c.carry_out-came_to.ensures.acts.backed.disks

pub settled-requires : goal.settled-requires
settled-requires g c = c.requires.backed.disks
