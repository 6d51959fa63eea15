use Rattle.std.proofs.Common.{◌≡◌, ◌+◌, ◌*◌, List, take, refl, ◌∙◌, subst, arith}
use Rattle.std.proofs.lemmas.List.{take_all}
use Rattle.std.proofs.lemmas.Result.{err_from_is_err_and}
use Rattle.ficus_script.specs.declared.command.Command.{Command}
use Rattle.ficus_loop.specs.Performed.{PutsPerformed}
use Rattle.ficus_loop.specs.Serving.{ServesWorld}
use Rattle.ficus_loop.proofs.Performed.{performed_more, performed_next, performed_none}
use Rattle.ficus_world.specs.Follows.{TellsFor}
use Rattle.ficus_loop.specs.SweepFollows.{most_swept}
use Rattle.ficus_loop.proofs.Backing.{backed_none, backed_then}
use Rattle.ficus_loop.proofs.Faults.{untold}
use Rattle.ficus_loop.proofs.Serves.{command_at, world_none, world_more, front_next}
use Rattle.ficus_loop.proofs.answering.answer_all.Goals as goal

pub loop-command-init : goal.loop-command-init
loop-command-init g c = record {
  served = λ told tell volume W stands. world_none W _ _ _ stands;
  moves = performed_none _ _ _;
  disks = backed_none (most_swept * 0) c.args.world.now c.args.disks.now.items c.requires.backed;
  steady = refl;
}

pub loop-command-preserved : goal.loop-command-preserved
loop-command-preserved g c = record {
  served = λ told tell volume W stands.
      world_more c.args.commands.now c.loop-command.command-index c.command-item.result c.answer_one.new.world.whole
      c.answer_one.new.disks.items c.loop-command-test.true c.command-item.is
      (c.loop-command.invariant.served told tell volume W stands)
      (c.in_ok-answer_one.ensures.answer told
      (command_at (TellsFor g.D.Disk.tells) _ _ _ c.loop-command-test.true c.command-item.is tell) volume);
  moves = performed_more c.args.commands.now c.loop-command.command-index c.command-item.result c.loop-command-test.true
      c.command-item.is c.loop-command.invariant.moves c.in_ok-answer_one.ensures.moves;
  disks = backed_then _ (omega arith) c.loop-command.invariant.disks c.answer_one.ensures.disks;
  steady = untold _ _ _ _ _ c.answer_one.ensures.told c.answer_one.ensures.counted c.in_ok-answer_one.was
      ∙ c.loop-command.invariant.steady;
}

pub returns-in_err-answer_one-clause-prefix : goal.returns-in_err-answer_one-clause-prefix
returns-in_err-answer_one-clause-prefix g c = λ told tell.
    let p = err_from_is_err_and c.from_residual.result c.from_residual.ensures.1 in
    rw (p.1, p.2) (λ volume W stands.
    front_next c.args.commands.now c.loop-command.command-index c.command-item.result c.answer_one.new.world.whole
    c.answer_one.new.disks.items c.loop-command-test.true c.command-item.is
    (c.loop-command.invariant.served told tell volume W stands)
    (c.in_err-answer_one.ensures.front told
    (command_at (TellsFor g.D.Disk.tells) _ _ _ c.loop-command-test.true c.command-item.is tell) volume))

pub returns-clause-answers : goal.returns-clause-answers
returns-clause-answers g c = λ told tell volume W stands.
    let commands = c.args.commands.now in
    let served = c.loop-command.invariant.served told tell volume W stands in
    let all : take c.loop-command.command-index commands ≡ commands = take_all c.loop-command.command-index commands
    c.loop-command-test.false in
    subst (λ (some : List Command). ServesWorld g.K.Sink.tells g.P.Keep g.D.Disk volume W
    c.args.world.now.whole some c.loop-command.world.whole (g.K.Sink.written c.args.output.now)
    (g.K.Sink.written c.loop-command.output) c.args.disks.now.items c.loop-command.disks.items) all served

pub returns-in_err-answer_one-clause-moves_front : goal.returns-in_err-answer_one-clause-moves_front
returns-in_err-answer_one-clause-moves_front g c =
    let p = err_from_is_err_and c.from_residual.result c.from_residual.ensures.1 in
    rw (p.1, p.2)
    (performed_next c.args.commands.now c.loop-command.command-index c.command-item.result c.loop-command-test.true
    c.command-item.is c.loop-command.invariant.moves c.in_err-answer_one.ensures.moves_front)

pub returns-clause-moves : goal.returns-clause-moves
returns-clause-moves g c =
    let commands = c.args.commands.now in
    let all : take c.loop-command.command-index commands ≡ commands = take_all c.loop-command.command-index commands
    c.loop-command-test.false in
    subst (λ (some : List Command). PutsPerformed g.K.Sink.tells g.L.Link.tells g.P.Keep g.D.Disk
    c.args.world.now.whole some c.loop-command.world.whole (g.K.Sink.written c.args.output.now)
    (g.K.Sink.written c.loop-command.output) c.args.disks.now.items c.loop-command.disks.items) all
    c.loop-command.invariant.moves

pub returns-in_err-answer_one-clause-others : goal.returns-in_err-answer_one-clause-others
returns-in_err-answer_one-clause-others g c =
    (backed_then (most_swept * (c.loop-command.command-index + 1)) (omega arith) c.loop-command.invariant.disks
    c.answer_one.ensures.disks).others

pub returns-clause-others : goal.returns-clause-others
returns-clause-others g c = c.loop-command.invariant.disks.others
