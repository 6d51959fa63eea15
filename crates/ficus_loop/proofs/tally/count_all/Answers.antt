use Rattle.std.proofs.Common.{◌*◌, List, refl, subst, arith}
use Rattle.std.proofs.lemmas.List.{take_all}
use Rattle.ficus_script.specs.declared.command.Command.{Command}
use Rattle.ficus_loop.specs.SweepFollows.{most_swept}
use Rattle.ficus_loop.specs.Tally.{Tallies}
use Rattle.ficus_world.specs.Follows.{TellsFor}
use Rattle.ficus_loop.proofs.Backing.{backed_none, backed_then}
use Rattle.ficus_loop.proofs.Serves.{command_at}
use Rattle.ficus_loop.proofs.Tallying.{tallies_more, tallies_none}
use Rattle.ficus_loop.proofs.tally.count_all.Goals as goal

pub loop-command-init : goal.loop-command-init
loop-command-init g c = record {
  counted = λ told tell volume W stands. tallies_none W _ _ _ stands;
  few = refl;
  disks = backed_none (most_swept * 0) c.args.world.now c.args.disks.now.items c.requires.backed;
}

pub loop-command-preserved : goal.loop-command-preserved
loop-command-preserved g c = record {
  counted = λ told tell volume W stands.
      tallies_more c.args.commands.now c.loop-command.command-index c.command-item.result c.count_one.new.world.whole
      c.count_one.new.tally c.count_one.new.disks.items c.loop-command-test.true c.command-item.is
      (c.loop-command.invariant.counted told tell volume W stands)
      (c.in_ok-count_one.ensures.answer told
      (command_at (TellsFor g.D.Disk.tells) _ _ _ c.loop-command-test.true c.command-item.is tell) volume);
  few = omega (arith, c.in_ok-count_one.ensures.more, c.loop-command.invariant.few);
  disks = backed_then _ (omega arith) c.loop-command.invariant.disks c.count_one.ensures.disks;
}

pub returns : goal.returns
returns g c = record {
  answers = λ told tell volume W stands.
      subst (λ (some : List Command). Tallies g.P.Keep g.D.Disk volume W c.args.world.now.whole some
      c.loop-command.world.whole (record { ok = 0; no = 0 }) c.loop-command.tally c.args.disks.now.items
      c.loop-command.disks.items)
      (take_all c.loop-command.command-index c.args.commands.now c.loop-command-test.false)
      (c.loop-command.invariant.counted told tell volume W stands);
}
