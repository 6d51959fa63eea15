use Rattle.std.proofs.Common.{length, ap, arith, refl, sym}
use Rattle.ficus_runs.specs.Start.{default_volume}
use Rattle.ficus_top.specs.Summary.Keeper.{keeper}
use Rattle.ficus_top.specs.Summary.Summary.{fresh_start}
use Rattle.ficus_world.specs.Fuses.{at_rest}
use Rattle.ficus_loop.proofs.Places.{tells_all}
use Rattle.ficus_top.proofs.summary.Runs.{counted_as, fresh_few, stored_more}
use Rattle.ficus_top.proofs.summary.running.run.Goals as goal

pub count_all-requires-clause-room : goal.count_all-requires-clause-room
count_all-requires-clause-room g c =
    omega (arith, fresh_few c.args.members c.args.world.now.whole c.requires.members c.requires.stands)

pub overflow_sub-result : goal.overflow_sub-result
overflow_sub-result g c =
    omega (
      arith,
      c.len.ensures.value,
      ap length c.history-2.ensures.events,
      c.len-before.ensures.value,
      ap length c.history.ensures.events,
      stored_more keeper g.D.Disk c.args.members c.args.commands.now c.args.world.now.whole
          c.count_all.new.world.whole c.in_ok-tally.tally c.args.disks.now.items c.count_all.new.disks.items
          (c.in_ok-tally.ensures.answers tt (tells_all c.requires.tells c.args.commands.now)
          (default_volume c.args.members) (fresh_start c.args.members) c.requires.stands),
    )

pub returns : goal.returns
returns g c = record {
  counted = counted_as keeper g.D.Disk c.args.members c.args.commands.now c.args.world.now.whole
      c.count_all.new.world.whole c.in_ok-tally.tally c.args.disks.now.items c.count_all.new.disks.items
      (c.in_ok-tally.ensures.answers tt (tells_all c.requires.tells c.args.commands.now)
      (default_volume c.args.members) (fresh_start c.args.members) c.requires.stands)
      c.requires.tells_fuse c.requires.tells c.requires.stopless c.requires.unfailed (sym c.link.ensures.faults)
      (c.requires.fuses (λ r. at_rest 0) (λ r. refl)) _ refl refl refl
      (omega (
        arith,
        c.len.ensures.value,
        ap length c.history-2.ensures.events,
        c.len-before.ensures.value,
        ap length c.history.ensures.events,
      ));
}
