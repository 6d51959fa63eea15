use Rattle.std.proofs.Common.{[], Bool, List, arith, subst}
use Rattle.ficus_runs.specs.Start.{start}
use Rattle.ficus_top.proofs.summary.Summarizing.{all_fused}
use Rattle.ficus_top.specs.Summary.Sized.{sized}
use Rattle.ficus_world.specs.World.{WorldStandsFor}
use Rattle.ficus_top.specs.Fresh.{begun}
use Rattle.ficus_top.proofs.Begun.{few_events, fresh_more}
use Rattle.ficus_top.proofs.fresh.add_volume.Goals as goal

pub returns-clause-fresh : goal.returns-clause-fresh
returns-clause-fresh c = λ are.
    let volume = sized c.args.members c.args.ids c.args.bytes in
    let stands : WorldStandsFor volume (begun c.args.members) c.in_ok-world.world.whole =
    subst (λ (fused : List Bool). WorldStandsFor volume (start [] c.args.members 805306368 fused)
    c.in_ok-world.world.whole)
    (all_fused c.args.members c.in_ok-disks.disks.items
    (omega (arith, c.in_ok-disks.ensures.count, c.requires.members.at_most))) c.in_ok-world.ensures.stands in
    rw (c.in_ok-push.ensures.items, c.in_ok-push-2.ensures.items)
    (fresh_more volume c.args.fresh.now.worlds.items c.args.fresh.now.disks.items c.in_ok-world.world
    c.fresh_world.new.disks
    c.in_ok-world.ensures.backed
    (record {
      stands = stands;
      few = few_events volume c.in_ok-world.world.whole c.requires.members stands;
      unfailed = c.in_ok-world.ensures.unfailed;
      fuses = c.in_ok-world.ensures.fuses;
    }) are)
