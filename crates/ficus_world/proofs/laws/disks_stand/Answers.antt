use Rattle.std.proofs.Common.{◌≡◌, length}
use Rattle.ficus_opening.proofs.Openings.{pairs_of}
use Rattle.ficus_world.specs.World.{IsWorld}
use Rattle.ficus_world.proofs.Stand.{disks_outlast_for, outlast_stand}
use Rattle.ficus_world.proofs.laws.disks_stand.Goals as goal

pub returns-clause-outlasts : goal.returns-clause-outlasts
returns-clause-outlasts g c = λ told volume W stands.
    let sound : IsWorld c.args.world.now.whole =
    rw (← c.world.view_is) (rw (← c.world-inside.view_is) c.world-inside.invariant) in
    let count : length c.args.world.now.stables ≡ length c.args.world.now.whole.members =
    rw (← c.world.view_is) c.world.invariant in
    disks_outlast_for g.K.Keep g.D.Disk volume told W c.args.world.now.whole c.args.disks.now.items sound stands
    (pairs_of g.K.Keep g.D.Disk c.args.world.now.whole.members c.args.world.now.stables c.args.disks.now.items count
    c.requires)

pub returns-clause-stand : goal.returns-clause-stand
returns-clause-stand g c = λ told volume W stands.
    outlast_stand g.K.Keep g.D.Disk volume
    (λ disk. g.met.D.Disk.seen_may_be_left told disk) W c.args.disks.now.items
    (returns-clause-outlasts g c told volume W stands)
