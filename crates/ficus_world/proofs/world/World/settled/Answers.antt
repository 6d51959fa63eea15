use Rattle.std.proofs.Common.{◌≡◌, length}
use Rattle.ficus_opening.proofs.Openings.{pairs_of}
use Rattle.ficus_world.specs.World.{IsWorld}
use Rattle.ficus_world.proofs.Kills.{settled_so}
use Rattle.ficus_world.proofs.world.World.settled.Goals as goal

pub returns : goal.returns
returns g c =
    let sound : IsWorld c.args.self.now.whole =
    rw (← c.self.view_is) (rw (← c.self-inside.view_is) c.self-inside.invariant) in
    let count : length c.args.self.now.stables ≡ length c.args.self.now.whole.members =
    rw (← c.self.view_is) c.self.invariant in
    settled_so g.K.Keep g.D.Disk c.args.self.now.whole c.args.disks.now.items sound
    (pairs_of g.K.Keep g.D.Disk c.args.self.now.whole.members c.args.self.now.stables c.args.disks.now.items count
    c.requires)
