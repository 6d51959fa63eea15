use Rattle.ficus_loop.proofs.Lifting.{lift}
use Rattle.ficus_loop.proofs.laws.steps_leave_trails.Goals as goal

pub returns : goal.returns
returns g c = λ volume command W old new disks now told disks_told stands passes.
    let lifted = lift g.K.Keep g.D.Disk g.met.D.Disk.only_now volume g.L.Link.tells told disks_told W old new disks now
    stands passes in
    (lifted.after, lifted.stands, record { trail = lifted.trail; own = lifted.own })
