use Rattle.ficus_opening.proofs.Stand.{made_stands}
use Rattle.ficus_opening.proofs.making.what_is_made_stands.Goals as goal

pub returns : goal.returns
returns g c = λ volume disks count some ids bytes made.
    made_stands g.K.Keep.kept g.D.Disk.seen volume disks count some ids bytes made
