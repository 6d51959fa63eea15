use Rattle.ficus_loop.proofs.Covering.{covers}
use Rattle.ficus_loop.proofs.laws.killed_at_any_moment.Goals as goal

pub returns : goal.returns
returns g c = λ kept volume V U old new trail moments.
    covers kept g.D.Disk volume g.met.D.Disk.left_earlier moments trail
