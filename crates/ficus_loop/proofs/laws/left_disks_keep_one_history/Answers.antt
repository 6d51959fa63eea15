use Rattle.ficus_loop.proofs.KilledDisks.{left_disks}
use Rattle.ficus_loop.proofs.laws.left_disks_keep_one_history.Goals as goal

pub returns : goal.returns
returns g c = λ kept volume W disks left lawful standings pairs count outlast was_left.
    left_disks kept g.D.Disk.seen g.D.Disk.may_leave volume W disks left lawful standings pairs count outlast was_left
