use Rattle.ficus_loop.proofs.KilledDisks.{killed_disks}
use Rattle.ficus_loop.proofs.laws.killed_disks_keep_one_history.Goals as goal

pub returns : goal.returns
returns g c = λ kept volume V U old new left told moments lawful lawful_too standings standings_too pairs count neighbours was_left.
    killed_disks kept g.D.Disk volume V U old new left told moments lawful lawful_too standings standings_too pairs count
    neighbours was_left
