use Rattle.ficus_loop.proofs.Crashes.{synced_crashes_keep}
use Rattle.ficus_loop.proofs.KilledDisks.{left_disks}
use Rattle.ficus_top.specs.Summary.Keeper.{kept_in}
use Rattle.ficus_top.proofs.KilledRuns.{kept_stands}
use Rattle.ficus_top.proofs.NextRuns.{crashes_keep, stands_left, stands_next}
use Rattle.ficus_top.proofs.laws.next_run_goes_on.Goals as goal

pub returns-clause-stand : goal.returns-clause-stand
returns-clause-stand g c = λ volume after disks count lawful few standings up stand.
    stands_next g.D.Disk.seen volume after disks count lawful few standings up stand

pub returns-clause-outlasts : goal.returns-clause-outlasts
returns-clause-outlasts g c = λ volume after disks left count lawful few standings up outlast same leaves.
    stands_left g.D.Disk.seen g.D.Disk.may_leave volume after disks left count lawful few standings up outlast same
    leaves

pub returns-clause-down : goal.returns-clause-down
returns-clause-down g c = λ volume after disks left count lawful few standings pairs outlast same leaves.
    kept_stands kept_in g.D.Disk.seen volume after left count few
    (left_disks kept_in g.D.Disk.seen g.D.Disk.may_leave volume after disks left lawful standings pairs same outlast
    leaves)

pub returns-clause-crashes : goal.returns-clause-crashes
returns-clause-crashes g c = λ volume after disks standings up outlast.
    crashes_keep g.D.Disk.seen g.D.Disk.may_leave volume after disks standings up outlast

pub returns-clause-synced : goal.returns-clause-synced
returns-clause-synced g c = λ volume H disks stands synced.
    synced_crashes_keep kept_in g.D.Disk.seen g.D.Disk.may_leave volume H disks stands synced
