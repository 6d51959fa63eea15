use Rattle.ficus_top.specs.Summary.Keeper.{kept_in}
use Rattle.ficus_top.proofs.KilledRuns.{kept_stands, killed_between, killed_in_run}
use Rattle.ficus_top.proofs.laws.killed_runs_go_on.Goals as goal

pub returns-clause-run : goal.returns-clause-run
returns-clause-run g c = λ volume W after commands outcomes answers entry now left killed told moments lawful count pairs there.
    killed_in_run told moments left pairs killed lawful count there

pub returns-clause-cut : goal.returns-clause-cut
returns-clause-cut g c = λ volume V U old new left trail told moments lawful count pairs there.
    killed_between told moments left pairs trail lawful count there

pub returns-clause-next : goal.returns-clause-next
returns-clause-next g c = λ volume W left count few keeps.
    kept_stands kept_in g.D.Disk.seen volume W left count few keeps
