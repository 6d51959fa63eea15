use Rattle.ficus_world.proofs.machines.Finding.{idle_found, saving_found}
use Rattle.ficus_world.proofs.machines.laws.killed_disks_are_found.Goals as goal

pub returns-clause-idle : goal.returns-clause-idle
returns-clause-idle g c = λ tells. idle_found g.K.Keep g.D.Disk c.one_saved.ensures tells

pub returns-clause-saving : goal.returns-clause-saving
returns-clause-saving g c = λ tells moments. saving_found g.K.Keep g.D.Disk c.one_saved.ensures tells moments
