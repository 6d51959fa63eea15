use Rattle.ficus_opening.proofs.Openings.{none_held, sound_bad}
use Rattle.ficus_opening.proofs.checking.checks_tell_of_openings.Goals as goal

pub returns-clause-damaged : goal.returns-clause-damaged
returns-clause-damaged g c = λ disks r pair at none. none_held g.K.Keep.kept g.D.Disk.seen disks r pair at none

pub returns-clause-sound : goal.returns-clause-sound
returns-clause-sound g c = λ disks first r pair told opens at sound bad.
    sound_bad g.K.Keep.kept g.D.Disk.seen disks first r pair told opens at sound bad
