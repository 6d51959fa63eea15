use Rattle.ficus_journal.proofs.Gates.{commits_shut}
use Rattle.ficus_journal.proofs.laws.two_slots_leave_no_open_gate.Goals as goal

pub returns : goal.returns
returns g c = λ old new. commits_shut g.D.Disk old new g.met.D.Disk.seen_may_be_left
