use Rattle.std.proofs.Common.{refl}
use Rattle.ficus_journal.proofs.Still.{settled_still}
use Rattle.ficus_journal.proofs.journal.JournalKeep.reserve.Goals as goal

pub returns-in_err-reserve-clause-settled : goal.returns-in_err-reserve-clause-settled
returns-in_err-reserve-clause-settled g c told settled =
    settled_still g.D.Disk.seen g.D.Disk.may_leave c.args.self.now c.args.self.now c.args.disks.now
    (record { a = c.reserve.new.self; b = c.args.disks.now.b }) (c.reserve.ensures.keeps.seen told) refl
    c.reserve.ensures.keeps.crash (λ x left. left) settled

pub returns-clause-settled : goal.returns-clause-settled
returns-clause-settled g c told settled =
    settled_still g.D.Disk.seen g.D.Disk.may_leave c.args.self.now c.args.self.now c.args.disks.now
    (record { a = c.reserve.new.self; b = c.reserve-2.new.self }) (c.reserve.ensures.keeps.seen told)
    (c.reserve-2.ensures.keeps.seen told) c.reserve.ensures.keeps.crash c.reserve-2.ensures.keeps.crash settled
