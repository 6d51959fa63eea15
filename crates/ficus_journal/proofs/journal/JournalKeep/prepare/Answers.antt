use Rattle.std.proofs.Common.{refl}
use Rattle.ficus_keeper.proofs.Results.{in_ok}
use Rattle.ficus_journal.proofs.Still.{settled_still}
use Rattle.ficus_journal.proofs.journal.JournalKeep.prepare.Goals as goal

pub returns-in_err-reserve_range-clause-settled : goal.returns-in_err-reserve_range-clause-settled
returns-in_err-reserve_range-clause-settled g c told settled =
    settled_still g.D.Disk.seen g.D.Disk.may_leave c.args.self.now (record c.args.self.now { buffer = c.reserve_range.new.buffer })
    c.args.disks.now c.args.disks.now refl refl (λ x left. left) (λ x left. left) settled

pub returns-clause-settled : goal.returns-clause-settled
returns-clause-settled g c told settled =
    c.reserve.ensures.settled told
    (settled_still g.D.Disk.seen g.D.Disk.may_leave c.args.self.now
    (record c.args.self.now { buffer = c.reserve_range.new.buffer }) c.args.disks.now c.args.disks.now refl refl
    (λ x left. left) (λ x left. left) settled)

pub returns-clause-room : goal.returns-clause-room
returns-clause-room g c =
    in_ok c.reserve.result
    (λ has. record {
      takes = record { short = has.takes; room = c.in_ok-reserve_range.ensures };
      room_a = has.room_a;
      room_b = has.room_b;
    })
    c.reserve.ensures.room
