use Rattle.ficus_two_slots.specs.Slots.{IsRegular, kept_in}
use Rattle.ficus_two_slots.proofs.Making.{made, reads_made}
use Rattle.ficus_two_slots.proofs.two_slot.TwoSlotKeep.make.Goals as goal

pub returns-clause-told : goal.returns-clause-told
returns-clause-told g c told =
    let keeps = c.reserve.ensures.keeps in
    made kept_in IsRegular g.D.Disk.seen g.D.Disk.may_leave g.D.Disk.moment g.D.Disk.left_since c.args.image.now
    (reads_made c.args.image.now) c.args.disks.now c.reserve.new.self c.save_slot.new.disk _ c.frame.ensures.body
    g.met.D.Disk.only_now (c.requires.empty_a told) (c.requires.empty_b told) (keeps.seen told) keeps.crash keeps.moments
    (c.save_slot.ensures.crash told) (c.save_slot.ensures.moments told)
    (c.in_ok-save_slot.ensures.saved told) (c.in_ok-save_slot.ensures.durable told)
