use Rattle.ficus_disk.specs.FailDisk.{held_in, room_in}
use Rattle.ficus_disk.proofs.Writing.{writes_over}
use Rattle.ficus_disk.proofs.fail_disk.FailDiskDisk.write.Goals as goal

pub returns-clause-writes : goal.returns-clause-writes
returns-clause-writes c =
    writes_over held_in room_in c.args.at c.args.bytes.now _ _ _ c.write.ensures.held c.write.ensures.torn
    c.write.ensures.crash c.write.ensures.room
