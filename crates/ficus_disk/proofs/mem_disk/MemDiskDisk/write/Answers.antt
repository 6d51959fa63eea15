use Rattle.ficus_disk.specs.Held.{held_of}
use Rattle.ficus_disk.specs.MemDisk.{room_in}
use Rattle.ficus_disk.specs.declared.mem_disk.MemDisk.{MemDisk}
use Rattle.ficus_disk.proofs.Writing.{writes_over}
use Rattle.ficus_disk.proofs.mem_disk.MemDiskDisk.write.Goals as goal

pub returns-then-burn-clause-writes : goal.returns-then-burn-clause-writes
returns-then-burn-clause-writes c =
    writes_over (λ (d : MemDisk). held_of d.platter) room_in c.args.at c.args.bytes.now _ _ _ c.write.ensures.held
    c.write.ensures.torn c.write.ensures.crash c.write.ensures.room

pub returns-else-burn-clause-writes : goal.returns-else-burn-clause-writes
returns-else-burn-clause-writes c =
    writes_over (λ (d : MemDisk). held_of d.platter) room_in c.args.at c.args.bytes.now _ _ _ c.write.ensures.held
    c.write.ensures.torn c.write.ensures.crash c.write.ensures.room
