-- Disks in memory to which nothing has happened.
use Rattle.std.specs.Prelude.{◌≡◌, [], Some}
use Rattle.ficus_disk.specs.MemDisk.{armings_in, fuse_in, seen_in}
use Rattle.ficus_disk.specs.declared.fuse.Fuse.TheVariants.{Unarmed}
use Rattle.ficus_disk.specs.declared.mem_disk.MemDisk.{MemDisk}
use Rattle.ficus_disk.specs.declared.pair.Pair.{Pair}

-- an empty disk, whose fuse was never armed
pub record IsFreshDisk (disk : MemDisk) : Type 0 where
  pub empty : seen_in disk ≡ []
  pub unarmed : fuse_in disk ≡ Unarmed
  pub fused : armings_in disk ≡ Some 0

pub record IsFreshPair (pair : Pair MemDisk) : Type 0 where
  pub a : IsFreshDisk pair.a
  pub b : IsFreshDisk pair.b
