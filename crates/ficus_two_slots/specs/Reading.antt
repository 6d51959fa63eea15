-- What is read of both disks.
use Rattle.std.specs.Prelude.{◌≡◌, ℕ, Vec, vec_items, Result, IfOk, IsErrOf, OnOk}
use Rattle.std.specs.declared.alloc.Global.{Global}
use Rattle.ficus_disk.specs.declared.disk.Disk.{Ghosts as Disk}
use Rattle.ficus_disk.specs.declared.pair.Pair.{Pair}
use Rattle.ficus_keeper.specs.declared.fault.StoreFault.{StoreFault}
use Rattle.ficus_keeper.specs.declared.fault.StoreFault.TheVariants.{NoImage}
use Rattle.ficus_slot.specs.Calls.{IsSynced}

-- the bytes are those that a read of each disk gave before, and nothing is unsynced; what fails is a disk, or memory
pub record ReadsBoth {D : Type 0} (disk : Disk D) (old new : Pair D)
    (result : Result (Vec ℕ Global × Vec ℕ Global) StoreFault) : Type 0 where
  pub a : disk.tells → IfOk result (λ bytes. vec_items bytes.0 ≡ disk.seen old.a)
  pub b : disk.tells → IfOk result (λ bytes. vec_items bytes.1 ≡ disk.seen old.b)
  pub synced_a : disk.tells → OnOk result (IsSynced disk new.a)
  pub synced_b : disk.tells → OnOk result (IsSynced disk new.b)
  pub some : IsErrOf result NoImage → ⊥
