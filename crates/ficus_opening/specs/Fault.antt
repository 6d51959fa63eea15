-- What is told of faults, and how.
use Rattle.std.specs.Prelude.{ℕ, List, ◌++◌, Result, Ok, Err, codes}
use Rattle.std.specs.Fmt.{decimal}
use Rattle.ficus_keeper.specs.declared.fault.StoreFault.{StoreFault}
use Rattle.ficus_keeper.specs.declared.fault.StoreFault.TheVariants as store
use Rattle.ficus_stable_storage.specs.declared.stable.Recovered.{Recovered}
use Rattle.ficus_opening.specs.Check.Judged.{soundness_of}
use Rattle.ficus_opening.specs.declared.check.checked.Checked.{Checked}
use Rattle.ficus_opening.specs.declared.check.checked.Checked.TheVariants.{Damaged}
use Rattle.ficus_opening.specs.declared.fault.WorldFault.{WorldFault}
use Rattle.ficus_opening.specs.declared.fault.WorldFault.TheVariants.{Image, Memory, Occupied, Store}

-- how a fault is written
abbrev pub fault_text : WorldFault → List ℕ
fault_text (Occupied r) = codes "replica " ++ decimal r ++ codes " is occupied"
fault_text (Store r) = codes "store fault at replica " ++ decimal r
fault_text (Image r) = codes "no image at replica " ++ decimal r
fault_text Memory = codes "memory"

-- what is told where the disks of replica `r` weren't opened: its number, but for want of memory
abbrev pub told_of : ℕ → StoreFault → WorldFault
told_of r store.Failed = Store r
told_of r store.NoImage = Image r
told_of r store.Memory = Memory

-- what a check tells of what was opened: no image is damage, any other fault is handed on
abbrev pub checked_of : {K : Type 0} → Result (Recovered K) WorldFault → Result Checked WorldFault
checked_of (Ok found) = Ok (soundness_of found.saved)
checked_of (Err (Image r)) = Ok Damaged
checked_of (Err (Occupied r)) = Err (Occupied r)
checked_of (Err (Store r)) = Err (Store r)
checked_of (Err Memory) = Err Memory
