-- Why no note was opened.
use Rattle.ficus_keeper.specs.declared.fault.StoreFault.{StoreFault}
use Rattle.ficus_keeper.specs.declared.fault.StoreFault.TheVariants as store
use Rattle.ficus_note.specs.declared.fault.NoteFault.{NoteFault}
use Rattle.ficus_note.specs.declared.fault.NoteFault.TheVariants.{Failed, NoNote, Memory}

-- what a keeper's fault is told as
abbrev pub fault_of : StoreFault → NoteFault
fault_of store.Failed = Failed
fault_of store.NoImage = NoNote
fault_of store.Memory = Memory
