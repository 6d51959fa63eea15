-- Why an answer wasn't taken.
use Rattle.ficus_machine.specs.declared.fault.Halt.{Halt}
use Rattle.ficus_machine.specs.declared.fault.Halt.TheVariants as halt
use Rattle.ficus_machine.specs.declared.fault.LineFault.{LineFault}
use Rattle.ficus_machine.specs.declared.fault.LineFault.TheVariants as line

-- that a line isn't answered, as that an answer wasn't taken
abbrev pub halt_of : LineFault → Halt
halt_of line.Memory = halt.Memory
halt_of line.Note = halt.Note
