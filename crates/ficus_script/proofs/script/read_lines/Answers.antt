use Rattle.std.proofs.Common.{Err, refl, ap}
use Rattle.ficus_script.proofs.ScriptLaws.{all_may, fault_is, one_first_bad}
use Rattle.ficus_script.specs.declared.fault.ScriptFault.TheVariants.{BadLine}
use Rattle.ficus_script.proofs.script.read_lines.Goals as goal

pub returns-in-Ok-clause-no_line : goal.returns-in-Ok-clause-no_line
returns-in-Ok-clause-no_line g c = λ line first. absurd (all_may _ _ line c.in-Ok.ensures.good first)

pub returns-in-Err-BadLine-clause-no_line : goal.returns-in-Err-BadLine-clause-no_line
returns-in-Err-BadLine-clause-no_line g c = λ line first.
    let named = rw c.in-Err-BadLine.field-0-is at c.in-Err-BadLine.ensures.bad_line in
    ap (λ number. Err (BadLine number)) (one_first_bad _ _ _ line (named c.in-Err-BadLine.line refl) first)

pub returns-in-Err-Memory-clause-no_line : goal.returns-in-Err-Memory-clause-no_line
returns-in-Err-Memory-clause-no_line g c = λ line first.
    ap Err (fault_is _ _ _ line c.fault_without_memory.ensures.bad_line c.fault_without_memory.ensures.memory first)
