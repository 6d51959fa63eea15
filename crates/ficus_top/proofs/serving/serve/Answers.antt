use Rattle.std.proofs.Common.{◌≡◌, Err, ap, ◌∙◌}
use Rattle.ficus_top.specs.Status.{code_of}
use Rattle.ficus_loop.specs.declared.fault.AnsweringFault.{AnsweringFault}
use Rattle.ficus_loop.specs.declared.fault.AnsweringFault.TheVariants.{Memory}
use Rattle.ficus_top.specs.declared.fault.Fault.TheVariants.{Answering}
use Rattle.ficus_top.specs.declared.status.Status.{Status}
use Rattle.ficus_loop.proofs.Performed.{performed_where}
use Rattle.ficus_loop.proofs.Serves.{world_front_where}
use Rattle.ficus_top.proofs.serving.serve.Goals as goal

-- want of memory is told by its code
memory_code : (fault : AnsweringFault) → fault ≡ Memory → code_of {Done = Unit {0}} (Err (Answering fault)) ≡ 3
memory_code fault is = ap (λ (f : AnsweringFault). code_of {Done = Unit {0}} (Err (Answering f))) is

pub returns-in-Err-clause-prefix : goal.returns-in-Err-clause-prefix
returns-in-Err-clause-prefix g c = λ told tell codes volume W stands.
    world_front_where
    (λ memory. ap (λ (status : Status). status.code) c.of-in-Err.ensures ∙ memory_code c.in-Err.fault memory)
    (c.in-Err.ensures.prefix told tell volume W stands)

pub returns-in-Err-clause-moves_front : goal.returns-in-Err-clause-moves_front
returns-in-Err-clause-moves_front g c = λ codes.
    performed_where
    (λ memory. ap (λ (status : Status). status.code) c.of-in-Err.ensures ∙ memory_code c.in-Err.fault memory)
    c.in-Err.ensures.moves_front
