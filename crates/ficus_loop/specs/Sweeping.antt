-- How a sweep is answered.
use Rattle.std.specs.Prelude.{◌≡◌, Result, Ok, Err}
use Rattle.ficus_ids.specs.declared.memory.Memory.{Memory as OutOfMemory}
use Rattle.ficus_runs.specs.Sweep.{swept_answer}
use Rattle.ficus_script.specs.declared.answer.Answer.{Answer}
use Rattle.ficus_script.specs.declared.answer.Answer.TheVariants.{Refused}
use Rattle.ficus_loop.specs.SweepFollows.{swept_of}
use Rattle.ficus_loop.specs.declared.sweep_fault.SweepFault.{SweepFault}
use Rattle.ficus_loop.specs.declared.sweep_fault.SweepFault.TheVariants.{Stopped, Memory}
use Rattle.ficus_loop.specs.declared.sweep_report.SweepReport.{SweepReport}

-- with its counts, or with the refusal that it met; where memory was refused it isn't
abbrev pub AnswersSweep : Result SweepReport SweepFault → Result Answer OutOfMemory → Type 0
AnswersSweep (Ok report) (Ok answer) = answer ≡ swept_answer (swept_of report)
AnswersSweep (Ok report) (Err memory) = ⊥
AnswersSweep (Err (Stopped refusal)) (Ok answer) = answer ≡ Refused refusal
AnswersSweep (Err (Stopped refusal)) (Err memory) = ⊥
AnswersSweep (Err Memory) (Ok answer) = ⊥
AnswersSweep (Err Memory) (Err memory) = Unit {0}
