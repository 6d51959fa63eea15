-- A step of a sweep does what its command does.
use Rattle.std.proofs.Common.{Result, refl}
use Rattle.ficus_ids.specs.declared.refusal.Refusal.{Refusal}
use Rattle.ficus_model.specs.Lawful.{Volume}
use Rattle.ficus_script.specs.declared.answer.Answer.{Answer}
use Rattle.ficus_runs.specs.Answers.{answer_as}
use Rattle.ficus_runs.specs.ModelWorld.{ModelWorld}
use Rattle.ficus_runs.specs.Run.{Does, DoesPart, Step}
use Rattle.ficus_runs.specs.Sequence.{Effect}
use Rattle.ficus_runs.specs.Sweep.{Collecting, DoesSweepPart, DoesSweepStep, Pulling, SweepStep, command_of}

pub of_command : (volume : Volume) (step : SweepStep) (W : ModelWorld) (result : Result Answer Refusal)
    (left : Effect ModelWorld) → Does volume (command_of step) W result left → DoesSweepStep volume step W result left
of_command volume (Pulling by to) W result left does = does
of_command volume (Collecting by) W result left does = does

as_command : (volume : Volume) (step : SweepStep) (W : ModelWorld) (result : Result Answer Refusal)
    (left : Effect ModelWorld) → DoesSweepStep volume step W result left → Does volume (command_of step) W result left
as_command volume (Pulling by to) W result left does = does
as_command volume (Collecting by) W result left does = does

pub as_step : (volume : Volume) (step : SweepStep) (W : ModelWorld) (result : Result Answer Refusal)
    (left : Effect ModelWorld) → DoesSweepStep volume step W result left
    → Step volume W (command_of step) left.outcomes (answer_as result) left.after
as_step volume step W result left does =
    record { result = result; does = as_command volume step W result left does; answer_is = refl }

-- also where memory is refused
pub of_part : (volume : Volume) (step : SweepStep) (W : ModelWorld) (left : Effect ModelWorld)
    → DoesPart volume (command_of step) W left → DoesSweepPart volume step W left
of_part volume (Pulling by to) W left part = part
of_part volume (Collecting by) W left part = part
