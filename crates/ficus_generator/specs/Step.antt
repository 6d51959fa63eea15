-- The steps of a generated script, of which each draws three times.
use Rattle.std.specs.Prelude.{ℕ, ◌+◌, ◌-◌, ◌*◌, ◌==◌, if◌then◌else◌}
use Rattle.ficus_generator.specs.declared.step.Action.{Action}
use Rattle.ficus_generator.specs.declared.step.Action.TheVariants.{MkDir, Create, Write, Rm, Mv, Resolve, Collect, Pull}
use Rattle.ficus_generator.specs.declared.step.Step.{Step}
use Rattle.ficus_generator.specs.Draws.{state_after, drawn}

-- what a number below ten stands for: of ten steps two write and two pull
abbrev pub action_of : ℕ → Action
action_of choice =
    if choice == 0 then MkDir else
    if choice == 1 then Create else
    if choice == 2 then Write else
    if choice == 3 then Write else
    if choice == 4 then Rm else
    if choice == 5 then Mv else
    if choice == 6 then Resolve else
    if choice == 7 then Collect else Pull

-- the step of this number, where the draws before it left this state: it draws its replica, its action and its place
abbrev pub step_from : ℕ → ℕ → ℕ → Step
step_from members state number = record {
  number = number;
  by = 1 + drawn state 1 members;
  action = action_of (drawn state 2 10);
  place = drawn state 3 8;
}

-- the step of this number, counted from 1
abbrev pub step_of : ℕ → ℕ → ℕ → Step
step_of members seed number = step_from members (state_after seed (3 * (number - 1))) number
