-- The commands of the script that follows from a seed.
use Rattle.std.specs.Prelude.{ℕ, ◌+◌, ◌-◌, ◌%◌, List, [], ◌∷◌, ◌++◌, map, None}
use Rattle.std.specs.List.{range_with_len}
use Rattle.std.specs.Fmt.{decimal}
use Rattle.ficus_ids.specs.declared.kind.Kind.TheVariants.{Lines}
use Rattle.ficus_path.specs.declared.path.Base.TheVariants.{Root}
use Rattle.ficus_path.specs.declared.path.Part.{Part}
use Rattle.ficus_path.specs.declared.path.Path.{Path}
use Rattle.ficus_commands.specs.declared.change.Change.TheVariants as change
use Rattle.ficus_script.specs.declared.command.Command.{Command}
use Rattle.ficus_script.specs.declared.command.Command.TheVariants as command
use Rattle.ficus_generator.specs.declared.step.Action.{Action}
use Rattle.ficus_generator.specs.declared.step.Action.TheVariants.{MkDir, Create, Write, Rm, Mv, Resolve, Collect, Pull}
use Rattle.ficus_generator.specs.declared.step.Step.{Step}
use Rattle.ficus_generator.specs.Script.{peer_of}
use Rattle.ficus_generator.specs.Step.{step_of}

-- the part of a path whose name is a letter, `d` (100) or `f` (102), and a number
abbrev pub part_of : ℕ → ℕ → Part
part_of letter number = record { name = letter ∷ decimal number; target = None }

-- the directory of this number, at the root
abbrev pub dir_path : ℕ → Path
dir_path dir = record { base = Root; parts = part_of 100 dir ∷ [] }

-- the file of this number, in that directory
abbrev pub file_path : ℕ → ℕ → Path
file_path dir file = record { base = Root; parts = part_of 100 dir ∷ part_of 102 file ∷ [] }

-- what the step of this number writes: `s`, its number and byte 10
abbrev pub written : ℕ → List ℕ
written number = 115 ∷ (decimal number ++ 10 ∷ [])

abbrev pub mkdir_command : ℕ → ℕ → Command
mkdir_command by dir = command.Change by (change.MkDir (dir_path dir))

-- what a step with this number does, by this replica, at one of eight places
abbrev pub action_command : ℕ → ℕ → ℕ → ℕ → Action → Command
action_command members number by place MkDir = mkdir_command by (place % 4)
action_command members number by place Create = command.Change by (change.Create (file_path (place % 4) place) Lines)
action_command members number by place Write =
    command.Change by (change.Write (file_path (place % 4) place) (written number))
action_command members number by place Rm = command.Change by (change.Rm (file_path (place % 4) place))
action_command members number by place Mv =
    command.Change by (change.Mv (file_path (place % 4) place) (file_path ((place + 1) % 4) place))
action_command members number by place Resolve = command.Change by (change.Resolve (file_path (place % 4) place))
action_command members number by place Collect = command.Collect by
action_command members number by place Pull = command.Pull by (peer_of members by place)

abbrev pub step_command : ℕ → Step → Command
step_command members step = action_command members step.number step.by step.place step.action

-- the first member makes four directories, and each other member hears of them
abbrev pub dir_commands : List Command
dir_commands = map (mkdir_command 1) (range_with_len 0 4)

abbrev pub first_pull_commands : ℕ → List Command
first_pull_commands members = map (λ member. command.Pull member 1) (range_with_len 2 (members - 1))

-- the commands of so many steps
abbrev pub step_commands : ℕ → ℕ → ℕ → List Command
step_commands seed steps members =
    map (λ number. step_command members (step_of members seed number)) (range_with_len 1 steps)

-- the commands of the script of a seed, over so many steps, for so many members
abbrev pub script_commands : ℕ → ℕ → ℕ → List Command
script_commands seed steps members = dir_commands ++ first_pull_commands members ++ step_commands seed steps members
