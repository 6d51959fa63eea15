-- The script that follows from a seed.
use Rattle.std.specs.Prelude.{ℕ, ◌+◌, ◌-◌, ◌%◌, List, [], ◌∷◌, ◌++◌, map, codes}
use Rattle.std.specs.List.{flat_map, range_with_len}
use Rattle.std.specs.Fmt.{decimal}
use Rattle.ficus_generator.specs.declared.step.Action.{Action}
use Rattle.ficus_generator.specs.declared.step.Action.TheVariants.{MkDir, Create, Write, Rm, Mv, Resolve, Collect, Pull}
use Rattle.ficus_generator.specs.declared.step.Step.{Step}
use Rattle.ficus_generator.specs.Step.{step_of}

-- the directory of this number, and the file in it
abbrev pub dir_text : ℕ → List ℕ
dir_text dir = codes "/d" ++ decimal dir

abbrev pub file_text : ℕ → ℕ → List ℕ
file_text dir file = codes "/d" ++ decimal dir ++ codes "/f" ++ decimal file

-- of so many members, from whom a replica pulls at a place: another member
abbrev pub peer_of : ℕ → ℕ → ℕ → ℕ
peer_of members by place = 1 + (by + place % (members - 1)) % members

abbrev pub mkdir_line : ℕ → ℕ → List ℕ
mkdir_line by dir = decimal by ++ codes " mkdir " ++ dir_text dir

abbrev pub pull_line : ℕ → ℕ → List ℕ
pull_line by peer = codes "pull " ++ decimal by ++ codes " " ++ decimal peer

-- the line of a step with this number, by this replica, at one of eight places. The place is the number of a file, and
-- tells that of its directory, one of four; a move is to the next directory.
abbrev pub action_line : ℕ → ℕ → ℕ → ℕ → Action → List ℕ
action_line members number by place MkDir = mkdir_line by (place % 4)
action_line members number by place Create =
    decimal by ++ codes " create " ++ file_text (place % 4) place ++ codes " lines"
action_line members number by place Write =
    decimal by ++ codes " write " ++ file_text (place % 4) place ++ codes " \"s" ++ decimal number ++ codes "\\n\""
action_line members number by place Rm = decimal by ++ codes " rm " ++ file_text (place % 4) place
action_line members number by place Mv =
    decimal by ++ codes " mv " ++ file_text (place % 4) place ++ codes " " ++ file_text ((place + 1) % 4) place
action_line members number by place Resolve = decimal by ++ codes " resolve " ++ file_text (place % 4) place
action_line members number by place Collect = decimal by ++ codes " collect"
action_line members number by place Pull = pull_line by (peer_of members by place)

abbrev pub step_line : ℕ → Step → List ℕ
step_line members step = action_line members step.number step.by step.place step.action

-- the first member makes four directories, and each other member hears of them
abbrev pub dir_lines : List (List ℕ)
dir_lines = map (mkdir_line 1) (range_with_len 0 4)

abbrev pub first_pull_lines : ℕ → List (List ℕ)
first_pull_lines members = map (λ member. pull_line member 1) (range_with_len 2 (members - 1))

-- the lines of so many steps
abbrev pub step_lines : ℕ → ℕ → ℕ → List (List ℕ)
step_lines seed steps members =
    map (λ number. step_line members (step_of members seed number)) (range_with_len 1 steps)

-- the lines of the script of a seed, over so many steps, for so many members
abbrev pub script_lines : ℕ → ℕ → ℕ → List (List ℕ)
script_lines seed steps members = dir_lines ++ first_pull_lines members ++ step_lines seed steps members

-- lines one after the other, each ended by byte 10
abbrev pub text_of : List (List ℕ) → List ℕ
text_of lines = flat_map (λ line. line ++ 10 ∷ []) lines
