-- What commands are answered with, from a world of the model on, and what is put of it.
use Rattle.std.specs.Prelude.{◌≡◌, ℕ, ◌-◌, ◌≤◌, List, [], ◌∷◌, ◌++◌, length, take, drop}
use Rattle.std.specs.List.{flat_map}
use Rattle.ficus_disk.specs.declared.disk.Disk.{Ghosts as Disk}
use Rattle.ficus_disk.specs.declared.pair.Pair.{Pair}
use Rattle.ficus_keeper.specs.declared.keep.Keep.{Ghosts as Keep}
use Rattle.ficus_model.specs.Lawful.{Volume}
use Rattle.ficus_script.specs.declared.command.Command.{Command}
use Rattle.ficus_script.specs.declared.answer.Answer.{Answer}
use Rattle.ficus_script.specs.Answer.{answer_text_of}
use Rattle.ficus_runs.specs.Outcomes.{all_outcomes}
use Rattle.ficus_runs.specs.ModelWorld.{ModelWorld}
use Rattle.ficus_runs.specs.Outcome.{Outcome, link_failures}
use Rattle.ficus_runs.specs.Run.{Run, DoesPart}
use Rattle.ficus_runs.specs.Sequence.{Effect}
use Rattle.ficus_world.specs.Causes.{AreCaused}
use Rattle.ficus_world.specs.Disks.{DisksFollow}
use Rattle.ficus_world.specs.Follows.{StoresAsMany}
use Rattle.ficus_world.specs.Fuses.{FusesFollow, FusesPermit}
use Rattle.ficus_world.specs.World.{Whole, WorldStandsFor}
use Rattle.ficus_loop.specs.Trail.{FrontOn, RunOn}
use Rattle.ficus_loop.specs.Puts.{PutsFront}

-- the most bytes of a script, and so the most commands: 1 MiB
abbrev pub script_limit : ℕ
script_limit = 1048576

-- a world with fewer stored events has room for those of a script's commands
abbrev pub serving_limit : ℕ
serving_limit = 4000000000

-- the texts of the answers, one after the other
abbrev pub texts_of : List Answer → List ℕ
texts_of answers = flat_map answer_text_of answers

-- From the world W on the commands have these answers, which lead to the world after them. Over a sink that tells, the
-- texts of the answers were put, in order, and nothing else.
pub record Serves (tells : Type 0) (volume : Volume) (W : ModelWorld) (commands : List Command) (after : ModelWorld)
    (old new : List ℕ) : Type 0 where
  pub outcomes : List (List Outcome)
  pub answers : List Answer
  pub run : Run volume W commands outcomes answers after
  pub put : tells → new ≡ old ++ texts_of answers

-- The world that the commands led to is the one after them. Or, where all their answers were put and this may be, the
-- next command was cut short for want of memory, and what it has done led further.
pub data IsCut (may : Type 0) (volume : Volume) (W : ModelWorld) :
    List Answer → List Command → List Outcome → ModelWorld → Type 0 where
  Uncut : {last : List Answer} {commands : List Command} → IsCut may volume W last commands [] W
  CutIn : {command : Command} {commands : List Command} {left : Effect ModelWorld} → may
      → DoesPart volume command W left
      → IsCut may volume W [] (command ∷ commands) left.outcomes left.after

-- From the world W on some first commands have these answers: the last of them, at most, wasn't put whole. They lead to
-- the world after them, or, where this may be, the next command was cut short. Over a sink that tells, the texts of the
-- others were put, a front of its own, and nothing else.
pub record ServesFront (tells may : Type 0) (volume : Volume) (W : ModelWorld) (commands : List Command)
    (after : ModelWorld) (old new : List ℕ) : Type 0 where
  pub count : ℕ
  pub within : count ≤ length commands
  pub outcomes : List (List Outcome)
  pub whole : List Answer
  pub last : List Answer
  pub at_most_one : length last ≤ 1
  pub middle : ModelWorld
  pub run : Run volume W (take count commands) outcomes (whole ++ last) middle
  pub more_outcomes : List Outcome
  pub cut : IsCut may volume middle last (drop count commands) more_outcomes after
  pub put : tells → PutsFront (old ++ texts_of whole) (texts_of last) new

-- From the world W on these are the answers to some first commands, one each, and lead to the world after them, or the
-- next command was cut short. The texts of all of them but the last were put, then maybe more, and with what is missing
-- it is the texts of all.
pub record PutsAllButLast (may : Type 0) (volume : Volume) (W : ModelWorld) (commands : List Command)
    (after : ModelWorld) (old new : List ℕ) : Type 0 where
  pub outcomes : List (List Outcome)
  pub answers : List Answer
  pub within : length answers ≤ length commands
  pub middle : ModelWorld
  pub run : Run volume W (take (length answers) commands) outcomes answers middle
  pub more_outcomes : List Outcome
  pub cut : IsCut may volume middle [] (drop (length answers) commands) more_outcomes after
  pub more : List ℕ
  pub put : new ≡ old ++ texts_of (take (length answers - 1) answers) ++ more
  pub missing : List ℕ
  pub goes_on : new ++ missing ≡ old ++ texts_of answers

-- The commands were served, and the world stands for what they led to; as many events are stored as happened. The link
-- counted each of its failures, and so did the disks; their fuses allowed what became of all that was asked of them.
pub record ServesWorld {K D : Type 0} (tells : Type 0) (keep : Keep K) (disk : Disk D) (volume : Volume)
    (W : ModelWorld) (before : Whole) (commands : List Command) (world : Whole) (old new : List ℕ)
    (old_disks new_disks : List (Pair D)) : Type 0 where
  pub after : ModelWorld
  pub serves : Serves tells volume W commands after old new
  pub caused : AreCaused before.post.faults world.post.faults (link_failures (all_outcomes serves.outcomes))
  pub stored : StoresAsMany W before after world
  pub stands : WorldStandsFor volume after world
  pub disks : DisksFollow disk.faults disk.armings (all_outcomes serves.outcomes) old_disks new_disks
  pub fuses : FusesFollow keep disk (all_outcomes serves.outcomes) before.members world.members old_disks new_disks
  pub runs : disk.tells → RunOn keep.kept disk volume W commands serves.outcomes serves.answers after old_disks
      new_disks

-- some first commands were served, and the world stands for what they led to; the same of the link and of the disks
pub record ServesWorldFront {K D : Type 0} (tells may : Type 0) (keep : Keep K) (disk : Disk D) (volume : Volume)
    (W : ModelWorld) (before : Whole) (commands : List Command) (world : Whole) (old new : List ℕ)
    (old_disks new_disks : List (Pair D)) : Type 0 where
  pub after : ModelWorld
  pub serves : ServesFront tells may volume W commands after old new
  pub caused : AreCaused before.post.faults world.post.faults
      (link_failures (all_outcomes serves.outcomes ++ serves.more_outcomes))
  pub stands : WorldStandsFor volume after world
  pub disks : DisksFollow disk.faults disk.armings (all_outcomes serves.outcomes ++ serves.more_outcomes) old_disks
      new_disks
  pub fuses : FusesPermit keep disk (all_outcomes serves.outcomes ++ serves.more_outcomes) before.members old_disks
  pub runs : disk.tells → FrontOn keep.kept disk volume W (take serves.count commands)
      (drop serves.count commands) serves.outcomes
      (serves.whole ++ serves.last) serves.middle after old_disks new_disks
