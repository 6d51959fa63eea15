-- Volumes in memory to which nothing has happened, and what lines come to over them.
use Rattle.std.specs.Prelude.{◌≡◌, ◌≤◌, ℕ, true, List, [], ◌++◌, length, replicate, take, Vec, vec_items}
use Rattle.std.specs.declared.alloc.Global.{Global}
use Rattle.ficus_disk.specs.contracts.mem_disk.MemDiskDisk
use Rattle.ficus_disk.specs.declared.mem_disk.MemDisk.{MemDisk}
use Rattle.ficus_disk.specs.declared.pair.Pair.{Pair}
use Rattle.ficus_ids.specs.Members.{IsMember}
use Rattle.ficus_model.specs.Lawful.{Volume}
use Rattle.ficus_script.specs.declared.answer.Answer.{Answer}
use Rattle.ficus_script.specs.declared.volume_line.VolumeLine.{VolumeLine}
use Rattle.ficus_runs.specs.Outcomes.{all_outcomes}
use Rattle.ficus_runs.specs.Fuses.{FuseState, FusesAllowAll}
use Rattle.ficus_runs.specs.ModelWorld.{ModelWorld}
use Rattle.ficus_runs.specs.Numbered.{IsNumbered}
use Rattle.ficus_runs.specs.Outcome.{Outcome, link_failures}
use Rattle.ficus_runs.specs.Run.{Run}
use Rattle.ficus_runs.specs.Start.{start}
use Rattle.ficus_loop.specs.Puts.{PutsFront}
use Rattle.ficus_loop.specs.Serving.{texts_of}
use Rattle.ficus_top.specs.Summary.Keeper.{Keeper, keeper, keeping}
use Rattle.ficus_world.specs.Fuses.{FusesStand, at_rest}
use Rattle.ficus_world.specs.World.{Backed, WorldStandsFor}
use Rattle.ficus_top.specs.Graft.Answered.{AreAnswered, Sent, answers_to, commands_to}
use Rattle.ficus_top.specs.Graft.Runs.{AreHeld, Disks}

-- how a volume begins: nothing has happened, all disks have a fuse, and the link has room for 256 MiB
abbrev pub begun : ℕ → ModelWorld
begun members = start [] members 805306368 (replicate members true)

-- the world stands for this, over a link that hasn't failed and fuses of which none is armed
pub record IsFresh (volume : Volume) (world : Backed Keeper) (pairs : List (Pair MemDisk)) : Type 0 where
  pub stands : WorldStandsFor volume (begun volume.members) world.whole
  pub few : length world.whole.events ≤ 8
  pub unfailed : world.whole.post.faults ≡ 0
  pub fuses : (F : ℕ → FuseState) → ((r : ℕ) → F r ≡ at_rest 0)
      → FusesStand keeper MemDiskDisk.TheImpl.ghosts F world.whole.members pairs

-- each of the volumes does
pub record AreFresh (volume : Volume) (worlds : List (Backed Keeper)) (disks : Disks MemDisk) : Type 0 where
  pub held : AreHeld keeper MemDiskDisk.TheImpl.ghosts worlds disks
  pub each : (v : ℕ) (world : Backed Keeper) (pairs : Vec (Pair MemDisk) Global) → IsNumbered worlds v world
      → IsNumbered disks v pairs → IsFresh volume world (vec_items pairs)

-- the link of no volume has failed
abbrev pub AreUnfailed : List (Backed Keeper) → Type 0
AreUnfailed worlds = (v : ℕ) (world : Backed Keeper) → IsNumbered worlds v world → world.whole.post.faults ≡ 0

-- A volume has run, alone, what was sent to it. The link never failed, and the fuses, of which none was armed at first,
-- allow what became of all that was asked of the disks.
pub record RunsFresh (volume : Volume) (v : ℕ) (sent : List Sent) : Type 0 where
  pub outcomes : List (List Outcome)
  pub after : ModelWorld
  pub run : Run volume (begun volume.members) (commands_to v sent) outcomes (answers_to v sent) after
  pub linked : link_failures (all_outcomes outcomes) ≡ 0
  pub fuses : FusesAllowAll keeping (λ r. at_rest 0) (all_outcomes outcomes)

-- The lines were answered over so many fresh volumes of this size, each of which has run, alone, what was sent to it.
-- Over a sink that tells, the texts of the answers were put, in order, and nothing else.
pub record AnswersFresh (tells : Type 0) (volume : Volume) (count : ℕ) (lines : List VolumeLine) (was now : List ℕ) :
    Type 0 where
  pub sent : List Sent
  pub answers : List Answer
  pub answered : AreAnswered count lines sent answers
  pub each : (v : ℕ) → IsMember count v → RunsFresh volume v sent
  pub put : tells → now ≡ was ++ texts_of answers

-- Some first lines were answered so, and the last of their answers, at most, wasn't put whole. Over a sink that tells,
-- the texts of the others were put, a front of its own, and nothing else. The volumes are gone then, and with them what
-- a line may have done that was cut short.
pub record AnswersFreshFront (tells : Type 0) (volume : Volume) (count : ℕ) (lines : List VolumeLine)
    (was now : List ℕ) : Type 0 where
  pub some : ℕ
  pub within : some ≤ length lines
  pub sent : List Sent
  pub whole : List Answer
  pub last : List Answer
  pub at_most_one : length last ≤ 1
  pub answered : AreAnswered count (take some lines) sent (whole ++ last)
  pub each : (v : ℕ) → IsMember count v → RunsFresh volume v sent
  pub put : tells → PutsFront (was ++ texts_of whole) (texts_of last) now
