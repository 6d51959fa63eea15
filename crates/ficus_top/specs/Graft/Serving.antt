-- Lines that are answered one after the other.
use Rattle.std.specs.Prelude.{◌≡◌, ◌⊎◌, ℕ, List, ◌++◌, All}
use Rattle.ficus_disk.specs.declared.disk.Disk.{Ghosts as Disk}
use Rattle.ficus_keeper.specs.declared.keep.Keep.{Ghosts as Keep}
use Rattle.ficus_script.specs.Answer.{answer_text_of}
use Rattle.ficus_script.specs.declared.answer.Answer.{Answer}
use Rattle.ficus_loop.specs.Puts.{PutsFront}
use Rattle.ficus_world.specs.Follows.{TellsFor}
use Rattle.ficus_world.specs.World.{Backed}
use Rattle.ficus_script.specs.declared.volume_line.VolumeLine.{VolumeLine}
use Rattle.ficus_top.specs.Graft.Runs.{AnswersLine, Disks, StopsLine}

-- the links tell their posts, and the disks what they hold, where a line restarts a replica
pub record Told (link disk : Type 0) (lines : List VolumeLine) : Type 0 where
  pub posts : link
  pub held : All (λ line. TellsFor disk line.command) lines

-- a line was answered, and its answer's text was put
pub record PutsLine {K D : Type 0} (tells link told : Type 0) (keep : Keep K) (disk : Disk D) (line : VolumeLine)
    (old new : List (Backed K)) (old_disks new_disks : Disks D) (was now : List ℕ) : Type 0 where
  pub answer : Answer
  pub answers : AnswersLine link told keep disk line answer old new old_disks new_disks
  pub put : tells → now ≡ was ++ answer_text_of answer

-- a line was answered, and a front of its answer's text was put
pub record IsPutInPart {K D : Type 0} (tells link told : Type 0) (keep : Keep K) (disk : Disk D) (line : VolumeLine)
    (old new : List (Backed K)) (old_disks new_disks : Disks D) (was now : List ℕ) : Type 0 where
  pub answer : Answer
  pub answers : AnswersLine link told keep disk line answer old new old_disks new_disks
  pub put : tells → PutsFront was (answer_text_of answer) now

-- or it wasn't answered, for want of memory, and nothing was put
abbrev pub PutsLineFront : {K D : Type 0} → Type 0 → Type 0 → Type 0 → Keep K → Disk D → VolumeLine → List (Backed K)
    → List (Backed K) → Disks D → Disks D → List ℕ → List ℕ → Type 0
PutsLineFront tells link told keep disk line old new old_disks new_disks was now =
    ((now ≡ was) × StopsLine link keep disk line old new old_disks new_disks)
    ⊎ IsPutInPart tells link told keep disk line old new old_disks new_disks was now
