-- What is put of commands that are carried out, by what the members of a world hold.
use Rattle.std.specs.Prelude.{◌≡◌, ℕ, ◌≤◌, List, [], ◌∷◌, ◌++◌, length}
use Rattle.ficus_disk.specs.declared.disk.Disk.{Ghosts as Disk}
use Rattle.ficus_disk.specs.declared.pair.Pair.{Pair}
use Rattle.ficus_keeper.specs.declared.keep.Keep.{Ghosts as Keep}
use Rattle.ficus_script.specs.declared.answer.Answer.{Answer}
use Rattle.ficus_script.specs.declared.command.Command.{Command}
use Rattle.ficus_loop.specs.Performing.{PerformsAll, PerformsPart}
use Rattle.ficus_loop.specs.Puts.{PutsFront}
use Rattle.ficus_loop.specs.Serving.{texts_of}
use Rattle.ficus_world.specs.World.{Whole}

-- The commands were carried out. Over a sink that tells, the texts of their answers were put, in order, and nothing
-- else.
pub record PutsPerformed {K D : Type 0} (tells link : Type 0) (keep : Keep K) (disk : Disk D) (old : Whole)
    (commands : List Command) (new : Whole) (was now : List ℕ) (old_disks new_disks : List (Pair D)) : Type 0 where
  pub answers : List Answer
  pub performed : PerformsAll link keep disk old commands answers new old_disks new_disks
  pub put : tells → now ≡ was ++ texts_of answers

-- Nothing more was done of what is left; or, where all answers were put and this may be, the next one was cut short.
pub data IsLeftOf {K D : Type 0} (may link : Type 0) (keep : Keep K) (disk : Disk D) :
    List Answer → List Command → Whole → Whole → List (Pair D) → List (Pair D) → Type 0 where
  Unbegun : {last : List Answer} {rest : List Command} {world : Whole} {disks : List (Pair D)}
      → IsLeftOf may link keep disk last rest world world disks disks
  InPart : {command : Command} {rest : List Command} {old new : Whole} {x y : List (Pair D)} → may
      → PerformsPart link keep disk old command new x y
      → IsLeftOf may link keep disk [] (command ∷ rest) old new x y

-- Some first commands were carried out: the last of their answers, at most, wasn't put whole. Where this may be, the
-- next one was cut short. Over a sink that tells, the texts of the others were put, a front of its own, and nothing
-- else.
pub record PutsPerformedFront {K D : Type 0} (tells may link : Type 0) (keep : Keep K) (disk : Disk D) (old : Whole)
    (commands : List Command) (new : Whole) (was now : List ℕ) (old_disks new_disks : List (Pair D)) : Type 0 where
  pub first : List Command
  pub rest : List Command
  pub is : commands ≡ first ++ rest
  pub whole : List Answer
  pub last : List Answer
  pub at_most_one : length last ≤ 1
  pub middle : Whole
  pub mid_disks : List (Pair D)
  pub performed : PerformsAll link keep disk old first (whole ++ last) middle old_disks mid_disks
  pub left : IsLeftOf may link keep disk last rest middle new mid_disks new_disks
  pub put : tells → PutsFront (was ++ texts_of whole) (texts_of last) now
