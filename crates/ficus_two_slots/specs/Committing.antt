-- What a commit of two slots takes, and what it leaves of the disks, whatever keeper wrote them before.
use Rattle.std.specs.Prelude.{◌≡◌, ◌⊎◌, ℕ, ◌+◌, List, Some}
use Rattle.ficus_disk.specs.declared.disk.Disk.{Ghosts as Disk}
use Rattle.ficus_disk.specs.declared.pair.Pair.{Pair}
use Rattle.ficus_keeper.specs.Kept.{Kept, found_in, generation_of}
use Rattle.ficus_two_slots.specs.Slots.{HasShutTail, kept_in}

-- this generation follows the kept one
abbrev pub IsNext : {D : Type 0} → Disk D → ℕ → Pair D → Type 0
IsNext disk generation pair = disk.tells → (before : Kept) → found_in kept_in disk.seen pair ≡ Some before
    → generation ≡ generation_of before + 1

-- whatever a crash leaves of a disk, it might have left before, or the tail is a closed gate
pub record LeavesOldOrShut {D : Type 0} (disk : Disk D) (old new : Pair D) : Type 0 where
  pub a : disk.tells → (c : List ℕ) → disk.may_leave new.a c → disk.may_leave old.a c ⊎ HasShutTail c
  pub b : disk.tells → (c : List ℕ) → disk.may_leave new.b c → disk.may_leave old.b c ⊎ HasShutTail c
