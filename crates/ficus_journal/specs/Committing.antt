-- What a commit of a journal takes and promises, an image or a record.
use Rattle.std.specs.Prelude.{◌≡◌, ℕ, ◌+◌, Bool, List, Result, Some, is_ok}
use Rattle.ficus_disk.specs.declared.disk.Disk.{Ghosts as Disk}
use Rattle.ficus_disk.specs.declared.pair.Pair.{Pair}
use Rattle.ficus_keeper.specs.Calls.{Commits}
use Rattle.ficus_keeper.specs.Fuses.{FusedSave, IsRegularIn, StaysRegular}
use Rattle.ficus_keeper.specs.Kept.{Kept, after_commit, found_in, generation_of}
use Rattle.ficus_journal.specs.Journal.{Fits}
use Rattle.ficus_journal.specs.Logs.{HaveNoOpenGate, IsRegular, calls_of_journal, kept_in, lies_on_a}
use Rattle.ficus_journal.specs.declared.journal.Journal.{Journal}

-- this generation follows the kept one
abbrev pub IsNext : {D : Type 0} → Disk D → ℕ → Pair D → Type 0
IsNext disk generation pair = disk.tells → (before : Kept) → found_in kept_in disk.seen pair ≡ Some before
    → generation ≡ generation_of before + 1

-- it is kept in place of what was, or behind it
abbrev pub CommitsAs : {D A E : Type 0} → Disk D → Bool → ℕ → List ℕ → Journal → Pair D → Pair D → Result A E → Type 0
CommitsAs disk is_image generation bytes keeper old new result = disk.tells
    → Commits kept_in Fits IsRegular disk.seen disk.may_leave disk.moment disk.left_since
    (after_commit is_image generation bytes (found_in kept_in disk.seen old)) keeper old new result

-- and the fuses alone decide whether it is
abbrev pub FusedAs : {D A E : Type 0} → Disk D → Bool → ℕ → List ℕ → Pair D → Pair D → Result A E → Type 0
FusedAs disk is_image generation bytes old new result = disk.tells_fuse → disk.tells
    → IsRegularIn IsRegular disk.seen old
    → FusedSave kept_in disk.seen disk.image disk.fuse (calls_of_journal generation) (lies_on_a generation) old new
    (is_ok result) (after_commit is_image generation bytes (found_in kept_in disk.seen old))

-- whatever a crash leaves has no open gate behind the last record, where that was so before
abbrev pub LeavesShut : {D : Type 0} → Disk D → Pair D → Pair D → Type 0
LeavesShut disk old new = disk.tells → StaysRegular HaveNoOpenGate disk.may_leave old
    → StaysRegular HaveNoOpenGate disk.may_leave new
