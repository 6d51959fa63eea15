-- What the disks of a machine are found to hold after a kill.
use Rattle.std.specs.Prelude.{ℕ, ◌⊎◌, List}
use Rattle.ficus_disk.specs.declared.disk.Disk.{Ghosts as Disk}
use Rattle.ficus_disk.specs.declared.pair.Pair.{Pair}
use Rattle.ficus_durable_state.specs.declared.saved.Saved.{Saved}
use Rattle.ficus_keeper.specs.declared.keep.Keep.{Ghosts as Keep}
use Rattle.ficus_stable_storage.specs.Leads.Holds.{Holds}
use Rattle.ficus_runs.specs.Numbered.{IsNumbered}
use Rattle.ficus_opening.specs.declared.member.Member.{Member}
use Rattle.ficus_world.specs.Kills.{IsSettled, WritesAt}
use Rattle.ficus_world.specs.World.{Whole}
use Rattle.ficus_world.specs.Machines.Killed.{MayBeFound}

-- of a member that saves nothing: what it has saved, or what is pending
abbrev pub IdleIsFound : {K D : Type 0} → Keep K → Disk D → Type 0
IdleIsFound {K} {D} keep disk =
    (machine : Whole) (disks : List (Pair D)) (r : ℕ) (member : Member) (pair : Pair D) (a b : List ℕ) (found : Saved)
    → IsSettled keep disk machine disks → IsNumbered machine.members r member → IsNumbered disks r pair
    → disk.may_leave pair.a a → disk.may_leave pair.b b → Holds (keep.kept a b) found → MayBeFound member found

-- of one that saves: what it had, or what it then has, or what is then pending
abbrev pub SavingIsFound : {K D : Type 0} → Keep K → Disk D → Type 0
SavingIsFound {K} {D} keep disk =
    (machine after : Whole) (old new : List (Pair D)) (r : ℕ) (was now : Member) (pair now_pair : Pair D)
    (a b : List ℕ) (found : Saved) → WritesAt keep disk r machine after old new → IsNumbered machine.members r was
    → IsNumbered after.members r now → IsNumbered old r pair → IsNumbered new r now_pair
    → disk.left_since now_pair.a (disk.moment pair.a) a → disk.left_since now_pair.b (disk.moment pair.b) b
    → Holds (keep.kept a b) found → MayBeFound was found ⊎ MayBeFound now found
