-- What the disks of members hold.
use Rattle.std.specs.Prelude.{◌≡◌, ℕ, Bool, ◌&&◌, List, Option, Some, None, is_some}
use Rattle.ficus_disk.specs.declared.disk.Disk.{Ghosts as Disk}
use Rattle.ficus_disk.specs.declared.pair.Pair.{Pair}
use Rattle.ficus_keeper.specs.declared.keep.Keep.{Ghosts as Keep}
use Rattle.ficus_durable_state.specs.declared.saved.Saved.{Saved}
use Rattle.ficus_stable_storage.specs.Holds.{HoldsOneOf}
use Rattle.ficus_stable_storage.specs.Stable.{IsReady}
use Rattle.ficus_stable_storage.specs.declared.stable.Stable.{Stable}
use Rattle.ficus_runs.specs.Numbered.{IsNumbered}
use Rattle.ficus_opening.specs.declared.member.Member.{Member}
use Rattle.ficus_opening.specs.declared.member.MemberState.{MemberState}
use Rattle.ficus_opening.specs.declared.member.MemberState.TheVariants.{Up, Down}

-- both disks of a pair have a fuse
abbrev pub are_fused : {D : Type 0} → (D → Option ℕ) → Pair D → Bool
are_fused armings pair = is_some (armings pair.a) && is_some (armings pair.b)

-- What the disks of a member hold: what it has saved, where it is up, and its keeper is ready to save what follows.
-- Where it is down, whatever a crash leaves of them holds that, or what it saves with the event that is pending.
abbrev pub HoldsFor : {K D : Type 0} → Keep K → Disk D → Stable K → Pair D → Saved → MemberState → Type 0
HoldsFor keep disk stable pair saved Up = IsReady keep.kept keep.fits disk.seen disk.may_leave stable pair saved
HoldsFor keep disk stable pair saved (Down None) =
    HoldsOneOf keep.kept disk.may_leave pair (Some saved) (Some saved)
HoldsFor keep disk stable pair saved (Down (Some pending)) =
    HoldsOneOf keep.kept disk.may_leave pair (Some saved) (Some pending.replica.saved)

-- the pair is this member's; what it holds is a claim where the disks tell it
pub record IsPairOf {K D : Type 0} (keep : Keep K) (disk : Disk D) (member : Member) (stable : Stable K)
    (pair : Pair D) : Type 0 where
  pub fused : member.fused ≡ are_fused disk.armings pair
  pub holds : disk.tells → HoldsFor keep disk stable pair member.replica.saved member.state

-- the pair of the member of this number is its own
abbrev pub IsPairAt : {K D : Type 0} → Keep K → Disk D → ℕ → List Member → List (Stable K) → List (Pair D) → Type 0
IsPairAt {K} {D} keep disk r members stables disks =
    (member : Member) (stable : Stable K) (pair : Pair D) → IsNumbered members r member → IsNumbered stables r stable
    → IsNumbered disks r pair → IsPairOf keep disk member stable pair

-- so is the pair of each
pub record AreDisksOf {K D : Type 0} (keep : Keep K) (disk : Disk D) (members : List Member) (stables : List (Stable K))
    (disks : List (Pair D)) : Type 0 where
  pub each : (r : ℕ) → IsPairAt keep disk r members stables disks

-- the pair of each member is its own, whichever keeper it has
pub record ArePairsOf {K D : Type 0} (keep : Keep K) (disk : Disk D) (members : List Member) (disks : List (Pair D)) :
    Type 0 where
  pub each : (r : ℕ) (member : Member) (pair : Pair D) → IsNumbered members r member → IsNumbered disks r pair
      → (stable : Stable K) × IsPairOf keep disk member stable pair
