-- What a pair of disks holds of what a replica saves, or nothing.
use Rattle.std.specs.Prelude.{◌≡◌, ◌⊎◌, ℕ, List, Option, Some, None}
use Rattle.ficus_disk.specs.declared.pair.Pair.{Pair}
use Rattle.ficus_keeper.specs.Kept.{Kept}
use Rattle.ficus_stable_storage.specs.Leads.Holds.{Holds}
use Rattle.ficus_durable_state.specs.declared.saved.Saved.{Saved}

-- this, or nothing is kept
abbrev pub HoldsAtMost : Option Kept → Option Saved → Type 0
HoldsAtMost found None = found ≡ None
HoldsAtMost found (Some saved) = Holds found saved

-- whatever a crash leaves of the pair holds one of these two
pub record HoldsOneOf {D : Type 0} (kept : List ℕ → List ℕ → Option Kept) (may_leave : D → List ℕ → Type 0)
    (pair : Pair D) (before after : Option Saved) : Type 0 where
  pub each : (a b : List ℕ) → may_leave pair.a a → may_leave pair.b b
      → HoldsAtMost (kept a b) before ⊎ HoldsAtMost (kept a b) after

-- whatever a crash at a moment between these two states might have left holds one of these two
pub record HoldsOneBetween {D : Type 0} (kept : List ℕ → List ℕ → Option Kept) (moment : D → ℕ)
    (left_since : D → ℕ → List ℕ → Type 0) (old new : Pair D) (before after : Option Saved) : Type 0 where
  pub each : (a b : List ℕ) → left_since new.a (moment old.a) a → left_since new.b (moment old.b) b
      → HoldsAtMost (kept a b) before ⊎ HoldsAtMost (kept a b) after
