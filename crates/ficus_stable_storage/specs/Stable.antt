-- How a keeper stands to its pair of disks, before a save and once it is prepared.
use Rattle.std.specs.Prelude.{◌≡◌, ℕ, ◌≤◌, Bool, true, false, List, length, Option}
use Rattle.ficus_disk.specs.declared.pair.Pair.{Pair}
use Rattle.ficus_keeper.specs.Framed.{IsFramed, body_in}
use Rattle.ficus_keeper.specs.Kept.{Kept, Settled, found_in}
use Rattle.ficus_durable_state.specs.declared.saved.Saved.{Saved}
use Rattle.ficus_image.specs.Image.{image_bytes}
use Rattle.ficus_stable_storage.specs.Leads.Holds.{Holds, Leads}
use Rattle.ficus_stable_storage.specs.declared.stable.Stable.{Stable}

-- the pair holds this, the keeper fits it, and nothing is unsynced
pub record IsReady {K D : Type 0} (kept : List ℕ → List ℕ → Option Kept) (fits : K → List ℕ → List ℕ → Type 0)
    (seen : D → List ℕ) (may_leave : D → List ℕ → Type 0) (stable : Stable K) (pair : Pair D) (saved : Saved)
    : Type 0 where
  pub holds : Holds (found_in kept seen pair) saved
  pub settled : Settled fits seen may_leave stable.keeper pair

-- the keeper is ready, and the record leads from what the pair holds to this
pub record MayFollow {K D : Type 0} (kept : List ℕ → List ℕ → Option Kept) (fits : K → List ℕ → List ℕ → Type 0)
    (seen : D → List ℕ) (may_leave : D → List ℕ → Type 0) (stable : Stable K) (pair : Pair D) (next : Saved)
    (body : List ℕ) : Type 0 where
  pub saved : Saved
  pub ready : IsReady kept fits seen may_leave stable pair saved
  pub leads : Leads body saved next

-- the image of this is framed where the keeper wants one, else the record that leads to it, and the keeper and both
-- disks take it
pub record IsPrepared {K D : Type 0} (wants_image : K → Bool) (Allows : K → ℕ → Type 0) (size_of : K → ℕ → ℕ)
    (disk_room : D → ℕ) (stable : Stable K) (pair : Pair D) (next : Saved) (body : List ℕ) : Type 0 where
  pub framed : IsFramed stable.framed
  pub image : wants_image stable.keeper ≡ true → body_in stable.framed.items ≡ image_bytes next
  pub noted : wants_image stable.keeper ≡ false → body_in stable.framed.items ≡ body
  pub takes : Allows stable.keeper (length (body_in stable.framed.items))
  pub room_a : size_of stable.keeper (length (body_in stable.framed.items)) ≤ disk_room pair.a
  pub room_b : size_of stable.keeper (length (body_in stable.framed.items)) ≤ disk_room pair.b
