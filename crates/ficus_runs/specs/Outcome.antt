-- What becomes of what a command asks of the outside.
use Rattle.std.specs.Prelude.{◌≡◌, ℕ, Bool, true, false, ◌==◌, List, [], ◌∷◌, count_by}

-- What became of one thing that was asked of the outside. Of the link: a message was posted or fetched, or the link
-- failed. Of the disks of a member: its state was saved, or they failed in this; they were opened again, and hold what
-- the member had, or they are found to hold what it had with the event that was pending, or they failed in this; or
-- they were armed to stop after so many calls, with a pick.
pub data Outcome : Type 0 where
  IsDone : Outcome
  LinkFails : Outcome
  IsSaved : ℕ → Outcome
  SaveFails : ℕ → Outcome
  IsOpened : ℕ → Outcome
  IsFound : ℕ → Outcome
  OpeningFails : ℕ → Outcome
  IsArmed : ℕ → ℕ → ℕ → Outcome

-- it was done, and no pending event was found
abbrev pub is_done : Outcome → Bool
is_done IsDone = true
is_done LinkFails = false
is_done (IsSaved by) = true
is_done (SaveFails by) = false
is_done (IsOpened by) = true
is_done (IsFound by) = false
is_done (OpeningFails by) = false
is_done (IsArmed by calls pick) = true

-- all that was asked of the outside was done, and no pending event was found
abbrev pub AllDone : List Outcome → Type 0
AllDone [] = Unit {0}
AllDone (outcome ∷ outcomes) = (is_done outcome ≡ true) × AllDone outcomes

abbrev pub is_link_failure : Outcome → Bool
is_link_failure IsDone = false
is_link_failure LinkFails = true
is_link_failure (IsSaved by) = false
is_link_failure (SaveFails by) = false
is_link_failure (IsOpened by) = false
is_link_failure (IsFound by) = false
is_link_failure (OpeningFails by) = false
is_link_failure (IsArmed by calls pick) = false

-- how often the link failed
abbrev pub link_failures : List Outcome → ℕ
link_failures outcomes = count_by is_link_failure outcomes

abbrev pub is_store_failure : ℕ → Outcome → Bool
is_store_failure r IsDone = false
is_store_failure r LinkFails = false
is_store_failure r (IsSaved by) = false
is_store_failure r (SaveFails by) = by == r
is_store_failure r (IsOpened by) = false
is_store_failure r (IsFound by) = false
is_store_failure r (OpeningFails by) = by == r
is_store_failure r (IsArmed by calls pick) = false

-- how often the disks of this member failed
abbrev pub store_failures : ℕ → List Outcome → ℕ
store_failures r outcomes = count_by (is_store_failure r) outcomes

abbrev pub is_arming : ℕ → Outcome → Bool
is_arming r IsDone = false
is_arming r LinkFails = false
is_arming r (IsSaved by) = false
is_arming r (SaveFails by) = false
is_arming r (IsOpened by) = false
is_arming r (IsFound by) = false
is_arming r (OpeningFails by) = false
is_arming r (IsArmed by calls pick) = by == r

-- how often the disks of this member were armed
abbrev pub armings_in : ℕ → List Outcome → ℕ
armings_in r outcomes = count_by (is_arming r) outcomes
