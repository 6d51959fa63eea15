-- What a save does to the fuses of a pair, and what is found where they let it fail.
use Rattle.std.specs.Prelude.{◌≡◌, ℕ, ◌-◌, ◌&&◌, nat_le, Bool, true, false, if◌then◌else◌, List, Option}
use Rattle.ficus_disk.specs.Fuse.{pick_of}
use Rattle.ficus_disk.specs.declared.fuse.Fuse.{Fuse}
use Rattle.ficus_disk.specs.declared.fuse.Fuse.TheVariants.{Unarmed, Armed, Blown}
use Rattle.ficus_disk.specs.declared.fuse.Pick.{Pick}
use Rattle.ficus_disk.specs.declared.fuse.Pick.TheVariants.{Synced, Written, Ones, Halves}
use Rattle.ficus_disk.specs.declared.pair.Pair.{Pair}
use Rattle.ficus_keeper.specs.Kept.{Kept, found_in}

-- whether so many calls of `write` and `sync` pass
abbrev pub lasts : ℕ → Fuse → Bool
lasts calls Unarmed = true
lasts calls (Armed left _) = nat_le calls left
lasts calls (Blown _) = nat_le calls 0

-- after so many calls that passed
abbrev pub after_calls : ℕ → Fuse → Fuse
after_calls calls Unarmed = Unarmed
after_calls calls (Armed left pick) = Armed (left - calls) pick
after_calls calls (Blown pick) = Blown pick

-- whether a disk opened with this pick has what was written last, but not synced
abbrev pub is_found : Pick → Bool
is_found Synced = false
is_found Written = true
is_found Ones = true
is_found Halves = false

-- whether a save that takes so many calls, and failed, is found once the disks are opened again: all but the last two
-- calls passed, and the pick finds what they wrote
abbrev pub finds : ℕ → Fuse → Bool
finds calls fuse = lasts (calls - 2) fuse && is_found (pick_of fuse)

-- the fuses of both disks
pub record Fuses : Type 0 where
  pub a : Fuse
  pub b : Fuse

abbrev pub fuses_of : {D : Type 0} → (D → Fuse) → Pair D → Fuses
fuses_of fuse pair = record { a = fuse pair.a; b = fuse pair.b }

abbrev pub both_unarmed : Fuses
both_unarmed = record { a = Unarmed; b = Unarmed }

-- that of `a`, or that of `b`
abbrev pub on_side : Bool → Fuses → Fuse
on_side true fuses = fuses.a
on_side false fuses = fuses.b

-- so many calls passed on one of the disks
abbrev pub after_save : Bool → ℕ → Fuses → Fuses
after_save true calls fuses = record fuses { a = after_calls calls fuses.a }
after_save false calls fuses = record fuses { b = after_calls calls fuses.b }

-- what is kept once both disks are opened again
abbrev pub found_again : {D : Type 0} → (List ℕ → List ℕ → Option Kept) → (D → Pick → List ℕ) → (D → Fuse) → Pair D
    → Option Kept
found_again kept image fuse pair = kept (image pair.a (pick_of (fuse pair.a))) (image pair.b (pick_of (fuse pair.b)))

-- what the disks hold is of a volume that this keeper alone wrote
abbrev pub IsRegularIn : {D : Type 0} → (List ℕ → List ℕ → Type 0) → (D → List ℕ) → Pair D → Type 0
IsRegularIn Regular seen pair = Regular (seen pair.a) (seen pair.b)

-- and so is whatever a crash leaves of them
pub record StaysRegular {D : Type 0} (Regular : List ℕ → List ℕ → Type 0) (may_leave : D → List ℕ → Type 0)
    (pair : Pair D) : Type 0 where
  pub each : (a b : List ℕ) → may_leave pair.a a → may_leave pair.b b → Regular a b

-- the fuses alone decide what a save comes to: it takes so many calls on one of the disks
pub record FusedSave {D : Type 0} (kept : List ℕ → List ℕ → Option Kept) (seen : D → List ℕ)
    (image : D → Pick → List ℕ) (fuse : D → Fuse) (calls : ℕ) (on_a : Bool) (old new : Pair D) (is_saved : Bool)
    (after : Option Kept) : Type 0 where
  pub saved : is_saved ≡ lasts calls (on_side on_a (fuses_of fuse old))
  pub falls : is_saved ≡ true → fuses_of fuse new ≡ after_save on_a calls (fuses_of fuse old)
  pub found : is_saved ≡ false → found_again kept image fuse new
      ≡ (if finds calls (on_side on_a (fuses_of fuse old)) then after else found_in kept seen old)

-- the fuses stay, and what each pick leaves
pub record SameFuses {D : Type 0} (image : D → Pick → List ℕ) (fuse : D → Fuse) (old new : Pair D) : Type 0 where
  pub fuses : fuses_of fuse new ≡ fuses_of fuse old
  pub image_a : (pick : Pick) → image new.a pick ≡ image old.a pick
  pub image_b : (pick : Pick) → image new.b pick ≡ image old.b pick

-- both disks were opened again
pub record Reopens {D : Type 0} (seen : D → List ℕ) (image : D → Pick → List ℕ) (fuse : D → Fuse) (old new : Pair D)
    : Type 0 where
  pub a : seen new.a ≡ image old.a (pick_of (fuse old.a))
  pub b : seen new.b ≡ image old.b (pick_of (fuse old.b))
  pub fuses : fuses_of fuse new ≡ both_unarmed
