-- What the fuses of a pair make of a save.
use Rattle.std.specs.Prelude.{◌≡◌, ℕ, Bool, true, false, if◌then◌else◌, List, Option}
use Rattle.ficus_disk.specs.declared.fuse.Fuse.{Fuse}
use Rattle.ficus_disk.specs.declared.fuse.Pick.{Pick}
use Rattle.ficus_disk.specs.declared.pair.Pair.{Pair}
use Rattle.ficus_keeper.specs.Fuses.{after_save, finds, found_again, fuses_of, lasts, on_side}
use Rattle.ficus_keeper.specs.Kept.{Kept}
use Rattle.ficus_durable_state.specs.declared.saved.Saved.{Saved}
use Rattle.ficus_stable_storage.specs.Leads.Holds.{Holds}

-- the fuses alone decide whether it is saved, by so many calls on one of the disks, and which of the two is found where
-- it isn't, once both disks are opened again
pub record DecidedByFuses {D : Type 0} (kept : List ℕ → List ℕ → Option Kept) (image : D → Pick → List ℕ)
    (fuse : D → Fuse) (calls : ℕ) (on_a : Bool) (old new : Pair D) (is_saved : Bool) (before after : Saved)
    : Type 0 where
  pub saved : is_saved ≡ lasts calls (on_side on_a (fuses_of fuse old))
  pub falls : is_saved ≡ true → fuses_of fuse new ≡ after_save on_a calls (fuses_of fuse old)
  pub found : is_saved ≡ false → Holds (found_again kept image fuse new)
      (if finds calls (on_side on_a (fuses_of fuse old)) then after else before)
