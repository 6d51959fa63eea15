-- The entries of a taker and of a peer, side by side.
use Rattle.std.specs.Prelude.{◌≡◌, ℕ, []}
use Rattle.ficus_table.specs.SideBySide.{AreRising, Sides}
use Rattle.ficus_entry.specs.declared.entry.Entry.{Entry}
use Rattle.ficus_merge_entries.specs.Runs.{id_of}

-- the entries of both with those that a walk has passed, and how many calls of the walk were made
pub record Walking : Type 0 where
  pub sides : Sides Entry
  pub calls : ℕ

-- the identifiers of both rise, and no entry was passed
pub record IsAtStart (sides : Sides Entry) : Type 0 where
  pub rising : AreRising id_of sides
  pub mine : sides.mine_passed ≡ []
  pub theirs : sides.theirs_passed ≡ []
