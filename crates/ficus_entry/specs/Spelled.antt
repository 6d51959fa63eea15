-- How an entry is spelled: in the same bytes in each volume, whichever entries may stand in its tables.
use Rattle.std.specs.Prelude.{ℕ, List, [], ◌∷◌, ◌++◌}
use Rattle.ficus_formats.specs.Format.{byte, string, id}
use Rattle.ficus_entry.specs.declared.entry.Entry.{Entry}
use Rattle.ficus_entry.specs.declared.entry.State.{State}
use Rattle.ficus_entry.specs.declared.entry.State.TheVariants.{Live, Dead}

-- 0 for an entry that isn't removed; 1 and the two sets for one that is
abbrev pub state_bytes : State → List ℕ
state_bytes Live = 0 ∷ []
state_bytes (Dead one two) = 1 ∷ one ∷ two ∷ []

-- the fields in the order in which they stand in an entry, the name behind its length in one byte
abbrev pub entry_bytes : Entry → List ℕ
entry_bytes e =
    id.spell e.id ++ (id.spell e.dir ++ ((string byte).spell e.name ++ (id.spell e.target ++ state_bytes e.state)))
