-- Which entries of tables are told of.
use Rattle.std.specs.Prelude.{Bool, not}
use Rattle.ficus_entry.specs.Kill.{is_live}
use Rattle.ficus_entry.specs.declared.entry.Entry.{Entry}

-- whether the entry is removed
abbrev pub is_removed : Entry → Bool
is_removed entry = not (is_live entry)
