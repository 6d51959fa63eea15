-- Two runs of entries side by side.
use Rattle.std.specs.Prelude.{Bool, if◌then◌else◌, Option, None}
use Rattle.ficus_ids.specs.declared.id.Id.{Id}
use Rattle.ficus_entry.specs.declared.entry.Entry.{Entry}

-- the entry, where this is true
abbrev pub kept_if : Bool → Option Entry → Option Entry
kept_if is_kept entry = if is_kept then entry else None

abbrev pub id_of : Entry → Id
id_of entry = entry.id
