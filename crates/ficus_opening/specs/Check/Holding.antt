-- How much a replica holds.
use Rattle.std.specs.Prelude.{not, List, length, count_by}
use Rattle.ficus_entry.specs.Kill.{is_live}
use Rattle.ficus_entry.specs.declared.entry.Entry.{Entry}
use Rattle.ficus_file.specs.declared.file.FileReplica.{FileReplica}
use Rattle.ficus_opening.specs.declared.check.holding.Holding.{Holding}

-- how much these are: entries that are live, entries that are removed, and files and directories
abbrev pub holding_of : List Entry → List FileReplica → Holding
holding_of entries files = record {
  live = count_by is_live entries;
  dead = count_by (λ entry. not (is_live entry)) entries;
  objects = length files;
}
