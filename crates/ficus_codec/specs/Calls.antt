-- What calls on tables promise, by name.
use Rattle.std.specs.Prelude.{◌≡◌, ◌++◌, ℕ, List, Result, OnErr, OnOk}
use Rattle.ficus_entry.specs.declared.entry.Entry.{Entry}
use Rattle.ficus_file.specs.declared.file.FileReplica.{FileReplica}
use Rattle.ficus_formats.specs.Format.{Keeps}
use Rattle.ficus_codec.specs.Formats.{tables_bytes}

-- the one spelling of the tables is appended; after an error part of it may stand there
pub record PutsTables {A E : Type 0} (members : ℕ) (entries : List Entry) (files : List FileReplica)
    (old new : List ℕ) (result : Result A E) : Type 0 where
  pub put : OnOk result (new ≡ old ++ tables_bytes members entries files)
  pub kept : OnErr result (Keeps old new)
