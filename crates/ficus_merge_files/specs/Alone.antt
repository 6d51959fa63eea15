-- Which files of a peer are taken.
use Rattle.std.specs.Prelude.{List, Contains}
use Rattle.ficus_ids.specs.declared.id.Id.{Id}
use Rattle.ficus_entry.specs.declared.entry.Entry.{Entry}
use Rattle.ficus_file.specs.Files.{Holds}
use Rattle.ficus_file.specs.declared.file.FileReplica.{FileReplica}
use Rattle.ficus_mentions.specs.Touched.{touched_by}

-- a file of theirs alone
pub record IsAlone (mine theirs : List FileReplica) (id : Id) : Type 0 where
  pub held : Holds theirs id
  pub not_held : Holds mine id → ⊥

-- one that an entry names or lies in
pub record IsTakenFrom (entries : List Entry) (mine theirs : List FileReplica) (id : Id) : Type 0 where
  pub alone : IsAlone mine theirs id
  pub touched : Contains (touched_by entries) id
