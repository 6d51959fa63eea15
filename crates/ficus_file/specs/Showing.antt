-- What is shown of files.
use Rattle.std.specs.Prelude.{◌≡◌}
use Rattle.ficus_file.specs.declared.file.FileReplica.{FileReplica}

-- both are of one kind and have the same versions
pub record ShowsSame (file other : FileReplica) : Type 0 where
  pub kind : file.kind ≡ other.kind
  pub versions : file.versions ≡ other.versions
