-- What two replicas hold alike.
use Rattle.std.specs.Prelude.{◌≡◌, List, Contains}
use Rattle.ficus_ids.specs.declared.id.Id.{Id}
use Rattle.ficus_file.specs.Showing.{ShowsSame}
use Rattle.ficus_file.specs.declared.file.FileReplica.{FileReplica}

-- both lists have a file with the identifier, of one kind and with the same versions
pub record ShowSameAt (files others : List FileReplica) (id : Id) : Type 0 where
  pub file : FileReplica
  pub other : FileReplica
  pub inside : Contains files file
  pub inside_too : Contains others other
  pub has_id : file.id ≡ id
  pub has_id_too : other.id ≡ id
  pub same : ShowsSame file other
