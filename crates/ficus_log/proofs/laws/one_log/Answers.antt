use Rattle.std.proofs.Common.{refl}
use Rattle.ficus_log.specs.Log.{log_of}
use Rattle.ficus_log.proofs.Logs.{has_log, one_log, read_exactly}
use Rattle.ficus_log.proofs.Walks.{written_begins}
use Rattle.ficus_log.proofs.laws.one_log.Goals as goal

pub returns : goal.returns
returns c = record {
  some = λ last bytes. (log_of last bytes, has_log last bytes);
  one = one_log;
  read = read_exactly;
  written = λ last body more. written_begins last _ body more refl;
}
