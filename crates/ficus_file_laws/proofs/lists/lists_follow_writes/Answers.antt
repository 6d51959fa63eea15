use Rattle.ficus_file_laws.proofs.Counted.{written_counts, joined_counts}
use Rattle.ficus_file_laws.proofs.lists.lists_follow_writes.Goals as goal

pub returns-clause-written : goal.returns-clause-written
returns-clause-written c = λ by bytes versions from to. written_counts by bytes versions from to

pub returns-clause-joined : goal.returns-clause-joined
returns-clause-joined c = λ vector other. joined_counts vector other
