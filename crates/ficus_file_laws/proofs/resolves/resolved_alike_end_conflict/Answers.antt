use Rattle.ficus_file_laws.proofs.Resolving.{resolve_shows, alike_merge, alike_taken}
use Rattle.ficus_file_laws.proofs.resolves.resolved_alike_end_conflict.Goals as goal

pub returns-clause-shown : goal.returns-clause-shown
returns-clause-shown c = λ H replica file bytes versions are version inside.
    resolve_shows H replica file bytes versions are version inside

pub returns-clause-merged : goal.returns-clause-merged
returns-clause-merged c = λ H G replica other file bytes mine theirs both own brought merged two.
    alike_merge mine theirs both bytes
    (resolve_shows H replica file bytes mine own) (resolve_shows G other file bytes theirs brought) merged two

pub returns-clause-taken : goal.returns-clause-taken
returns-clause-taken c = λ H replica served piece server file bytes mine theirs by_server own brought have have_too conflict.
    alike_taken H replica served piece server file bytes mine theirs by_server own brought have have_too conflict
