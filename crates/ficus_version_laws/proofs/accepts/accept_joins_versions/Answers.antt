use Rattle.ficus_version_laws.proofs.Taking.{accept_shown, shown_accept, accept_merges, accept_own, accept_brought}
use Rattle.ficus_version_laws.proofs.accepts.accept_joins_versions.Goals as goal

pub returns-clause-shown : goal.returns-clause-shown
returns-clause-shown c = λ H replica served piece server file position by_server. (
  accept_shown H replica served piece server by_server,
  shown_accept H replica served piece server by_server,
)

pub returns-clause-merged : goal.returns-clause-merged
returns-clause-merged c = λ volume H replica served piece server file versions others merged lawful by_server own his merge.
    accept_merges H replica served piece server by_server volume lawful own his merge

pub returns-clause-kept : goal.returns-clause-kept
returns-clause-kept c = λ H replica served piece server file versions by_server within own.
    accept_own H replica served piece server by_server within own

pub returns-clause-taken : goal.returns-clause-taken
returns-clause-taken c = λ H replica served piece server file others by_server within his.
    accept_brought H replica served piece server by_server within his
