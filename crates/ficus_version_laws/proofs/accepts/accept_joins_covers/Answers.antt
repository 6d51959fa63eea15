use Rattle.ficus_version_laws.proofs.Taking.{cover_accept, cover_own, cover_brought}
use Rattle.ficus_version_laws.proofs.accepts.accept_joins_covers.Goals as goal

pub returns-clause-joined : goal.returns-clause-joined
returns-clause-joined c = λ H replica served piece server file cover other by_server own his.
    cover_accept H replica served piece server by_server own his

pub returns-clause-kept : goal.returns-clause-kept
returns-clause-kept c = λ H replica served piece server file cover by_server within own.
    cover_own H replica served piece server by_server within own

pub returns-clause-taken : goal.returns-clause-taken
returns-clause-taken c = λ H replica served piece server file other by_server within his.
    cover_brought H replica served piece server by_server within his
