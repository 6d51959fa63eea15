use Rattle.ficus_removal_laws.proofs.Hearing.{one_from_last, one_at_last, two_at_last}
use Rattle.ficus_removal_laws.proofs.Dropping.{dropped_two}
use Rattle.ficus_removal_laws.proofs.Answering.{two_taken, dropped_server_one, dropped_server_removed, absent_dropped, server_absent_dropped, server_dropped_one, server_member}
use Rattle.ficus_removal_laws.proofs.dropped.absent_entries_are_explained.Goals as goal

pub returns-clause-here : goal.returns-clause-here
returns-clause-here c = λ volume H replica served piece server entry answer absent. (
  λ d. one_at_last (dropped_server_one volume H replica served piece server entry answer d),
  λ o. absent_dropped volume H replica served piece server entry answer absent (one_from_last o),
)

pub returns-clause-served : goal.returns-clause-served
returns-clause-served c = λ volume H replica served piece server entry answer d.
    dropped_server_removed volume H replica served piece server entry answer d

pub returns-clause-there : goal.returns-clause-there
returns-clause-there c = λ volume H replica served piece server entry answer absent. (
  λ d peer m. one_at_last (server_dropped_one volume H replica served piece server entry answer d m),
  λ full.
      let heard = one_from_last (full server (server_member volume H replica served piece server entry answer)) in
      server_absent_dropped volume H replica served piece server entry answer absent heard,
)

pub returns-clause-fills : goal.returns-clause-fills
returns-clause-fills c = λ members H replica served piece server entry by_server d member m.
    two_at_last (two_taken H replica served piece server by_server (dropped_two d m))
