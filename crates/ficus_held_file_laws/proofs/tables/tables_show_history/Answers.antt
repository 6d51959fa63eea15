use Rattle.ficus_held_file_laws.proofs.Entries.{live_from_listed, live_listed, removed_from_listed, removed_listed}
use Rattle.ficus_held_file_laws.proofs.Files.{known_file, file_of_history, named_listed}
use Rattle.ficus_held_file_laws.proofs.Orphans.{orphan_listed, unseen_uncovered, uncovered_unseen}
use Rattle.ficus_held_file_laws.proofs.tables.tables_show_history.Goals as goal

pub returns-clause-live : goal.returns-clause-live
returns-clause-live c = λ volume H replica entries entry lawful m held is.
    (live_from_listed held is, live_listed held m is)

pub returns-clause-known : goal.returns-clause-known
returns-clause-known c = λ members H replica files file held inside. known_file held inside

pub returns-clause-named : goal.returns-clause-named
returns-clause-named c = λ volume H replica files object kind lawful m held named made.
    named_listed volume H replica files object kind lawful m held named made

pub returns-clause-numbers : goal.returns-clause-numbers
returns-clause-numbers c = λ members H replica files file held inside. file_of_history held inside

pub returns-clause-orphans : goal.returns-clause-orphans
returns-clause-orphans c = λ volume H replica files object kind lawful m held orphan made.
    orphan_listed volume H replica files object kind lawful m held orphan made

pub returns-clause-removed : goal.returns-clause-removed
returns-clause-removed c = λ members H replica entries entry one two held is.
    (removed_from_listed held is, removed_listed held is)

pub returns-clause-unseen : goal.returns-clause-unseen
returns-clause-unseen c = λ volume H replica files file lawful held inside.
    (unseen_uncovered volume H lawful held inside, uncovered_unseen volume H lawful held inside)
