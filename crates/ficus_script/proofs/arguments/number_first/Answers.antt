use Rattle.ficus_script.proofs.arguments.number_first.Goals as goal

pub returns-in-Some : goal.returns-in-Some
returns-in-Some c = rw c.in-Some.is c.replica_first.ensures

pub returns-in-None : goal.returns-in-None
returns-in-None c = rw c.in-None.is c.one_word.ensures
