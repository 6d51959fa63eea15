use Rattle.ficus_laws.proofs.Example.{small_lawful, small_brought}
use Rattle.ficus_laws.proofs.exchange.answers_are_taken.Goals as goal

pub returns-clause-lawful : goal.returns-clause-lawful
returns-clause-lawful c = small_lawful

pub returns-clause-brought : goal.returns-clause-brought
returns-clause-brought c = small_brought
