use Rattle.ficus_laws.proofs.Lawful.{lawful_none, lawful_more, lawful_less}
use Rattle.ficus_laws.proofs.history.lawful_by_steps.Goals as goal

pub returns-clause-none : goal.returns-clause-none
returns-clause-none c = lawful_none

pub returns-clause-one_more : goal.returns-clause-one_more
returns-clause-one_more c = λ volume H event. (lawful_less volume H event, λ both. lawful_more volume H event both.0 both.1)
