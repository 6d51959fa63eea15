use Rattle.ficus_laws.proofs.Knowledge.{knows_after, knows_cases}
use Rattle.ficus_laws.proofs.known.known_by_steps.Goals as goal

pub returns-clause-one_more : goal.returns-clause-one_more
returns-clause-one_more c = λ H event replica position. (knows_cases event, knows_after event)
