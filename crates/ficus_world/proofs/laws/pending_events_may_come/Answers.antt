use Rattle.ficus_world.proofs.Stand.{pending_may_come}
use Rattle.ficus_world.proofs.laws.pending_events_may_come.Goals as goal

pub returns : goal.returns
returns c = λ volume W world stands. pending_may_come volume W world stands
