use Rattle.ficus_replica.proofs.Views.{marks_history}
use Rattle.ficus_world.proofs.Lifting.Standing.{replica_stands}
use Rattle.ficus_world.proofs.laws.knowledge_is_held.Goals as goal

pub returns : goal.returns
returns c = λ volume W world number member entry knowing knowing_all_know stands is.
    marks_history stands.lawful (replica_stands volume W world stands number member is).saved entry knowing
    knowing_all_know
