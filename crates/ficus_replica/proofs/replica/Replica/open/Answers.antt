use Rattle.std.proofs.Common.{refl}
use Rattle.ficus_replica.proofs.Events.{restart_stands}
use Rattle.ficus_replica.proofs.replica.Replica.open.Goals as goal

pub returns-clause-stands : goal.returns-clause-stands
returns-clause-stands c = λ volume H saved. restart_stands volume H c.args.saved.me c.args.saved _ saved refl refl
