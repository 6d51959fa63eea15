use Rattle.ficus_commands.specs.declared.change.Change.TheVariants.{Adopt as Adopts}
use Rattle.ficus_replica.proofs.replica.Replica.adopt.Goals as goal

pub returns-clause-gives : goal.returns-clause-gives
returns-clause-gives c = c.done.ensures.gives (Adopts c.args.orphan c.args.path.now) c.adopt.ensures
