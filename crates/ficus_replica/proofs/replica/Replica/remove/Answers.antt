use Rattle.ficus_commands.specs.declared.change.Change.TheVariants.{Rm as Removes}
use Rattle.ficus_replica.proofs.replica.Replica.remove.Goals as goal

pub returns-clause-gives : goal.returns-clause-gives
returns-clause-gives c = c.done.ensures.gives (Removes c.args.path.now) c.remove.ensures
