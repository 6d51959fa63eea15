use Rattle.ficus_commands.specs.declared.change.Change.TheVariants.{Resolve as Resolves}
use Rattle.ficus_replica.proofs.replica.Replica.resolve.Goals as goal

pub returns-clause-gives : goal.returns-clause-gives
returns-clause-gives c = c.done.ensures.gives (Resolves c.args.path.now) c.resolve.ensures
