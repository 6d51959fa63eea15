use Rattle.ficus_commands.specs.declared.change.Change.TheVariants.{Mv as Moves}
use Rattle.ficus_replica.proofs.replica.Replica.rename.Goals as goal

pub returns-clause-gives : goal.returns-clause-gives
returns-clause-gives c = c.done.ensures.gives (Moves c.args.from.now c.args.path.now) c.rename.ensures
