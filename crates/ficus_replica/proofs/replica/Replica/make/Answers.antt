use Rattle.ficus_commands.specs.declared.change.Change.TheVariants.{Create as Creates}
use Rattle.ficus_replica.proofs.replica.Replica.make.Goals as goal

pub done-requires-clause-change : goal.done-requires-clause-change
done-requires-clause-change c = (Creates c.args.path.now c.args.kind, c.make.ensures)

pub returns-clause-gives : goal.returns-clause-gives
returns-clause-gives c = c.done.ensures.gives (Creates c.args.path.now c.args.kind) c.make.ensures
