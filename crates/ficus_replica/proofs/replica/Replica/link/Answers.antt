use Rattle.ficus_commands.specs.declared.change.Change.TheVariants.{Ln as Links}
use Rattle.ficus_replica.proofs.replica.Replica.link.Goals as goal

pub done-requires-clause-change : goal.done-requires-clause-change
done-requires-clause-change c = (Links c.args.from.now c.args.path.now, c.link.ensures)

pub returns-clause-gives : goal.returns-clause-gives
returns-clause-gives c = c.done.ensures.gives (Links c.args.from.now c.args.path.now) c.link.ensures
