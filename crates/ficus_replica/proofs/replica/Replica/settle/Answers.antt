use Rattle.ficus_commands.specs.declared.change.Change.TheVariants.{Settle as Settles}
use Rattle.ficus_replica.proofs.replica.Replica.settle.Goals as goal

pub done-requires-clause-change : goal.done-requires-clause-change
done-requires-clause-change c = (Settles c.args.path.now c.args.bytes.now, c.settle.ensures)

pub returns-clause-gives : goal.returns-clause-gives
returns-clause-gives c = c.done.ensures.gives (Settles c.args.path.now c.args.bytes.now) c.settle.ensures
