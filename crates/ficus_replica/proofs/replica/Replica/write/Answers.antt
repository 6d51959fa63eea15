use Rattle.ficus_commands.specs.declared.change.Change.TheVariants.{Write as Writes}
use Rattle.ficus_replica.proofs.replica.Replica.write.Goals as goal

pub done-requires-clause-change : goal.done-requires-clause-change
done-requires-clause-change c = (Writes c.args.path.now c.args.bytes.now, c.write.ensures)

pub returns-clause-gives : goal.returns-clause-gives
returns-clause-gives c = c.done.ensures.gives (Writes c.args.path.now c.args.bytes.now) c.write.ensures
