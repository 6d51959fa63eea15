use Rattle.ficus_commands.specs.declared.change.Change.TheVariants.{Symlink as Symlinks}
use Rattle.ficus_replica.proofs.replica.Replica.symlink.Goals as goal

pub done-requires-clause-change : goal.done-requires-clause-change
done-requires-clause-change c = (Symlinks c.args.path.now c.args.text.now, c.symlink.ensures)

pub returns-clause-gives : goal.returns-clause-gives
returns-clause-gives c = c.done.ensures.gives (Symlinks c.args.path.now c.args.text.now) c.symlink.ensures
