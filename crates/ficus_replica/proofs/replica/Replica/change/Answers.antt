use Rattle.ficus_replica.proofs.replica.Replica.change.Goals as goal

pub returns-clause-gives : goal.returns-clause-gives
returns-clause-gives c = c.done.ensures.gives c.args.change.now c.change.ensures
