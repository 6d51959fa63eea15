use Rattle.std.proofs.Common.{[]}
use Rattle.ficus_replica.proofs.Events.{fresh_stands, no_restarts}
use Rattle.ficus_replica.proofs.replica.Replica.fresh.Goals as goal

pub returns-clause-stands : goal.returns-clause-stands
returns-clause-stands c = rw (c.open.ensures.saved, c.new.ensures, c.new-2.ensures, c.open.ensures.ask) (fresh_stands [] c.args.me no_restarts _ c.requires.me)
