use Rattle.std.proofs.Common.{rules}
use Rattle.ficus_replica.proofs.Asks.{ask_gives_stands, ask_noted}
use Rattle.ficus_replica.proofs.replica.Replica.ask.Goals as goal

pub returns-clause-gives : goal.returns-clause-gives
returns-clause-gives c = search rules

pub returns-clause-noted : goal.returns-clause-noted
returns-clause-noted c = ask_noted c.args.self.now.saved _ c.requires.fits c.requires.generation (search rules)

pub returns-clause-stands : goal.returns-clause-stands
returns-clause-stands c =
    λ volume H stands. ask_gives_stands volume c.args.to c.args.self.now _ H c.requires.fits c.requires.member c.requires.other (returns-clause-gives c) stands
