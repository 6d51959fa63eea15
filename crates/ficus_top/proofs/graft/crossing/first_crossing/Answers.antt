use Rattle.ficus_top.proofs.graft.Crossings.{first_at}
use Rattle.ficus_top.proofs.graft.crossing.first_crossing.Goals as goal

pub returns-in-Some-clause-found : goal.returns-in-Some-clause-found
returns-in-Some-clause-found c =
    first_at c.args.count c.args.parts.now c.loop-place.place c.index-parts-place.result c.in-Some.volume
    c.loop-place-test.true c.index-parts-place.is c.loop-place.invariant c.in-Some.ensures.found
