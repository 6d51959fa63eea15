use Rattle.std.proofs.lemmas.Result.{IfOk-weaker}
use Rattle.ficus_entry.specs.Place.{AreNoted}
use Rattle.ficus_entry.proofs.Noted.{noted_put, noted_insert}
use Rattle.ficus_entry.proofs.entries.Entries.index_with.Goals as goal

pub returns-in-Ok : goal.returns-in-Ok
returns-in-Ok c =
    let view = c.self.inside.table.items in
    let folded = c.in_ok-folded.folded in
    let are : AreNoted view folded = rw (← c.self.view_is) at c.in_ok-folded.ensures in
    rw (← c.self.view_is)
    (IfOk-weaker c.renoted.result _ _
    (λ noted is more rises puts. noted_put view more c.in-Ok.at c.at.result.now c.args.entry.now folded noted
    c.search.ensures.rising are c.in-Ok.ensures.found c.at.ensures
    is rises puts) c.renoted.ensures)

pub returns : goal.returns
returns c =
    let view = c.self.inside.table.items in
    let folded = c.in_ok-folded.folded in
    let are : AreNoted view folded = rw (← c.self.view_is) at c.in_ok-folded.ensures in
    rw (← c.self.view_is)
    (IfOk-weaker c.noting.result _ _
    (λ noted is more rises puts. noted_insert view more _ c.args.entry.now folded noted
    c.search.ensures.rising are c.in-Err.ensures.place is rises puts) c.noting.ensures)
