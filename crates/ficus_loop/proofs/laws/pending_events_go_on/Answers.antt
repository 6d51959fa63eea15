use Rattle.ficus_loop.proofs.GoingOn.{goes_on}
use Rattle.ficus_loop.proofs.laws.pending_events_go_on.Goals as goal

pub returns : goal.returns
returns c = λ volume H found standing lawful keeps.
    let on = goes_on volume H lawful found standing keeps in
    (on.more, on.pending, on.few, on.lawful_on, λ r member. on.each r member.at_least member.at_most)
