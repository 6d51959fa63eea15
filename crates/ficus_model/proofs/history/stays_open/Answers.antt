use Rattle.ficus_model.specs.Lawful.{ClosesAsk}
use Rattle.ficus_model.proofs.Behind.{all_behind}
use Rattle.ficus_model.proofs.history.stays_open.Goals as goal

pub returns : goal.returns
returns c =
    let behind = all_behind (λ event. ClosesAsk c.args.by event → ⊥) c.args.events.now c.split_at.result.1.now
    c.args.ask c.split_at.ensures.back in
    (λ none. behind.0 (c.close_none.ensures.0 none), λ each. c.close_none.ensures.1 (behind.1 each))
