use Rattle.ficus_orphan.proofs.naming.named.Goals as goal

pub returns : goal.returns
returns c = λ object.
    let set = c.of.ensures object in
    let targets = rw c.in_ok-in_order.ensures at (c.in_ok-targets.ensures object) in
    (λ inside. targets.0 (set.0 inside), λ named. set.1 (targets.1 named))
