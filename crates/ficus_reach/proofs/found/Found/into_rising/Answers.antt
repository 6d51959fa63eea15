use Rattle.std.proofs.Common.{◌≡◌, rules}
use Rattle.ficus_reach.proofs.Tracked.{rising_keys, same_keys}
use Rattle.ficus_reach.proofs.found.Found.into_rising.Goals as goal

pub returns-clause-rising : goal.returns-clause-rising
returns-clause-rising c =
    let collected : c.in_ok-collect.field-0.items ≡ c.args.self.set.keys = search rules in
    rw collected (rising_keys c.args.self.set c.requires.ordered)

pub returns-clause-same : goal.returns-clause-same
returns-clause-same c =
    let collected : c.in_ok-collect.field-0.items ≡ c.args.self.set.keys = search rules in
    rw collected (same_keys c.args.self.set c.args.self.order.items c.requires)
