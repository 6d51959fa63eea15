use Rattle.std.proofs.Common.{◌≡◌, ◌+◌, [], ◌∷◌, ◌++◌, true, arith}
use Rattle.std.proofs.lemmas.Grind.{common_steps}
use Rattle.std.specs.BTreeSet.{btree_set_len, contains}
use Rattle.ficus_ids.specs.Id.{id_cmp}
use Rattle.ficus_reach.proofs.Gained.{gains_known, gains_push}
use Rattle.ficus_reach.proofs.Tracked.{tracked_push}
use Rattle.ficus_reach.proofs.found.Found.add.Goals as goal

pub returns-in_ok-push-clause-tracked : goal.returns-in_ok-push-clause-tracked
unfolding id_cmp
returns-in_ok-push-clause-tracked c =
    let pushed : c.push.new.self.items ≡ c.args.self.now.order.items ++ c.args.object ∷ [] = grind (arith, common_steps) in
    let longer : btree_set_len c.insert.new.self ≡ btree_set_len c.args.self.now.set + 1 = grind (arith, common_steps) in
    rw pushed (tracked_push c.args.self.now.set c.insert.new.self c.args.self.now.order.items c.args.object
    c.in_ok-insert.ensures.updates.0 c.in_ok-insert.ensures.ordered longer c.requires)

pub returns-in_ok-push-clause-gains : goal.returns-in_ok-push-clause-gains
returns-in_ok-push-clause-gains c =
    let pushed : c.push.new.self.items ≡ c.args.self.now.order.items ++ c.args.object ∷ [] = grind (arith, common_steps) in
    rw pushed (gains_push c.args.self.now.order.items c.args.object)

pub returns-else-branch-clause-gains : goal.returns-else-branch-clause-gains
unfolding id_cmp
returns-else-branch-clause-gains c =
    let known : contains id_cmp c.args.self.now.set c.args.object ≡ true = grind (arith, common_steps) in
    gains_known c.args.self.now.order.items c.args.object ((c.requires.same c.args.object).0 known)
