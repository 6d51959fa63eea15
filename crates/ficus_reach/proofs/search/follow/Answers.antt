use Rattle.std.proofs.Common.{◌≡◌, ◌<◌, ◌≤◌, length, get_or, arith}
use Rattle.std.proofs.lemmas.Grind.{common_steps}
use Rattle.ficus_reach.proofs.Followed.{following_none, following_more, found_fit, followed}
use Rattle.ficus_reach.proofs.search.follow.Goals as goal

pub loop-next-init : goal.loop-next-init
loop-next-init c = following_none c.args.edges.now c.args.found.now.order.items c.args.found.now.set c.requires.tracked

pub loop-next-smaller : goal.loop-next-smaller
loop-next-smaller c =
    let fit = found_fit c.loop-next.found.order.items c.loop-next.invariant in
    let within : c.loop-next.next < length c.loop-next.found.order.items = grind (arith, common_steps) in
    omega (arith, fit, within)

pub loop-next-preserved : goal.loop-next-preserved
loop-next-preserved c =
    let order = c.loop-next.found.order.items in
    let within : c.loop-next.next < length order = grind (arith, common_steps) in
    let dir = c.index-dir.result.now in
    let here : dir ≡ get_or order c.loop-next.next dir = c.index-dir.ensures in
    following_more c.args.edges.now c.edges_from.result.now c.args.found.now.order.items c.loop-next.found.set
    c.add_targets.new.self.set order c.add_targets.new.self.order.items c.loop-next.next dir within here
    c.edges_from.ensures c.in_ok-add_targets.ensures.gains c.in_ok-add_targets.ensures.tracked
    c.loop-next.invariant

pub returns-clause-reached : goal.returns-clause-reached
returns-clause-reached c =
    let past : length c.loop-next.found.order.items ≤ c.loop-next.next = grind (arith, common_steps) in
    followed c.loop-next.found.order.items c.loop-next.invariant past
