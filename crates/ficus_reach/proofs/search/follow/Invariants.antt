use Rattle.std.proofs.Common.{◌+◌, ◌-◌, length}
use Rattle.ficus_reach.proofs.Followed.{IsFollowing}
use Rattle.ficus_reach.proofs.search.follow.Given as goal

abbrev pub invariant-loop-next : goal.invariant-loop-next
invariant-loop-next l =
    IsFollowing l.edges l.initial.found.order.items l.found.set l.found.order.items l.next

abbrev pub decreases-loop-next : goal.decreases-loop-next
decreases-loop-next l = length l.initial.found.order.items + length l.edges - l.next
