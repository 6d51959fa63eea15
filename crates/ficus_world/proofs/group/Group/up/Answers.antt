use Rattle.ficus_world.specs.Moves.FindsUp.{FindsDown, FindsNoneAt}
use Rattle.ficus_world.proofs.Tests.{untrue}
use Rattle.ficus_world.proofs.group.Group.up.Goals as goal

pub returns-then-not-has-clause-refused : goal.returns-then-not-has-clause-refused
returns-then-not-has-clause-refused g c = FindsNoneAt (untrue c.has.result c.has.ensures c.if-not-has.true)

pub returns-else-is_up-clause-refused : goal.returns-else-is_up-clause-refused
returns-else-is_up-clause-refused g c =
    FindsDown c.member-member.ensures.is (untrue c.is_up.result c.is_up.ensures c.if-is_up.false)
