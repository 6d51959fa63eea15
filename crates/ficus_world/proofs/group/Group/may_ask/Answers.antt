use Rattle.ficus_world.specs.Moves.KeepsAsk.{AskerDown, NoPeers}
use Rattle.ficus_world.proofs.Tests.{untrue}
use Rattle.ficus_world.proofs.group.Group.may_ask.Goals as goal

pub returns-then-not-are_peers-clause-refused : goal.returns-then-not-are_peers-clause-refused
returns-then-not-are_peers-clause-refused g c =
    (λ is. absurd (cc), NoPeers (untrue c.are_peers.result c.are_peers.ensures c.if-not-are_peers.true))

pub returns-else-is_up-clause-refused : goal.returns-else-is_up-clause-refused
returns-else-is_up-clause-refused g c = (
  λ is. absurd (cc),
  AskerDown (c.are_peers.ensures.0 c.if-not-are_peers.false) c.member.ensures.is
      (untrue c.is_up.result c.is_up.ensures c.if-is_up.false),
)
