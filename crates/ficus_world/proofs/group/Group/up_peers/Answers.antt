use Rattle.ficus_world.specs.Moves.FindsPeers.{FindsNoPeers, FindsOneDown}
use Rattle.ficus_runs.proofs.Numbers.{number_exists}
use Rattle.ficus_world.proofs.Tests.{untrue}
use Rattle.ficus_world.proofs.group.Group.up_peers.Goals as goal

pub returns-then-not-are_peers-clause-refused : goal.returns-then-not-are_peers-clause-refused
returns-then-not-are_peers-clause-refused g c =
    FindsNoPeers (untrue c.are_peers.result c.are_peers.ensures c.if-not-are_peers.true)

pub returns-then-not-is_up-clause-refused : goal.returns-then-not-is_up-clause-refused
returns-then-not-is_up-clause-refused g c =
    let peers = c.are_peers.ensures.0 c.if-not-are_peers.false in
    let other = number_exists c.args.self.now.members c.args.to peers.second in
    FindsOneDown peers c.member.ensures.is other.1
    (λ both. untrue c.is_up.result c.is_up.ensures c.if-not-is_up.true both.0)

pub returns-then-not-is_up-2-clause-refused : goal.returns-then-not-is_up-2-clause-refused
returns-then-not-is_up-2-clause-refused g c =
    let peers = c.are_peers.ensures.0 c.if-not-are_peers.false in
    FindsOneDown peers c.member.ensures.is c.member-2.ensures.is
    (λ both. untrue c.is_up-2.result c.is_up-2.ensures c.if-not-is_up-2.true both.1)
