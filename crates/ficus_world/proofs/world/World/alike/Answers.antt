use Rattle.std.proofs.Common.{◌≡◌, Err, subst}
use Rattle.std.proofs.lemmas.Result.{err_from_is_err_and}
use Rattle.ficus_runs.specs.Numbered.{IsNumbered}
use Rattle.ficus_runs.specs.Sequence.{unchanged}
use Rattle.ficus_opening.specs.declared.member.Member.{Member}
use Rattle.ficus_opening.specs.declared.member.MemberState.TheVariants.{Up}
use Rattle.ficus_world.specs.Moves.{ArePeersUp, FindsPeers}
use Rattle.ficus_world.specs.World.{Whole}
use Rattle.ficus_world.proofs.Carrying.{whole_is}
use Rattle.ficus_world.proofs.Moved.{alike_moves, peers_end}
use Rattle.ficus_runs.proofs.Numbers.{number_once}
use Rattle.ficus_world.proofs.world.World.alike.Goals as goal

pub returns-in_err-up_peers : goal.returns-in_err-up_peers
returns-in_err-up_peers g c =
    let refused = err_from_is_err_and c.from_residual.result c.from_residual.ensures.1 in
    let old = c.args.self.now.whole in
    let finds = subst (λ (w : Whole). FindsPeers c.args.by c.args.other w (Err c.in_err-up_peers.field-0.0) (unchanged w))
    (whole_is c.self.view_is) c.in_err-up_peers.ensures.refused in
    rw (refused.1, refused.2)
    (peers_end _ _ c.args.by c.args.other old c.in_err-up_peers.field-0.0 (unchanged old) finds)

pub returns-in_err-alike : goal.returns-in_err-alike
returns-in_err-alike g c =
    let wanted = err_from_is_err_and c.from_residual-in_err-alike.result c.from_residual-in_err-alike.ensures.1 in
    let peers = subst (λ (w : Whole). ArePeersUp w c.args.by c.args.other) (whole_is c.self.view_is)
    c.in_ok-up_peers.ensures.peers in
    rw (wanted.1, wanted.2) peers

pub returns : goal.returns
returns g c =
    let same = whole_is c.self.view_is in
    let peers = subst (λ (w : Whole). ArePeersUp w c.args.by c.args.other) same c.in_ok-up_peers.ensures.peers in
    let one = c.member.result.now in
    let two = c.member-2.result.now in
    let is = subst (λ (w : Whole). IsNumbered w.members c.args.by one) same c.member.ensures.is in
    let is_too = subst (λ (w : Whole). IsNumbered w.members c.args.other two) same c.member-2.ensures.is in
    let up = subst (λ (m : Member). m.state ≡ Up) (number_once peers.one.is is) peers.one.up in
    let up_too = subst (λ (m : Member). m.state ≡ Up) (number_once peers.two.is is_too) peers.two.up in
    alike_moves g.L.Link.tells ⊥ c.args.self.now.whole c.args.by c.args.other one two peers.peers is is_too up up_too
    c.in_ok-alike.alike c.in_ok-alike.ensures
