use Rattle.std.proofs.Common.{subst, sym}
use Rattle.std.proofs.lemmas.Result.{err_from_is_err_and}
use Rattle.ficus_world.specs.Moves.{KeepsAsk, MayAsk}
use Rattle.ficus_world.specs.World.{Whole}
use Rattle.ficus_world.proofs.Carrying.{carried_memory, whole_is}
use Rattle.ficus_world.proofs.Disks.{follows_none}
use Rattle.ficus_world.proofs.Acting.{acts_none}
use Rattle.ficus_world.proofs.world.World.ask_peer.Goals as goal

pub asking-requires-clause-may : goal.asking-requires-clause-may
asking-requires-clause-may g c =
    subst (λ (w : Whole). MayAsk w c.args.by c.args.to) (sym (whole_is c.self.view_is)) c.requires.may

pub returns-in_err-asking : goal.returns-in_err-asking
returns-in_err-asking g c =
    let wanted = err_from_is_err_and c.from_residual.result c.from_residual.ensures.1 in
    let x = c.args.disks.now.items in
    rw (wanted.1, wanted.2)
    (record {
      asks = carried_memory (KeepsAsk g.L.Link.tells c.args.by c.args.to) c.args.self.now.whole _ x x follows_none;
      wants = λ is. (c.requires.may.peers, c.requires.may.up);
      acts = acts_none c.requires.backed;
    })

pub send_asking-requires-clause-backed : goal.send_asking-requires-clause-backed
send_asking-requires-clause-backed g c = rw (← c.self.view_is) at c.requires.backed

pub returns : goal.returns
returns g c = record {
  asks = rw (← c.self.view_is) c.send_asking.ensures.asks;
  wants = λ is. (c.requires.may.peers, c.requires.may.up);
  acts = rw (← c.self.view_is) c.send_asking.ensures.acts;
}
