use Rattle.std.proofs.Common.{◌≡◌, Err, Ok, arith, refl, ap, subst, inl, inr}
use Rattle.std.proofs.lemmas.Result.{err_from_is_err_and}
use Rattle.ficus_ids.specs.declared.refusal.Refusal.TheVariants.{Memory}
use Rattle.ficus_script.specs.declared.command.Command.TheVariants.{Pull as Pulls}
use Rattle.ficus_runs.specs.Sequence.{unchanged}
use Rattle.ficus_world.specs.Moves.{ArePeersUp, FindsPeers}
use Rattle.ficus_world.specs.World.{Whole}
use Rattle.ficus_world.proofs.Carrying.{comes_to, whole_is}
use Rattle.ficus_world.proofs.Moved.{comes_to_none, peers_end, peers_known, same_refusal}
use Rattle.ficus_world.proofs.Pulling.{cut_given, cut_unasked, cut_ungiven, pull_given, pull_unasked, pull_ungiven}
use Rattle.ficus_world.proofs.Passing.{asked, given, unasked}
use Rattle.ficus_world.proofs.Acting.{acts_idle, acts_of, acts_once, acts_then}
use Rattle.ficus_world.proofs.world.World.pull.Goals as goal

pub returns-in_err-up_peers : goal.returns-in_err-up_peers
returns-in_err-up_peers g c =
    let refused = err_from_is_err_and c.from_residual.result c.from_residual.ensures.1 in
    let old = c.args.self.now.whole in
    let r = c.in_err-up_peers.field-0.0 in
    let finds = subst (λ (w : Whole). FindsPeers c.args.by c.args.to w (Err r) (unchanged w)) (whole_is c.self.view_is)
    c.in_err-up_peers.ensures.refused in
    rw (refused.1, refused.2)
    (record {
      moves =
          comes_to_none g.L.Link.tells g.K.Keep g.D.Disk old (Pulls c.args.by c.args.to) _ c.args.disks.now.items
          (peers_end _ _ c.args.by c.args.to old r (unchanged old) finds);
      memory = λ is.
          let same : r ≡ Memory = cc in
          absurd (peers_known c.args.by c.args.to old r (unchanged old) finds same);
      unsaved = λ looks. absurd looks;
      touches = λ single. absurd (single tt);
      spared = λ single. absurd (single tt);
      unwritten = λ r is. absurd (cc);
      left = λ told r is. absurd (cc);
      acts = acts_idle c.requires.backed;
    })

pub returns-in_err-asked : goal.returns-in_err-asked
returns-in_err-asked g c =
    let refused = err_from_is_err_and c.from_residual-in_err-asked.result c.from_residual-in_err-asked.ensures.1 in
    let old = c.args.self.now.whole in
    let peers = subst (λ (w : Whole). ArePeersUp w c.args.by c.args.to) (whole_is c.self.view_is)
    c.in_ok-up_peers.ensures.peers in
    rw (refused.1, refused.2)
    (record {
      moves = comes_to old (Pulls c.args.by c.args.to) _ c.ask_peer.new.self.whole c.args.disks.now.items c.ask_peer.new.disks.items
          (pull_unasked g.L.Link.tells g.K.Keep g.D.Disk c.args.by c.args.to old peers c.args.disks.now.items
          c.in_err-asked.field-0.0 c.ask_peer.new.self.whole c.ask_peer.new.disks.items c.in_err-asked.ensures.asks) (λ is. peers);
      memory = λ is.
          cut_unasked g.L.Link.tells g.K.Keep g.D.Disk c.args.by c.args.to c.args.self.now.whole
          peers c.args.disks.now.items c.ask_peer.new.self.whole c.ask_peer.new.disks.items
          (c.in_err-asked.ensures.acts.memory (same_refusal c.in_err-asked.field-0.0 Memory is));
      unsaved = λ looks. absurd looks;
      touches = λ single. absurd (single tt);
      spared = λ single. absurd (single tt);
      unwritten = λ r is. absurd (cc);
      left = λ told r is. absurd (cc);
      acts =
          acts_once c.ask_peer.ensures.acts (λ before after.
          unasked before after c.ask_peer.ensures.acts.touches c.ask_peer.ensures.acts.spared c.args.by c.args.to c.in_err-asked.field-0.0 (inl refl)
          c.in_err-asked.ensures.asks (λ e. c.in_err-asked.ensures.acts.memory (ap Err e)));
    })

pub returns-in_err-given : goal.returns-in_err-given
returns-in_err-given g c =
    let refused = err_from_is_err_and c.from_residual-in_err-given.result c.from_residual-in_err-given.ensures.1 in
    let old = c.args.self.now.whole in
    let peers = subst (λ (w : Whole). ArePeersUp w c.args.by c.args.to) (whole_is c.self.view_is)
    c.in_ok-up_peers.ensures.peers in
    rw (refused.1, refused.2)
    (record {
      moves = comes_to old (Pulls c.args.by c.args.to) _ c.give.new.self.whole c.args.disks.now.items c.give.new.disks.items
          (pull_ungiven g.L.Link.tells g.K.Keep g.D.Disk c.args.by c.args.to old peers c.args.disks.now.items c.in_ok-asked.asked
          c.ask_peer.new.self.whole c.ask_peer.new.disks.items c.in_ok-asked.ensures.asks c.in_err-given.field-0.0
          c.give.new.self.whole c.give.new.disks.items c.in_err-given.ensures.gives) (λ is. peers);
      memory = λ is.
          cut_ungiven g.L.Link.tells g.K.Keep g.D.Disk c.args.by c.args.to c.args.self.now.whole
          peers c.args.disks.now.items c.in_ok-asked.asked c.ask_peer.new.self.whole
          c.ask_peer.new.disks.items c.in_ok-asked.ensures.asks c.give.new.self.whole c.give.new.disks.items
          (c.in_err-given.ensures.acts.memory (same_refusal c.in_err-given.field-0.0 Memory is));
      unsaved = λ looks. absurd looks;
      touches = λ single. absurd (single tt);
      spared = λ single. absurd (single tt);
      unwritten = λ r is. absurd (cc);
      left = λ told r is. absurd (cc);
      acts = acts_then
          (acts_once c.ask_peer.ensures.acts (λ before after.
          asked before after c.ask_peer.ensures.acts.touches c.ask_peer.ensures.acts.spared c.args.by c.args.to
          c.in_ok-asked.asked (inl refl) c.in_ok-asked.ensures.asks)) c.settled.ensures
          (acts_once c.give.ensures.acts (λ before after.
          given before after c.give.ensures.acts.touches c.give.ensures.acts.spared c.in_ok-asked.asked (Err c.in_err-given.field-0.0) (inr tt)
          c.in_err-given.ensures.gives c.in_err-given.ensures.acts.memory));
    })

pub returns : goal.returns
returns g c =
    let old = c.args.self.now.whole in
    let peers = subst (λ (w : Whole). ArePeersUp w c.args.by c.args.to) (whole_is c.self.view_is)
    c.in_ok-up_peers.ensures.peers in
    let last = rw c.mails_in-first.ensures.are at c.give_each.ensures.gives in
    record {
      moves = comes_to old (Pulls c.args.by c.args.to) c.give_each.result c.give_each.new.self.whole c.args.disks.now.items
          c.give_each.new.disks.items
          (pull_given g.L.Link.tells g.K.Keep g.D.Disk c.args.by c.args.to old peers c.args.disks.now.items c.in_ok-asked.asked
          c.ask_peer.new.self.whole c.ask_peer.new.disks.items c.in_ok-asked.ensures.asks c.in_ok-given.given c.give.new.self.whole
          c.give.new.disks.items c.in_ok-given.ensures.gives c.give_each.result c.give_each.new.self.whole
          c.give_each.new.disks.items last) (λ is. peers);
      memory = λ is.
          cut_given g.L.Link.tells g.K.Keep g.D.Disk c.args.by c.args.to c.args.self.now.whole
          peers c.args.disks.now.items c.in_ok-asked.asked c.ask_peer.new.self.whole
          c.ask_peer.new.disks.items c.in_ok-asked.ensures.asks c.in_ok-given.given c.give.new.self.whole c.give.new.disks.items
          c.in_ok-given.ensures.gives c.give_each.new.self.whole c.give_each.new.disks.items
          (rw c.mails_in-first.ensures.are at c.give_each.ensures.memory is);
      unsaved = λ looks. absurd looks;
      touches = λ single. absurd (single tt);
      spared = λ single. absurd (single tt);
      unwritten = λ r is. absurd (cc);
      left = λ told r is. absurd (cc);
      acts = acts_then
          (acts_once c.ask_peer.ensures.acts (λ before after.
          asked before after c.ask_peer.ensures.acts.touches c.ask_peer.ensures.acts.spared c.args.by c.args.to
          c.in_ok-asked.asked (inl refl) c.in_ok-asked.ensures.asks)) c.settled.ensures
          (acts_then
          (acts_once c.give.ensures.acts (λ before after.
          given before after c.give.ensures.acts.touches c.give.ensures.acts.spared c.in_ok-asked.asked (Ok c.in_ok-given.given) (inr tt)
          c.in_ok-given.ensures.gives c.in_ok-given.ensures.acts.memory)) c.settled-2.ensures
          (acts_of (λ link gives. inr gives) c.give_each.ensures.acts));
    }

pub settled-requires : goal.settled-requires
settled-requires g c = c.ask_peer.ensures.acts.backed.disks

pub settled-requires-2 : goal.settled-requires-2
settled-requires-2 g c = c.give.ensures.acts.backed.disks

pub give-requires-clause-backed : goal.give-requires-clause-backed
give-requires-clause-backed g c = c.ask_peer.ensures.acts.backed

pub give_each-requires-clause-backed : goal.give_each-requires-clause-backed
give_each-requires-clause-backed g c = c.give.ensures.acts.backed

pub give-requires-clause-room : goal.give-requires-clause-room
give-requires-clause-room g c = omega (arith, c.ask_peer.ensures.acts.grows, c.requires.room)

pub give_each-requires-clause-room : goal.give_each-requires-clause-room
give_each-requires-clause-room g c =
    omega (arith, c.ask_peer.ensures.acts.grows, c.give.ensures.acts.grows, c.requires.room, c.mails_in-first.ensures.few)

pub ask_peer-requires-clause-may : goal.ask_peer-requires-clause-may
ask_peer-requires-clause-may g c =
    let peers = subst (λ (w : Whole). ArePeersUp w c.args.by c.args.to) (whole_is c.self.view_is)
    c.in_ok-up_peers.ensures.peers in
    record { peers = peers.peers; up = peers.one }
