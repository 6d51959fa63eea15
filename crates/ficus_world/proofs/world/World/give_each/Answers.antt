use Rattle.std.proofs.Common.{Err, Ok, arith}
use Rattle.std.proofs.lemmas.Result.{err_from_is_err_and}
use Rattle.ficus_ids.specs.declared.refusal.Refusal.TheVariants.{Memory}
use Rattle.ficus_world.proofs.Moved.{same_refusal}
use Rattle.ficus_world.proofs.Passing.{given}
use Rattle.ficus_world.proofs.Pulling.{given_all, given_cut, given_next, given_none, given_refused}
use Rattle.ficus_world.proofs.Acting.{acts_idle, acts_once, acts_then}
use Rattle.ficus_world.proofs.world.World.give_each.Goals as goal

pub loop-index-init : goal.loop-index-init
loop-index-init g c = record {
  given = given_none g.L.Link.tells g.K.Keep g.D.Disk c.args.first c.args.count c.args.self.now.whole
      c.args.disks.now.items;
  settled = c.settled.ensures;
  acts = acts_idle c.requires.backed;
  grows = omega arith;
}

pub loop-index-preserved : goal.loop-index-preserved
loop-index-preserved g c =
    let l = c.loop-index in
    record {
      given = given_next g.L.Link.tells g.K.Keep g.D.Disk c.args.first c.args.count c.args.self.now.whole
          c.args.disks.now.items l.index l.self.whole l.disks.items l.invariant.given c.in_ok-give.field-0
          c.give.new.self.whole c.give.new.disks.items c.in_ok-give.ensures.gives;
      settled = c.settled-in-loop-index.ensures;
      acts = acts_then l.invariant.acts l.invariant.settled (acts_once c.give.ensures.acts (λ before after.
          given before after c.give.ensures.acts.touches c.give.ensures.acts.spared _ (Ok c.in_ok-give.field-0) tt c.in_ok-give.ensures.gives
          c.in_ok-give.ensures.acts.memory));
      grows = omega (arith, c.give.ensures.acts.grows, l.invariant.grows);
    }

pub returns-in_err-give : goal.returns-in_err-give
returns-in_err-give g c =
    let l = c.loop-index in
    let refused = err_from_is_err_and c.from_residual.result c.from_residual.ensures.1 in
    record {
      gives =
          rw (refused.1, refused.2)
          (given_refused g.L.Link.tells g.K.Keep g.D.Disk c.args.first c.args.count c.args.self.now.whole
          c.args.disks.now.items l.index l.self.whole l.disks.items l.invariant.given
          (omega (arith, c.loop-index-test.true)) c.in_err-give.field-0.0 c.give.new.self.whole c.give.new.disks.items
          c.in_err-give.ensures.gives);
      memory =
          rw (refused.1, refused.2)
          (λ is. given_cut g.L.Link.tells g.K.Keep g.D.Disk c.args.first c.args.count c.args.self.now.whole
          c.args.disks.now.items l.index l.self.whole l.disks.items l.invariant.given
          (omega (arith, c.loop-index-test.true)) c.give.new.self.whole c.give.new.disks.items
          (c.in_err-give.ensures.acts.memory (same_refusal c.in_err-give.field-0.0 Memory is)));
      acts =
          acts_then l.invariant.acts l.invariant.settled (acts_once c.give.ensures.acts (λ before after.
          given before after c.give.ensures.acts.touches c.give.ensures.acts.spared _ (Err c.in_err-give.field-0.0) tt c.in_err-give.ensures.gives
          c.in_err-give.ensures.acts.memory));
    }

pub returns : goal.returns
returns g c =
    let l = c.loop-index in
    record {
      gives =
          given_all g.L.Link.tells g.K.Keep g.D.Disk c.args.first c.args.count c.args.self.now.whole c.args.disks.now.items
          l.index l.self.whole l.disks.items l.invariant.given (omega (arith, c.loop-index-test.false));
      memory = λ is. absurd (cc);
      acts = c.loop-index.invariant.acts;
    }

pub give-requires-clause-backed : goal.give-requires-clause-backed
give-requires-clause-backed g c = c.loop-index.invariant.acts.backed

pub settled-requires-in-loop-index : goal.settled-requires-in-loop-index
settled-requires-in-loop-index g c = c.give.ensures.acts.backed.disks

pub give-requires-clause-room : goal.give-requires-clause-room
give-requires-clause-room g c =
    omega (arith, c.loop-index.invariant.grows, c.requires.room, c.loop-index-test.true)

pub settled-requires : goal.settled-requires
settled-requires g c = c.requires.backed.disks
