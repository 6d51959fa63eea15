use Rattle.std.proofs.Common.{◌≡◌, ◌∷◌, [], Err, refl, subst, arith}
use Rattle.std.proofs.lemmas.Result.{err_from_is_err_and}
use Rattle.ficus_script.specs.declared.command.Command.TheVariants.{Stop as Stops}
use Rattle.ficus_runs.specs.Numbered.{IsNumbered}
use Rattle.ficus_runs.specs.Outcome.{IsArmed}
use Rattle.ficus_runs.specs.Sequence.{unchanged}
use Rattle.ficus_runs.specs.Sequence.First.{Goes}
use Rattle.ficus_opening.specs.declared.member.Member.{Member}
use Rattle.ficus_opening.specs.declared.member.MemberState.TheVariants.{Up}
use Rattle.ficus_world.specs.Moves.{FindsUp}
use Rattle.ficus_world.specs.Moves.ArmsDisks.{Arms, ArmsNone}
use Rattle.ficus_world.specs.Moves.FindsUp.{FindsAt}
use Rattle.ficus_world.specs.World.{Whole}
use Rattle.ficus_runs.proofs.Numbers.{number_once}
use Rattle.ficus_world.proofs.Carrying.{whole_is}
use Rattle.ficus_world.proofs.Moved.{comes_to_none, up_ends}
use Rattle.ficus_world.specs.Kills.Touches.{TouchesOne}
use Rattle.ficus_world.proofs.Acting.{acts_none}
use Rattle.ficus_opening.proofs.Rests.{rests_count}
use Rattle.ficus_world.proofs.world.World.stop.Goals as goal

pub returns-in_err-up : goal.returns-in_err-up
returns-in_err-up g c =
    let refused = err_from_is_err_and c.from_residual.result c.from_residual.ensures.1 in
    let old = c.args.self.now.whole in
    rw (refused.1, refused.2)
    (record {
      moves =
          comes_to_none g.L.Link.tells g.K.Keep g.D.Disk old (Stops c.args.by c.args.calls c.args.pick) _ c.args.disks.now.items
          (up_ends _ _ c.args.by old c.in_err-up.field-0.0 (unchanged old)
          (subst (λ (w : Whole). FindsUp c.args.by w (Err c.in_err-up.field-0.0) (unchanged w)) (whole_is c.self.view_is)
          c.in_err-up.ensures.refused));
      acts = acts_none c.requires.backed;
    })

pub returns-then-not-branch : goal.returns-then-not-branch
returns-then-not-branch g c =
    let old = c.args.self.now.whole in
    let was = c.in_ok-up.field-0.now in
    let is = subst (λ (w : Whole). IsNumbered w.members c.args.by was) (whole_is c.self.view_is) c.in_ok-up.ensures.is in
    record {
      moves =
          comes_to_none g.L.Link.tells g.K.Keep g.D.Disk old (Stops c.args.by c.args.calls c.args.pick) _ c.args.disks.now.items
          (Goes (FindsAt is c.in_ok-up.ensures.up) (ArmsNone c.if-not-branch.true));
      acts = acts_none c.requires.backed;
    }

pub returns : goal.returns
returns g c =
    let was = c.in_ok-up.field-0.now in
    let is = subst (λ (w : Whole). IsNumbered w.members c.args.by was) (whole_is c.self.view_is) c.in_ok-up.ensures.is in
    let armed = c.arm_at.ensures.follows c.args.self.now.whole.members (λ found here.
    subst (λ (m : Member). m.state ≡ Up) (number_once is here) c.in_ok-up.ensures.up) in
    record {
      moves = record {
        outcomes = IsArmed c.args.by c.args.calls c.args.pick ∷ [];
        does = Goes (FindsAt is c.in_ok-up.ensures.up) (Arms c.if-not-branch.false);
        disks = armed.disks;
        fuses = armed.fuses;
      };
      acts = record {
        grows = omega arith;
        members = refl;
        stables = refl;
        memory = λ is. absurd (cc);
        touches = TouchesOne is.member c.arm_at.ensures.rests;
        spared = λ same. c.arm_at.ensures.spared;
        backed = record {
          pairs = omega (arith, c.requires.backed.pairs, rests_count c.arm_at.ensures.rests);
          disks = c.arm_at.ensures.disks c.args.self.now.stables c.args.self.now.whole.members c.args.self.now.whole.members
              refl c.requires.backed.disks;
        };
      };
    }

pub arm_at-requires-clause-pair : goal.arm_at-requires-clause-pair
arm_at-requires-clause-pair g c =
    let was = c.in_ok-up.field-0.now in
    let is = subst (λ (w : Whole). IsNumbered w.members c.args.by was) (whole_is c.self.view_is) c.in_ok-up.ensures.is in
    record { at_least = is.member.at_least; at_most = omega (arith, is.member.at_most, c.requires.backed.pairs) }
