use Rattle.ficus_world.specs.Moves.FindsTaker.{AnswersNone, TakerDown}
use Rattle.ficus_world.proofs.Gathered.{fitting_found, fitting_refused}
use Rattle.ficus_world.proofs.Tests.{untrue}
use Rattle.ficus_world.proofs.group.Group.fitting.Goals as goal

pub returns-then-not-is_up-clause-refused : goal.returns-then-not-is_up-clause-refused
returns-then-not-is_up-clause-refused g c = (
  (λ e. cc),
  TakerDown c.member-member.ensures.is (untrue c.is_up.result c.is_up.ensures c.if-not-is_up.true),
)

pub returns-then-not-waits_for-clause-refused : goal.returns-then-not-waits_for-clause-refused
returns-then-not-waits_for-clause-refused g c = (
  (λ e. cc),
  AnswersNone c.member-member.ensures.is (c.is_up.ensures.0 c.if-not-is_up.false)
      (untrue c.waits_for.result c.waits_for.ensures c.if-not-waits_for.true),
)

pub returns-clause-fits : goal.returns-clause-fits
returns-clause-fits g c =
    fitting_found c.args.came c.args.head c.args.self.now c.member-member.result.now (record {
      is = c.member-member.ensures.is;
      up = c.is_up.ensures.0 c.if-not-is_up.false;
      open_ask = c.waits_for.ensures.0 c.if-not-waits_for.false;
    }) c.fitting_in.result c.fitting_in.ensures.fits

pub returns-clause-refused : goal.returns-clause-refused
returns-clause-refused g c =
    fitting_refused c.args.came c.args.head c.args.self.now c.member-member.result.now (record {
      is = c.member-member.ensures.is;
      up = c.is_up.ensures.0 c.if-not-is_up.false;
      open_ask = c.waits_for.ensures.0 c.if-not-waits_for.false;
    }) c.fitting_in.result c.fitting_in.ensures.mixed c.fitting_in.ensures.otherwise c.fitting_in.ensures.refused
