use Rattle.std.proofs.Common.{Ok, ap, arith, ◌∙◌}
use Rattle.std.proofs.lemmas.Result.{err_from_is_err_and}
use Rattle.ficus_machine.proofs.Gathered.{came_further, first_here, gathers_halted, gathers_none, gathers_taken, given_more, given_none, lives_halted, lives_none, lives_taken, noted_here}
use Rattle.ficus_machine.proofs.machine.Machine.gather.Goals as goal

pub loop-index-init : goal.loop-index-init
loop-index-init g c = given_none c.requires.backed c.requires.ready c.requires.waits c.requires.noted

pub give_at-requires-clause-came : goal.give_at-requires-clause-came
give_at-requires-clause-came g c = came_further c.loop-index.invariant c.requires.came

pub give_at-requires-clause-held : goal.give_at-requires-clause-held
give_at-requires-clause-held g c = first_here c.loop-index.invariant

pub give_at-requires-clause-noted : goal.give_at-requires-clause-noted
give_at-requires-clause-noted g c = noted_here c.loop-index.invariant

pub returns-in_err-give_at : goal.returns-in_err-give_at
returns-in_err-give_at g c =
    let given = err_from_is_err_and c.from_residual.result c.from_residual.ensures.1 in
    rw (given.1, given.2) (record {
      gathers =
          gathers_halted c.loop-index.invariant c.give_at.ensures.gives c.in_err-give_at.field-0.0 (omega arith)
          c.in_err-give_at.was;
      lives =
          lives_halted c.loop-index.invariant c.give_at.ensures.gives c.in_err-give_at.field-0.0
          c.in_err-give_at.was c.give_at.ensures.lives;
    })

pub returns-then-branch : goal.returns-then-branch
returns-then-branch g c =
    let taken = c.in_ok-give_at.was ∙ ap Ok c.if-branch.true in
    record {
      gathers = gathers_taken c.loop-index.invariant c.give_at.ensures.gives (omega arith) taken;
      lives =
          lives_taken c.loop-index.invariant c.give_at.ensures.gives _ taken c.give_at.ensures.lives;
    }

pub loop-index-preserved : goal.loop-index-preserved
loop-index-preserved g c =
    let gave = c.give_at.ensures in
    given_more c.loop-index.invariant gave.gives (c.in_ok-give_at.was ∙ ap Ok c.if-branch.false) gave.held gave.noted
    gave.lives

pub returns : goal.returns
returns g c = record {
  gathers = gathers_none c.loop-index.invariant (omega arith);
  lives = lives_none _ c.loop-index.invariant;
}
