use Rattle.std.proofs.Common.{rules, arith}
use Rattle.ficus_machine.specs.Moments.Noting.{Rests, TakesRoom}
use Rattle.ficus_machine.proofs.noting.prepare_note.Goals as goal

pub returns-then-is_full-clause-noting : goal.returns-then-is_full-clause-noting
returns-then-is_full-clause-noting g c = Rests

pub returns-in_err-prepare-clause-noting : goal.returns-in_err-prepare-clause-noting
returns-in_err-prepare-clause-noting g c = TakesRoom c.prepare.ensures.keeps

pub returns : goal.returns
returns g c = record {
  prepares = record {
    asked = c.prepare.ensures.asked;
    ready = λ tells. c.prepare.ensures.ready tells (c.requires.ready tells);
    prepared = c.in_ok-prepare.ensures.room;
    next = omega (arith, c.if-is_full.ensures.more, c.prepare.ensures.generation);
    asks = record {
      failed = λ never. absurd (cc);
      steady = c.prepare.ensures.spares.steady;
      spared = λ never. absurd (cc);
      risen = search rules;
    };
  };
  noting = TakesRoom c.prepare.ensures.keeps;
}
