use Rattle.std.proofs.Common.{refl, sym, ◌∙◌}
use Rattle.ficus_member.proofs.Calls.{made_of_words, run_of_words}
use Rattle.ficus_member.proofs.program.carry_out.Goals as goal

pub returns-in-Init-clause-does : goal.returns-in-Init-clause-does
returns-in-Init-clause-does g c =
    rw c.in-Init.is
    (record {
      made = c.init.result;
      ends = c.as_ended.ensures;
      unread = refl;
      silent = refl;
      unposted = refl;
      makes = c.init.ensures;
    })

pub returns-in-Init-clause-read : goal.returns-in-Init-clause-read
returns-in-Init-clause-read g c = λ fault is. made_of_words c.init.result fault (sym c.as_ended.ensures ∙ is)

pub returns-in-Run-clause-does : goal.returns-in-Run-clause-does
returns-in-Run-clause-does g c = rw c.in-Run.is c.run.ensures

pub returns-in-Run-clause-read : goal.returns-in-Run-clause-read
returns-in-Run-clause-read g c = run_of_words c.run.result c.run.ensures
