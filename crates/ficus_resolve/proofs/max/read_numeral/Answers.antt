use Rattle.ficus_resolve.proofs.Numerals.{no_numeral, IsUtf8-numeral}
use Rattle.ficus_resolve.proofs.max.read_numeral.Goals as goal

pub returns-in-Ok-clause-none : goal.returns-in-Ok-clause-none
returns-in-Ok-clause-none c =
    let parsed = rw c.in-Ok.ensures.cases.0 at c.parse.ensures.value.0 in
    rw c.ok.ensures.value (no_numeral c.args.content.now c.parse.result parsed)

pub returns-in-Err-clause-none : goal.returns-in-Err-clause-none
returns-in-Err-clause-none c = λ numeral. c.in-Err.ensures.cases.0 (IsUtf8-numeral c.args.content.now numeral)
