use Rattle.std.proofs.Common.{rules, ◌∙◌, sym, arith}
use Rattle.ficus_words.proofs.NumberLaws.{one_number}
use Rattle.ficus_words.proofs.numbers.number_in.Goals.{else-least-number-via-then-least-number+else-number-most, else-least-number-via-else-least-number}
use Rattle.ficus_words.proofs.numbers.number_in.Goals as goal

pub returns-else-least-number-clause-none : goal.returns-else-least-number-clause-none
returns-else-least-number-clause-none c =
    λ number asked.
    let one = one_number c.args.text c.in_ok-text.field-0 c.in_ok-number.number number c.args.least c.args.most
    (omega arith) (omega arith) (search rules) (sym c.as_bytes.ensures.value ∙ c.in_ok-number.ensures.found) asked in
    elim c.else-least-number.branch [
      | else-least-number-via-then-least-number+else-number-most w ↦ absurd (omega (arith, one, asked.at_most, w.if-number-most))
      | else-least-number-via-else-least-number w ↦ absurd (omega (arith, one, asked.at_least, w.if-least-number))
    ]
