use Rattle.std.proofs.Common.{◌≡◌, Some, None, sym, ◌∙◌, ap}
use Rattle.ficus_script.specs.Arguments.{bytes_of}
use Rattle.ficus_script.proofs.Cuts.{leading_number}
use Rattle.ficus_script.proofs.line.cut_replica.Goals as goal

pub returns-in_default-clause-none : goal.returns-in_default-clause-none
returns-in_default-clause-none c = λ replica rest number same.
    let parts = leading_number c.args.line.now _ _ replica rest number c.cut_at.ensures.front c.cut_at.ensures.whole same in
    let none : None ≡ Some rest = sym (ap bytes_of c.in_default.is) ∙ parts.1 in
    cc

pub returns-in-None-clause-none : goal.returns-in-None-clause-none
returns-in-None-clause-none c = λ replica rest number same.
    c.in-None.ensures.none replica number (leading_number c.args.line.now _ _ replica rest number c.cut_at.ensures.front c.cut_at.ensures.whole same).0
