use Rattle.std.proofs.Common.{sym, ◌∙◌, inr}
use Rattle.ficus_script.proofs.Scripts.{adds_line}
use Rattle.ficus_script.proofs.script.take_line.Goals as goal

pub returns-in_err-push-clause-memory : goal.returns-in_err-push-clause-memory
returns-in_err-push-clause-memory g c = λ is.
    inr (g.met.G.Grammar.spelled c.args.grammar.now c.in_ok-read.field-0 c.args.line.now c.in_ok-read.ensures)

pub returns-in_ok-push-clause-taken : goal.returns-in_ok-push-clause-taken
returns-in_ok-push-clause-taken g c =
    adds_line _ _ c.args.line.now c.args.lines.now.items c.push.new.self.items c.in_ok-read.field-0
    (sym c.is_passed_over.ensures ∙ c.if-not-is_passed_over.true) c.in_ok-push.ensures.items c.in_ok-read.ensures
    (g.met.G.Grammar.spelled c.args.grammar.now c.in_ok-read.field-0 c.args.line.now c.in_ok-read.ensures)
