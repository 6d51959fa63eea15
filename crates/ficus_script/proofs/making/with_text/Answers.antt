use Rattle.std.proofs.lemmas.Result.{err_from_is_err_and}
use Rattle.ficus_script.proofs.CommandLaws.{spelled_step}
use Rattle.ficus_script.proofs.making.with_text.Goals as goal

pub returns-in_default : goal.returns-in_default
returns-in_default c =
    let none = c.in_default.ensures c.args.by c.requires.text.0 c.requires.replica c.requires.text.1 in
    rw c.requires.text.1 (λ spelled. none spelled.0 spelled.1 spelled.2)

pub returns-in_err-path : goal.returns-in_err-path
returns-in_err-path c =
    let fault = err_from_is_err_and c.from_residual.result c.from_residual.ensures.1 in
    let is = c.in-Some.ensures c.args.by c.requires.text.0 c.requires.replica c.requires.text.1 in
    rw (fault.1, fault.2, c.requires.text.1) (spelled_step _ (λ may. may) (_, is.0, is.1))

pub returns-in_err-text : goal.returns-in_err-text
returns-in_err-text c =
    let fault = err_from_is_err_and c.from_residual-in_err-text.result c.from_residual-in_err-text.ensures.1 in
    let is = c.in-Some.ensures c.args.by c.requires.text.0 c.requires.replica c.requires.text.1 in
    rw (fault.1, fault.2, c.requires.text.1) (spelled_step _ (λ may. may) (_, is.0, is.1))

pub returns : goal.returns
returns c =
    rw (c.text_command.ensures, c.in_ok-path.ensures, c.of.ensures, c.in_ok-text.ensures)
    (c.in-Some.ensures c.args.by _ c.requires.replica c.in_ok-text.ensures)
