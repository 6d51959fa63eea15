use Rattle.std.proofs.Common.{sym, ◌∙◌}
use Rattle.std.proofs.lemmas.Bool.{true≢false}
use Rattle.ficus_script.proofs.ArgumentLaws.{no_kind, no_second_path, no_text}
use Rattle.ficus_script.proofs.arguments.path_and_last.Goals as goal

pub returns-in_err-text : goal.returns-in_err-text
returns-in_err-text c =
    rw c.from_residual.ensures
    (no_text c.args.paths.now.first c.args.last.now (c.begins_text.ensures.0 c.if-begins_text.true)
    c.in_err-text.ensures.none)

pub returns-in_err-read : goal.returns-in_err-read
returns-in_err-read c =
    rw c.from_residual-in_err-read.ensures
    (no_second_path c.args.paths.now.first c.args.last.now (c.begins_path.ensures.0 c.if-begins_path.true)
    c.in_err-read.ensures.none)

pub returns-in_err-kind : goal.returns-in_err-kind
returns-in_err-kind c =
    rw c.from_residual-in_err-kind.ensures
    (no_kind c.args.paths.now.first c.args.last.now
    (λ begins. true≢false (sym (c.begins_text.ensures.1 begins) ∙ c.if-begins_text.false))
    (λ begins. true≢false (sym (c.begins_path.ensures.1 begins) ∙ c.if-begins_path.false))
    c.in_err-kind.ensures.none)
