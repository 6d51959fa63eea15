use Rattle.std.proofs.Common.{length}
use Rattle.ficus_rules.specs.Limits.{LimitsUpTo}
use Rattle.ficus_rules.specs.Rule.{Gives}
use Rattle.ficus_rules.proofs.Limits.{up_to_never, up_to_passed}
use Rattle.ficus_deciding.specs.View.{tables_view}
use Rattle.ficus_deciding.proofs.Refusals.{stopped, wanted}
use Rattle.ficus_deciding.proofs.limits.bytes_within.Goals as goal

pub returns-in_err-within : goal.returns-in_err-within
returns-in_err-within c =
    let view = tables_view c.args.saved.now in
    let bytes = c.args.bytes.now in
    stopped _ (LimitsUpTo c.args.most view (length bytes) (Gives {B = Unit {0}} tt))
    (LimitsUpTo c.args.most view (length bytes) (Gives bytes))
    (up_to_never {B = Unit {0}} c.args.most view (length bytes) tt) (λ refusal over. over) _ c.in_err-within.ensures _
    c.from_residual.ensures.1

pub returns-in_err-bytes : goal.returns-in_err-bytes
returns-in_err-bytes c =
    let view = tables_view c.args.saved.now in
    let bytes = c.args.bytes.now in
    wanted _ (LimitsUpTo c.args.most view (length bytes) (Gives bytes)) _ c.from_residual-in_err-bytes.ensures.1
    (λ refusal refuses. up_to_passed c.args.most view (length bytes) _ _ (Gives bytes) refusal c.in_ok-within.ensures refuses)
