use Rattle.std.proofs.Common.{inl}
use Rattle.ficus_rules.specs.Versions.{VersionsRule}
use Rattle.ficus_rules.specs.Walk.{VersionedRule}
use Rattle.ficus_rules.proofs.Rules.{behind}
use Rattle.ficus_rules.proofs.Walks.{versioned_never, versioned_once}
use Rattle.ficus_deciding.specs.View.{tables_view}
use Rattle.ficus_deciding.proofs.Refusals.{told_stopped, told_wanted}
use Rattle.ficus_deciding.proofs.all_versions.versions.Goals as goal

pub returns-in_err-file : goal.returns-in_err-file
returns-in_err-file c =
    let view = tables_view c.args.saved.now in
    let path = c.args.path.now in
    told_stopped _ (VersionedRule view path) (VersionsRule view path) (versioned_never view path) (λ refusal stops. inl stops) _ _
    c.in_err-file.ensures.rule _ c.from_residual.ensures.1

pub returns-in_err-copies : goal.returns-in_err-copies
returns-in_err-copies c =
    let view = tables_view c.args.saved.now in
    let path = c.args.path.now in
    told_wanted _ (VersionsRule view path) _ _ c.from_residual-in_err-copies.ensures.1
    (λ refusal refuses. behind (versioned_once view path) c.in_ok-file.file.now.id c.in_ok-file.ensures.rule refuses)
