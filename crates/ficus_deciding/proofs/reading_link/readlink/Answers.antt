use Rattle.std.proofs.Common.{◌≡◌, ap, inl, rules}
use Rattle.ficus_commands.specs.declared.told.Told.TheVariants.{Text}
use Rattle.ficus_file.specs.FileLaws.{one_text_settled}
use Rattle.ficus_rules.specs.ReadLink.{ReadLinkRule}
use Rattle.ficus_rules.specs.Walk.{FixedRule}
use Rattle.ficus_rules.proofs.Rules.{behind}
use Rattle.ficus_rules.proofs.Walks.{fixed_never, fixed_once}
use Rattle.ficus_deciding.specs.View.{tables_view}
use Rattle.ficus_deciding.proofs.Refusals.{told_stopped, told_wanted}
use Rattle.ficus_deciding.proofs.Tables.{file_fits}
use Rattle.ficus_deciding.proofs.reading_link.readlink.Goals as goal

pub returns-in_err-file : goal.returns-in_err-file
returns-in_err-file c =
    let view = tables_view c.args.saved.now in
    let path = c.args.path.now in
    told_stopped _ (FixedRule view path) (ReadLinkRule view path) (fixed_never view path) (λ refusal stops. inl stops) _ _
    c.in_err-file.ensures.rule _ c.from_residual.ensures.1

pub returns-in_err-to_vec : goal.returns-in_err-to_vec
returns-in_err-to_vec c =
    let view = tables_view c.args.saved.now in
    let path = c.args.path.now in
    told_wanted _ (ReadLinkRule view path) _ _ c.from_residual-in_err-to_vec.ensures.1
    (λ refusal refuses. behind (fixed_once view path) c.in_ok-file.file.now.id c.in_ok-file.ensures.rule refuses)

pub text_of-requires-clause-one_text : goal.text_of-requires-clause-one_text
text_of-requires-clause-one_text c =
    let file = c.in_ok-file.ensures in one_text_settled ((file_fits c.requires file.file.object).well_formed.fixed file.fixed)

pub returns : goal.returns
returns c =
    let copied : c.in_ok-to_vec.field-0.items ≡ c.text_of.result.now = search rules in (
      c.in_ok-file.file.now.id,
      c.in_ok-file.ensures.rule,
      (_, c.text_of.ensures, ap Text copied),
    )
