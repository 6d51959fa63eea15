use Rattle.std.proofs.Common.{◌≡◌, refl, ap, inl, inr, rules}
use Rattle.ficus_commands.specs.declared.told.Told.TheVariants.{Text}
use Rattle.ficus_file.specs.Version.{HasTwoTexts}
use Rattle.ficus_rules.specs.Read.{ReadRule}
use Rattle.ficus_rules.specs.Walk.{VersionedRule}
use Rattle.ficus_rules.proofs.Rules.{behind, passed}
use Rattle.ficus_rules.proofs.Walks.{versioned_never, versioned_once}
use Rattle.ficus_deciding.specs.View.{tables_view}
use Rattle.ficus_deciding.proofs.Refusals.{isnt, told_stopped, told_wanted}
use Rattle.ficus_deciding.proofs.Tables.{so_of_file}
use Rattle.ficus_deciding.proofs.reading.read.Goals as goal

pub returns-in_err-file : goal.returns-in_err-file
returns-in_err-file c =
    let view = tables_view c.args.saved.now in
    let path = c.args.path.now in
    told_stopped _ (VersionedRule view path) (ReadRule view path) (versioned_never view path) (λ refusal stops. inl stops) _ _
    c.in_err-file.ensures.rule _ c.from_residual.ensures.1

pub returns-then-is_conflict : goal.returns-then-is_conflict
returns-then-is_conflict c =
    inr (c.in_ok-file.file.now.id, c.in_ok-file.ensures.rule, inl (c.if-is_conflict.ensures.0 refl, refl))

pub returns-in_err-to_vec : goal.returns-in_err-to_vec
returns-in_err-to_vec c =
    let view = tables_view c.args.saved.now in
    let path = c.args.path.now in
    told_wanted _ (ReadRule view path) _ _ c.from_residual-in_err-to_vec.ensures.1
    (λ refusal refuses. passed (isnt c.if-is_conflict.ensures)
    (behind (versioned_once view path) c.in_ok-file.file.now.id c.in_ok-file.ensures.rule refuses))

pub text_of-requires-clause-one_text : goal.text_of-requires-clause-one_text
text_of-requires-clause-one_text c =
    let conflict = so_of_file c.requires c.in_ok-file.ensures.file.object (λ file. HasTwoTexts file.versions) in
    λ two. isnt c.if-is_conflict.ensures (conflict.0 two)

pub returns : goal.returns
returns c =
    let copied : c.in_ok-to_vec.field-0.items ≡ c.text_of.result.now = search rules in (
      c.in_ok-file.file.now.id,
      c.in_ok-file.ensures.rule,
      (isnt c.if-is_conflict.ensures, (_, c.text_of.ensures, ap Text copied)),
    )
