use Rattle.std.proofs.Common.{refl, inl, inr}
use Rattle.ficus_ids.specs.declared.refusal.Refusal.TheVariants.{Conflict}
use Rattle.ficus_model.specs.declared.event.Op.TheVariants.{Write}
use Rattle.ficus_rules.specs.Walk.{VersionedRule}
use Rattle.ficus_rules.specs.Write.{WriteRule}
use Rattle.ficus_rules.proofs.Walks.{versioned_never}
use Rattle.ficus_deciding.specs.View.{tables_view}
use Rattle.ficus_deciding.proofs.Refusals.{by_bytes_stopped, isnt, stopped}
use Rattle.ficus_deciding.proofs.writing.write.Goals as goal

pub returns-in_err-file : goal.returns-in_err-file
returns-in_err-file c =
    let view = tables_view c.args.saved.now in
    let path = c.args.path.now in
    stopped _ (VersionedRule view path) (WriteRule view path c.args.bytes.now) (versioned_never view path)
    (λ refusal stops. inl stops) _ c.in_err-file.ensures.rule _ c.from_residual.ensures.1

pub returns-then-is_conflict : goal.returns-then-is_conflict
returns-then-is_conflict c =
    inr (c.in_ok-file.file.now.id, c.in_ok-file.ensures.rule, inl (c.if-is_conflict.ensures.0 refl, refl))

pub returns-in_err-bytes : goal.returns-in_err-bytes
returns-in_err-bytes c =
    let conflicts = (tables_view c.args.saved.now).conflicts in
    by_bytes_stopped (tables_view c.args.saved.now) c.args.path.now c.args.bytes.now conflicts (λ file. conflicts file → ⊥) Conflict
    (λ file. Write file c.args.bytes.now) c.in_ok-file.file.now.id c.in_ok-file.ensures.rule
    (isnt c.if-is_conflict.ensures) (isnt c.if-is_conflict.ensures) _ c.in_err-bytes.ensures _
    c.from_residual-in_err-bytes.ensures.1
