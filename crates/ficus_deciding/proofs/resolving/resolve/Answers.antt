use Rattle.std.proofs.Common.{length, refl, inl, inr}
use Rattle.std.proofs.lemmas.Result.{err_from_is_err_and}
use Rattle.ficus_model.specs.declared.event.Op.TheVariants.{Resolve}
use Rattle.ficus_rules.specs.Limits.{LimitsRule}
use Rattle.ficus_rules.specs.Resolve.{NeedsResolver, ResolveRule}
use Rattle.ficus_rules.specs.Rule.{Gives}
use Rattle.ficus_rules.specs.Walk.{VersionedRule}
use Rattle.ficus_rules.proofs.Limits.{limits_never}
use Rattle.ficus_rules.proofs.Rules.{refusal_along}
use Rattle.ficus_rules.proofs.Walks.{versioned_never}
use Rattle.ficus_deciding.specs.Files.{ResolvedWithin}
use Rattle.ficus_deciding.specs.View.{tables_view}
use Rattle.ficus_deciding.proofs.Refusals.{isnt, is_resolved, not_resolved, stopped}
use Rattle.ficus_deciding.proofs.resolving.resolve.Goals as goal

pub returns-in_err-file : goal.returns-in_err-file
returns-in_err-file c =
    let view = tables_view c.args.saved.now in
    let path = c.args.path.now in
    stopped _ (VersionedRule view path) (ResolveRule view path) (versioned_never view path) (λ refusal stops. inl stops) _
    c.in_err-file.ensures.rule _ c.from_residual.ensures.1

pub returns-then-not-is_conflict : goal.returns-then-not-is_conflict
returns-then-not-is_conflict c =
    inr (c.in_ok-file.file.now.id, c.in_ok-file.ensures.rule, inl (isnt c.if-not-is_conflict.ensures, refl))

pub returns-in_err-bytes : goal.returns-in_err-bytes
returns-in_err-bytes c =
    let view = tables_view c.args.saved.now in
    let file = c.in_ok-file.file.now.id in
    let walked = c.in_ok-file.ensures.rule in
    let conflict = c.if-not-is_conflict.ensures.0 refl in
    let needs : NeedsResolver view c.args.path.now = record { file = file; walked = walked; conflict = conflict } in
    let given = err_from_is_err_and c.from_residual-in_err-bytes.result c.from_residual-in_err-bytes.ensures.1 in
    rw (given.1, given.2)
    (refusal_along (ResolvedWithin view file) (ResolveRule view c.args.path.now) _
    (λ lacks. inr needs)
    (λ refused. inr (file, walked, inr (conflict, not_resolved view file (Resolve file) _ refused)))
    c.in_err-bytes.ensures)

pub returns-in_err-within : goal.returns-in_err-within
returns-in_err-within c =
    let view = tables_view c.args.saved.now in
    let file = c.in_ok-file.file.now.id in
    let bytes = c.in_ok-bytes.bytes in
    let limits = rw c.items.ensures at c.in_err-within.ensures in
    stopped _ (LimitsRule view (length bytes) (Gives {B = Unit {0}} tt)) (ResolveRule view c.args.path.now)
    (limits_never {B = Unit {0}} view (length bytes) tt)
    (λ refusal over. inr (
      file,
      c.in_ok-file.ensures.rule,
      inr (
        c.if-not-is_conflict.ensures.0 refl,
        inr (
          bytes,
          is_resolved view file bytes c.in_ok-bytes.ensures,
          over,
        ),
      ),
    )) _ limits _ c.from_residual-in_err-within.ensures.1
