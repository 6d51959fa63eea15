use Rattle.std.proofs.Common.{refl, inl, inr}
use Rattle.ficus_ids.specs.KindLaws.{versioned_kind}
use Rattle.ficus_ids.specs.declared.kind.Sort.TheVariants.{Fixed}
use Rattle.ficus_deciding.proofs.Refusals.{isnt}
use Rattle.ficus_deciding.proofs.Tables.{for_of_file}
use Rattle.ficus_deciding.proofs.walk.versioned_at.Goals as goal

pub returns-then-is_fixed-clause-rule : goal.returns-then-is_fixed-clause-rule
returns-then-is_fixed-clause-rule c =
    let file = c.in_ok-file.ensures.file in
    inr (
      c.in_ok-file.file.now.id,
      c.in_ok-file.ensures.rule,
      inl ((for_of_file c.requires file.object Fixed).0 (c.if-is_fixed.ensures.0 refl), refl),
    )

pub returns-clause-rule : goal.returns-clause-rule
returns-clause-rule c =
    let file = c.in_ok-file.ensures.file in (
      c.in_ok-file.file.now.id,
      c.in_ok-file.ensures.rule,
      (λ fixed. isnt c.if-is_fixed.ensures ((for_of_file c.requires file.object Fixed).1 fixed), refl),
    )

pub returns-clause-versioned : goal.returns-clause-versioned
returns-clause-versioned c =
    versioned_kind c.in_ok-file.file.now.kind c.in_ok-file.ensures.file.is_file (isnt c.if-is_fixed.ensures)
