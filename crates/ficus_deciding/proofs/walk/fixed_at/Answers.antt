use Rattle.std.proofs.Common.{ap, refl, sym, ◌∙◌, inl, inr}
use Rattle.ficus_ids.specs.declared.kind.Sort.TheVariants.{Fixed}
use Rattle.ficus_file.specs.Files.{id_of}
use Rattle.ficus_deciding.proofs.Refusals.{isnt}
use Rattle.ficus_deciding.proofs.Sound.{directory_not_fixed}
use Rattle.ficus_deciding.proofs.Tables.{for_of_file}
use Rattle.ficus_deciding.proofs.walk.fixed_at.Goals as goal

pub returns-then-is_directory-clause-rule : goal.returns-then-is_directory-clause-rule
returns-then-is_directory-clause-rule c =
    let led = rw c.items.ensures at c.in_ok-object.ensures.rule in
    inr (
      c.in_ok-object.object,
      led,
      inl (λ fixed. directory_not_fixed c.requires (c.if-is_directory.ensures.0 refl) fixed, refl),
    )

pub returns-then-not-is_fixed-clause-rule : goal.returns-then-not-is_fixed-clause-rule
returns-then-not-is_fixed-clause-rule c =
    let led = rw c.items.ensures at c.in_ok-object.ensures.rule in
    inr (
      c.in_ok-object.object,
      led,
      inl (λ fixed. isnt c.if-not-is_fixed.ensures ((for_of_file c.requires c.visible-file.ensures Fixed).1 fixed), refl),
    )

pub returns-clause-rule : goal.returns-clause-rule
returns-clause-rule c =
    let led = rw c.items.ensures at c.in_ok-object.ensures.rule in
    let is = ap id_of (sym c.visible-file.ensures.so) ∙ c.visible-file.ensures.has_id in
    (c.in_ok-object.object, led, ((for_of_file c.requires c.visible-file.ensures Fixed).0 (c.if-not-is_fixed.ensures.0 refl), is))

pub visible-file-requires-clause-visible : goal.visible-file-requires-clause-visible
visible-file-requires-clause-visible c = elim c.in_ok-object.ensures.shown [
  | inl root ↦ absurd (isnt c.if-is_directory.ensures (inl root))
  | inr visible ↦ visible
]
