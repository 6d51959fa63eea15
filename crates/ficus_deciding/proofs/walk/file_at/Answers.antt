use Rattle.std.proofs.Common.{ap, refl, sym, ◌∙◌, inl, inr}
use Rattle.ficus_file.specs.Files.{id_of}
use Rattle.ficus_deciding.proofs.Refusals.{isnt}
use Rattle.ficus_deciding.proofs.walk.file_at.Goals as goal

pub returns-then-is_directory-clause-rule : goal.returns-then-is_directory-clause-rule
returns-then-is_directory-clause-rule c =
    let led = rw c.items.ensures at c.in_ok-object.ensures.rule in
    inr (c.in_ok-object.object, led, inl (c.if-is_directory.ensures.0 refl, refl))

pub returns-clause-rule : goal.returns-clause-rule
returns-clause-rule c =
    let led = rw c.items.ensures at c.in_ok-object.ensures.rule in
    let is = ap id_of (sym c.visible.ensures.so) ∙ c.visible.ensures.has_id in
    (c.in_ok-object.object, led, (isnt c.if-is_directory.ensures, is))

pub visible-requires-clause-visible : goal.visible-requires-clause-visible
visible-requires-clause-visible c = elim c.in_ok-object.ensures.shown [
  | inl root ↦ absurd (isnt c.if-is_directory.ensures (inl root))
  | inr visible ↦ visible
]
