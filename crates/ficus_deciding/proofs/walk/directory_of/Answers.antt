use Rattle.std.proofs.Common.{refl, inl, inr}
use Rattle.ficus_deciding.proofs.Refusals.{isnt}
use Rattle.ficus_deciding.proofs.walk.directory_of.Goals as goal

pub returns-then-not-is_directory : goal.returns-then-not-is_directory
returns-then-not-is_directory c =
    inr (c.in_ok-object.object, c.in_ok-object.ensures.rule, inl (isnt c.if-not-is_directory.ensures, refl))
