use Rattle.std.proofs.Common.{refl, ◌∙◌}
use Rattle.std.proofs.lemmas.List.{append_assoc}
use Rattle.ficus_resolve.proofs.keep.headline.Goals as goal

pub returns : goal.returns
returns c = rw c.into_bytes.ensures.value (c.in_ok-format.ensures.ok ∙ simp append_assoc refl)
