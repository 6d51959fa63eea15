use Rattle.std.proofs.Common.{refl}
use Rattle.ficus_ids.specs.Id.{id_cmp}
use Rattle.ficus_ids.proofs.id.id_order.Goals as goal

pub returns : goal.returns
unfolding id_cmp
returns c = λ a b. refl
