use Rattle.std.proofs.Common.{arith}
use Rattle.ficus_top.proofs.graft.OneRoute.{one_route}
use Rattle.ficus_top.proofs.graft.laws.one_route.Goals as goal

pub returns : goal.returns
returns c = λ count line looks more ending other few route also. one_route count (omega (arith, few.at_most)) line route also
