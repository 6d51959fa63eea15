use Rattle.std.proofs.Common.{arith}
use Rattle.std.proofs.lemmas.Grind.{common_steps}
use Rattle.ficus_names.proofs.Neighbours.{answers}
use Rattle.ficus_names.proofs.binding.is_shared.Goals as goal

pub returns-then-have_same_name : goal.returns-then-have_same_name
returns-then-have_same_name c =
    answers _ c.requires.rising c.args.index c.index-bindings-index.result _ c.requires.within c.index-bindings-index.is (grind (arith, common_steps))

pub returns-then-index-bindings : goal.returns-then-index-bindings
returns-then-index-bindings c =
    answers _ c.requires.rising c.args.index c.index-bindings-index.result _ c.requires.within c.index-bindings-index.is (grind (arith, common_steps))

pub returns-else-index-bindings : goal.returns-else-index-bindings
returns-else-index-bindings c =
    answers _ c.requires.rising c.args.index c.index-bindings-index.result _ c.requires.within c.index-bindings-index.is (grind (arith, common_steps))
