use Rattle.std.proofs.Common.{◌↔◌, Contains, sym, subst}
use Rattle.std.specs.Prelude.{Bool, IsTrue}
use Rattle.ficus_ids.specs.Id.{id_cmp}
use Rattle.ficus_reach.proofs.found.Found.has.Goals as goal

pub returns : goal.returns
unfolding id_cmp
returns c =
    subst (λ (found : Bool). IsTrue found ↔ Contains c.args.self.now.order.items c.args.object) (sym c.contains.ensures)
    (c.requires.same c.args.object)
