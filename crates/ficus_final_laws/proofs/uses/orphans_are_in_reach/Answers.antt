use Rattle.std.proofs.Common.{inr}
use Rattle.ficus_model.specs.Reached.IsReached.{Base}
use Rattle.ficus_final_laws.proofs.uses.orphans_are_in_reach.Goals as goal

pub returns : goal.returns
returns c = λ H replica object orphan. Base (inr orphan)
