use Rattle.std.proofs.Common.{refl}
use Rattle.std.proofs.lemmas.Result.{IfOk-weaker}
use Rattle.ficus_reach.specs.ReachedLaws.{IsReached-along}
use Rattle.ficus_deciding.proofs.Trees.{leads_from, leads_into}
use Rattle.ficus_deciding.proofs.renaming.is_within.Goals as goal

pub returns-clause-within : goal.returns-clause-within
returns-clause-within c =
    IfOk-weaker c.below.result _ _ (λ within tells. (
      λ is. record {
        directory = c.if-not-is_directory.ensures.0 refl;
        reached = IsReached-along (leads_from c.args.saved.now) (λ base is. is) (tells.0 is);
      },
      λ is. tells.1 (IsReached-along (leads_into c.args.saved.now) (λ base is. is) is.reached),
    )) c.below.ensures
