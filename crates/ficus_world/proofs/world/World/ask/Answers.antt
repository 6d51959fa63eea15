use Rattle.std.proofs.Common.{◌≡◌, Err, subst}
use Rattle.std.proofs.lemmas.Result.{err_from_is_err_and}
use Rattle.ficus_ids.specs.declared.refusal.Refusal.TheVariants.{Memory}
use Rattle.ficus_runs.specs.Sequence.{unchanged}
use Rattle.ficus_world.specs.Moves.{KeepsAsk, MayAsk}
use Rattle.ficus_world.specs.World.{Whole}
use Rattle.ficus_world.proofs.Carrying.{carried_none, or_refused, whole_is}
use Rattle.ficus_world.proofs.Acting.{acts_none}
use Rattle.ficus_world.proofs.world.World.ask.Goals as goal

pub returns-in_err-may_ask : goal.returns-in_err-may_ask
returns-in_err-may_ask g c =
    let residual = err_from_is_err_and c.from_residual.result c.from_residual.ensures.1 in
    let old = c.args.self.now.whole in
    let r = c.in_err-may_ask.field-0.0 in
    let never = c.in_err-may_ask.ensures.refused.0 in
    let refused = subst (λ (w : Whole). KeepsAsk g.L.Link.tells c.args.by c.args.to w (Err r) (unchanged w))
    (whole_is c.self.view_is) c.in_err-may_ask.ensures.refused.1 in
    rw (residual.1, residual.2)
    (record {
      asks =
          carried_none (KeepsAsk g.L.Link.tells c.args.by c.args.to) (Err r) old c.args.disks.now.items
          (or_refused (λ given. KeepsAsk g.L.Link.tells c.args.by c.args.to old given (unchanged old)) r (λ _. refused));
      wants = λ is. let same : r ≡ Memory = cc in absurd (never same);
      acts = acts_none c.requires.backed;
    })

pub ask_peer-requires-clause-may : goal.ask_peer-requires-clause-may
ask_peer-requires-clause-may g c =
    subst (λ (w : Whole). MayAsk w c.args.by c.args.to) (whole_is c.self.view_is) c.in_ok-may_ask.ensures.may
