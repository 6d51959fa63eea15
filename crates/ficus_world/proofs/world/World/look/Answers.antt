use Rattle.std.proofs.Common.{Err, subst}
use Rattle.std.proofs.lemmas.Result.{err_from_is_err_and}
use Rattle.ficus_runs.specs.Numbered.{IsNumbered}
use Rattle.ficus_runs.specs.Sequence.{unchanged}
use Rattle.ficus_world.specs.Moves.{FindsUp}
use Rattle.ficus_world.specs.World.{Whole}
use Rattle.ficus_world.proofs.Carrying.{whole_is}
use Rattle.ficus_world.proofs.Moved.{look_moves, look_refused, up_ends}
use Rattle.ficus_world.proofs.world.World.look.Goals as goal

pub returns-in_err-up : goal.returns-in_err-up
returns-in_err-up g c =
    let refused = err_from_is_err_and c.from_residual.result c.from_residual.ensures.1 in
    let old = c.args.self.now.whole in
    let finds = subst (λ (w : Whole). FindsUp c.args.by w (Err c.in_err-up.field-0.0) (unchanged w))
    (whole_is c.self.view_is) c.in_err-up.ensures.refused in
    rw (refused.1, refused.2) (up_ends _ _ c.args.by old c.in_err-up.field-0.0 (unchanged old) finds)

pub returns-in_err-told : goal.returns-in_err-told
returns-in_err-told g c =
    let refused = err_from_is_err_and c.from_residual-in_err-told.result c.from_residual-in_err-told.ensures.1 in
    let was = c.in_ok-up.field-0.now in
    let is = subst (λ (w : Whole). IsNumbered w.members c.args.by was) (whole_is c.self.view_is) c.in_ok-up.ensures.is in
    rw (refused.1, refused.2)
    (look_refused g.L.Link.tells ⊥ c.args.self.now.whole c.args.by was is c.in_ok-up.ensures.up c.args.look.now
    c.in_err-told.field-0.0 c.in_err-told.ensures)

pub returns : goal.returns
returns g c =
    let was = c.in_ok-up.field-0.now in
    let is = subst (λ (w : Whole). IsNumbered w.members c.args.by was) (whole_is c.self.view_is) c.in_ok-up.ensures.is in
    look_moves g.L.Link.tells ⊥ c.args.self.now.whole c.args.by was is c.in_ok-up.ensures.up c.args.look.now
    c.in_ok-told.told c.in_ok-told.ensures
