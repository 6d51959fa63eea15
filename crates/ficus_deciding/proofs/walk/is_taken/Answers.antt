use Rattle.std.proofs.Common.{refl}
use Rattle.ficus_deciding.proofs.WalkSteps.{taken_where_found, taken_by_refusal}
use Rattle.ficus_deciding.proofs.walk.is_taken.Goals as goal

pub returns-in-Ok : goal.returns-in-Ok
returns-in-Ok c = (
  λ truth. taken_where_found c.args.saved.now c.args.dir c.args.path.now c.last_part.result.now
      c.last_part.ensures c.in-Ok.field-0 c.in-Ok.ensures,
  λ taken. refl,
)

pub returns-in-Err : goal.returns-in-Err
returns-in-Err c =
    taken_by_refusal c.args.saved.now c.args.dir c.args.path.now c.last_part.result.now c.last_part.ensures
    c.in-Err.refusal c.ne.result c.requires c.in-Err.ensures c.ne.ensures
