use Rattle.std.proofs.Common.{refl, ◌∙◌}
use Rattle.ficus_opening.proofs.Asking.{asked_ok, asked_store}
use Rattle.ficus_opening.proofs.looking.look_at.Goals as goal

pub returns-in-Ok : goal.returns-in-Ok
returns-in-Ok g c = record {
  empty = c.in-Ok.ensures.empty;
  synced = c.is_empty.ensures.synced;
  failed = tt;
  looked = record {
    asked = asked_ok c.in-Ok.ensures.steady c.is_empty.ensures.armings
        (λ fused none. c.is_empty.ensures.fuses fused ∙ none);
    same = c.is_empty.ensures.same;
    rests = c.is_empty.ensures.rests;
  };
}

pub returns-in-Err : goal.returns-in-Err
returns-in-Err g c = record {
  empty = λ told. tt;
  synced = c.is_empty.ensures.synced;
  failed = refl;
  looked = record {
    asked = asked_store c.in-Err.ensures.risen c.is_empty.ensures.armings
        (λ fused none. c.is_empty.ensures.fuses fused ∙ none)
        (λ fused none. let never = c.in-Err.ensures.never fused none in cc);
    same = c.is_empty.ensures.same;
    rests = c.is_empty.ensures.rests;
  };
}
