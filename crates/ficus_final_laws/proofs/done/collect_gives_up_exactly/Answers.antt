use Rattle.std.proofs.Common.{inl, inr}
use Rattle.ficus_final_laws.proofs.Collecting.{done_more, done_cases, done_now}
use Rattle.ficus_final_laws.proofs.done.collect_gives_up_exactly.Goals as goal

pub returns : goal.returns
returns c = λ members H event replica position object. (
  done_cases members H replica object event,
  elim [
    | inl was ↦ done_more members H replica object event was
    | inr now ↦ rw now.0 (done_now members H replica object event now.1 now.2)
  ],
)
