use Rattle.std.proofs.Common.{inl, inr}
use Rattle.ficus_removal_laws.proofs.Dropping.{dropped_more, dropped_cases, dropped_now}
use Rattle.ficus_removal_laws.proofs.dropped.collect_drops_exactly.Goals as goal

pub returns : goal.returns
returns c = λ members H event replica entry. (
  dropped_cases event,
  elim [
    | inl was ↦ dropped_more _ was
    | inr now ↦ dropped_now event now.0 now.1
  ],
)
