use Rattle.std.proofs.Common.{ℕ, ◌<◌, get_or}
use Rattle.ficus_ids.specs.declared.id.Id.{Id}
use Rattle.ficus_deciding.specs.Alike.{ShowSameAt}
use Rattle.ficus_deciding.proofs.comparing.show_same.Given as goal

abbrev pub invariant-loop-id : goal.invariant-loop-id
invariant-loop-id l = (k : ℕ) (d : Id) → k < l.id-index → ShowSameAt l.files l.others (get_or l.ids k d)
