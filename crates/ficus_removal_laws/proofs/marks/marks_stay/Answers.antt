use Rattle.ficus_removal_laws.proofs.Marking.{marks_kept}
use Rattle.ficus_removal_laws.proofs.marks.marks_stay.Goals as goal

pub returns : goal.returns
returns c = marks_kept
