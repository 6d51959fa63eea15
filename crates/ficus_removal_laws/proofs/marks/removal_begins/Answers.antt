use Rattle.ficus_removal_laws.proofs.Marking as marking
use Rattle.ficus_removal_laws.proofs.marks.removal_begins.Goals as goal

pub returns : goal.returns
returns c = marking.removal_begins
