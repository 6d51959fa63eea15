use Rattle.ficus_why.specs.Shown.{IsLeastOf, IsSecondBelow}
use Rattle.ficus_why.proofs.least.least_of.Given as goal

abbrev pub invariant-loop-other : goal.invariant-loop-other
invariant-loop-other l =
    IsLeastOf l.history.events l.known.reader l.known.file (IsSecondBelow l.history.events l.one l.other) l.least
