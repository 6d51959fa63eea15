use Rattle.std.proofs.Common.{length}
use Rattle.ficus_why.specs.Continued.{continued}
use Rattle.ficus_why.proofs.Conflict.{clash_shows, in_conflict}
use Rattle.ficus_why.proofs.laws.clash_is_conflict.Goals as goal

pub returns : goal.returns
returns c = λ volume earlier H clash lawful is.
    in_conflict (continued earlier H) (length earlier) clash (clash_shows volume earlier H lawful clash is)
