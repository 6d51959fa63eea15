use Rattle.std.proofs.Common.{ap, sym}
use Rattle.ficus_rules.specs.Walk.{name_of}
use Rattle.ficus_deciding.proofs.walk.last_name.Goals as goal

pub returns : goal.returns
returns c = sym (ap name_of c.last_part.ensures)
