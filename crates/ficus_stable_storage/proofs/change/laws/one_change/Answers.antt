use Rattle.ficus_stable_storage.proofs.change.Once.{change_once}
use Rattle.ficus_stable_storage.proofs.change.laws.one_change.Goals as goal

pub returns : goal.returns
returns c = change_once
