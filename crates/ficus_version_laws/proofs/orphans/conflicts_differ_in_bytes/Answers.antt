use Rattle.ficus_version_laws.proofs.Orphaned.{conflict_listed}
use Rattle.ficus_version_laws.proofs.orphans.conflicts_differ_in_bytes.Goals as goal

pub returns : goal.returns
returns c = λ H replica file versions shown. conflict_listed shown
