use Rattle.ficus_version_laws.proofs.Orphaned.{orphan_beyond, beyond_orphan}
use Rattle.ficus_version_laws.proofs.Existing.{shows_uncovered}
use Rattle.ficus_version_laws.proofs.orphans.orphans_have_uncovered_versions.Goals as goal

pub returns-clause-listed : goal.returns-clause-listed
returns-clause-listed c = λ volume H replica file versions cover lawful is_file shown cover_is. (
  orphan_beyond volume H lawful replica shown cover_is is_file,
  beyond_orphan volume H lawful replica shown cover_is,
)

pub returns-clause-shown : goal.returns-clause-shown
returns-clause-shown c = λ H replica file. (
  λ u. (u.is_file, shows_uncovered H replica file u),
  λ both. record { is_file = both.0; position = both.1.position; uncovered = both.1.uncovered },
)
