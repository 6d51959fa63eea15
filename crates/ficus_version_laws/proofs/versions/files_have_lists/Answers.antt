use Rattle.ficus_version_laws.proofs.Existing.{list_exists, cover_exists, shown_over}
use Rattle.ficus_version_laws.proofs.Making.{made_version}
use Rattle.ficus_version_laws.proofs.versions.files_have_lists.Goals as goal

pub returns-clause-lists : goal.returns-clause-lists
returns-clause-lists c = list_exists

pub returns-clause-covers : goal.returns-clause-covers
returns-clause-covers c = cover_exists

pub returns-clause-some : goal.returns-clause-some
returns-clause-some c = λ H replica file is_file.
    let s = shown_over H replica file (made_version is_file) is_file.made.known in
    (s.0, s.1)
