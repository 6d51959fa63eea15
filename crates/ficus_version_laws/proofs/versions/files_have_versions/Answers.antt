use Rattle.ficus_version_laws.proofs.Objects.{version_file}
use Rattle.ficus_version_laws.proofs.Making.{make_shown, make_covered}
use Rattle.ficus_version_laws.proofs.versions.files_have_versions.Goals as goal

pub returns-clause-files : goal.returns-clause-files
returns-clause-files c = λ volume H replica file position lawful version known. version_file volume H lawful replica version known

pub returns-clause-first : goal.returns-clause-first
returns-clause-first c = λ volume H replica dir name kind text lawful differs.
    make_shown volume H replica lawful dir name kind text differs

pub returns-clause-uncovered : goal.returns-clause-uncovered
returns-clause-uncovered c = λ volume H replica dir name kind text lawful.
    make_covered volume H replica lawful dir name kind text
