use Rattle.ficus_model.specs.Known.{Knows}
use Rattle.ficus_version_laws.proofs.Latest.{shown_once}
use Rattle.ficus_version_laws.proofs.Few.{few_shown}
use Rattle.ficus_version_laws.proofs.versions.one_version_of_each.Goals as goal

pub returns-clause-one : goal.returns-clause-one
returns-clause-one c = λ H reader file position other replica. shown_once

pub returns-clause-few : goal.returns-clause-few
returns-clause-few c = λ volume H reader file positions lawful shown apart. few_shown volume H lawful (Knows H reader)
    file positions shown apart
