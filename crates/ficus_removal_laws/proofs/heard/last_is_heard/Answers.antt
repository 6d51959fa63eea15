use Rattle.ficus_removal_laws.proofs.Carrying.{knows_through}
use Rattle.ficus_removal_laws.proofs.Hearing.{heard_from}
use Rattle.ficus_removal_laws.proofs.heard.last_is_heard.Goals as goal

pub returns-clause-last : goal.returns-clause-last
returns-clause-last c = λ H replica peer position. heard_from

pub returns-clause-all : goal.returns-clause-all
returns-clause-all c = λ H replica peer position earlier known own was. knows_through own known was
