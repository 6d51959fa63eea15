use Rattle.ficus_held_laws.proofs.Leaving.{no_objects, held_listed}
use Rattle.ficus_held_laws.proofs.objects.kept_objects_stand.Goals as goal

pub returns-clause-undone : goal.returns-clause-undone
returns-clause-undone c = λ members H replica object position k d. k.held.held position d

pub returns-clause-listed : goal.returns-clause-listed
returns-clause-listed c = λ members H replica objects id kind kept held. held_listed kept held

pub returns-clause-start : goal.returns-clause-start
returns-clause-start c = no_objects
