use Rattle.ficus_held_laws.proofs.Leaving.{objects_left}
use Rattle.ficus_held_laws.proofs.objects.collect_leaves_objects.Goals as goal

pub returns : goal.returns
returns c = λ members H replica entries orphans objects left kept_entries are_orphans here are_left.
    objects_left H replica entries orphans objects left kept_entries are_orphans here are_left
