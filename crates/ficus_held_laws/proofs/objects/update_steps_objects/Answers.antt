use Rattle.ficus_held_laws.proofs.Growing.{objects_stepped}
use Rattle.ficus_held_laws.proofs.objects.update_steps_objects.Goals as goal

pub returns : goal.returns
returns c = λ volume H replica op objects next lawful here steps.
    objects_stepped volume H replica op objects next lawful here steps
