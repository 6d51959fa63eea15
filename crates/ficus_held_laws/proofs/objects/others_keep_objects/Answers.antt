use Rattle.ficus_held_laws.proofs.Leaving.{objects_kept}
use Rattle.ficus_held_laws.proofs.objects.others_keep_objects.Goals as goal

pub returns : goal.returns
returns c = λ members H event replica objects other kept. objects_kept H event replica other kept
