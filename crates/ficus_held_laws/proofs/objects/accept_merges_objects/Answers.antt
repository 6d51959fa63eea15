use Rattle.ficus_held_laws.proofs.Merging.{objects_merged}
use Rattle.ficus_held_laws.proofs.objects.accept_merges_objects.Goals as goal

pub returns : goal.returns
returns c = λ volume H replica served piece server entries mine theirs next answer kept_entries here peers merges.
    objects_merged volume H replica served piece server entries mine theirs next answer kept_entries here peers merges
