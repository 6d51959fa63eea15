use Rattle.ficus_file_laws.proofs.Pasts.{stand_as_pasts}
use Rattle.ficus_file_laws.proofs.vectors.vectors_compare_as_pasts.Goals as goal

pub returns : goal.returns
returns c = λ volume H file position other vector again lawful version version_too is is_too.
    stand_as_pasts volume H file position other vector again lawful version version_too is is_too
