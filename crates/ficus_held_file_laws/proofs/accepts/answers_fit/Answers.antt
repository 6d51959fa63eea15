use Rattle.ficus_held_file_laws.proofs.Merging.{files_fit}
use Rattle.ficus_held_file_laws.proofs.accepts.answers_fit.Goals as goal

pub returns : goal.returns
returns c = λ volume H replica served server mine theirs lawful by_server here there fits.
    files_fit volume H replica served server lawful by_server here there fits
