use Rattle.ficus_held_file_laws.proofs.Merging.{files_merged}
use Rattle.ficus_held_file_laws.proofs.accepts.accept_merges_files.Goals as goal

pub returns : goal.returns
returns c = λ volume H replica served piece server entries touched mine theirs both answer held touches here there are merges.
    files_merged volume H replica served server answer.lawful answer.by here there entries touched both touches merges piece
    answer held are
