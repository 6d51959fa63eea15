use Rattle.ficus_path.proofs.PathLaws.{path_text_injective}
use Rattle.ficus_path.proofs.reading.one_path.Goals as goal

pub returns : goal.returns
returns c = path_text_injective
