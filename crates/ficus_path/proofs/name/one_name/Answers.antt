use Rattle.ficus_path.proofs.NameLaws.{name_text_injective}
use Rattle.ficus_path.proofs.name.one_name.Goals as goal

pub returns : goal.returns
returns c = name_text_injective
