use Rattle.ficus_path.proofs.TextLaws.{quoted_text_injective}
use Rattle.ficus_path.proofs.text.one_text.Goals as goal

pub returns : goal.returns
returns c = quoted_text_injective
