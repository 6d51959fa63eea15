use Rattle.ficus_words.proofs.OneMode.{one_uses}
use Rattle.ficus_words.proofs.laws.one_use.Goals as goal

pub returns : goal.returns
returns c = λ words one other gives also. one_uses gives also
