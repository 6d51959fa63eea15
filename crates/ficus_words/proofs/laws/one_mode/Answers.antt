use Rattle.ficus_words.proofs.OneMode.{one_mode}
use Rattle.ficus_words.proofs.laws.one_mode.Goals as goal

pub returns : goal.returns
returns c = one_mode
