use Rattle.ficus_words.proofs.OneMember.{one_call}
use Rattle.ficus_words.proofs.laws.one_call.Goals as goal

pub returns : goal.returns
returns c = one_call
