use Rattle.ficus_words.proofs.OneMember.{one_member_mode}
use Rattle.ficus_words.proofs.laws.one_member_mode.Goals as goal

pub returns : goal.returns
returns c = one_member_mode
