use Rattle.ficus_record.proofs.Unique.{unique-record}
use Rattle.ficus_record.proofs.decoding.one_record.Goals as goal

pub returns : goal.returns
returns c = λ members one other a b few. (unique-record members few).one one other a b
