use Rattle.ficus_ids.specs.RisingLaws.{one_item}
use Rattle.ficus_entry.proofs.laws.one_entry.Goals as goal

pub returns : goal.returns
returns c = one_item (λ entry. entry.id)
