use Rattle.ficus_ids.specs.RisingLaws.{same_items}
use Rattle.ficus_entry.proofs.laws.same_entries.Goals as goal

pub returns : goal.returns
returns c = same_items (λ entry. entry.id)
