use Rattle.ficus_merge_laws.proofs.Rows.{merge_stands}
use Rattle.ficus_merge_laws.proofs.merge.merge_gives_states.Goals as goal

pub returns : goal.returns
returns c = λ volume H replica served piece server id mine theirs after answer here there merges.
    merge_stands volume H replica served piece server id answer mine theirs after here there merges
