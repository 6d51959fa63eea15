use Rattle.ficus_rules.specs.View.{history_view}
use Rattle.ficus_rules.proofs.EntryWalks.{entry_is_walked}
use Rattle.ficus_rules.proofs.laws.entries_are_walked.Goals as goal

pub returns : goal.returns
returns c = λ volume H replica path answer entry rule. entry_is_walked (history_view volume H replica) path entry answer rule
