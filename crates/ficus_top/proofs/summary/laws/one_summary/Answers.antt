use Rattle.ficus_top.proofs.summary.OneSummary.{one_summary}
use Rattle.ficus_top.proofs.summary.laws.one_summary.Goals as goal

pub returns : goal.returns
returns c = one_summary
