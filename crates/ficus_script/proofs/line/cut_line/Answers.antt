use Rattle.ficus_script.proofs.Cuts.{cut_line}
use Rattle.ficus_script.proofs.line.cut_line.Goals as goal

pub returns : goal.returns
returns c =
    cut_line c.args.line.now _ _ _ _ c.cut_replica-by.ensures.number c.cut_replica-by.ensures.whole
    c.cut_replica-by.ensures.none c.cut_at.ensures.front c.cut_at.ensures.whole
