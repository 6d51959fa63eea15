use Rattle.ficus_why.proofs.Conflict.{clash_shows, shown_clash}
use Rattle.ficus_why.proofs.laws.shown_versions_clash.Goals as goal

pub returns : goal.returns
returns c = λ volume earlier H clash lawful.
    (clash_shows volume earlier H lawful clash, shown_clash volume earlier H lawful clash)
