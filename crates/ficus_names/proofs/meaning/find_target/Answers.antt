use Rattle.ficus_names.proofs.Found.{named_by}
use Rattle.ficus_names.proofs.meaning.find_target.Goals as goal

pub returns-in-None : goal.returns-in-None
returns-in-None c = λ bound. c.in-None.ensures.none bound.entry bound.inside
    (named_by c.args.entries.now c.args.dir c.args.name.now c.args.target bound) bound.leads
