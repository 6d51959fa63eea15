use Rattle.ficus_names.proofs.Found.{named_by, only_target}
use Rattle.ficus_names.proofs.meaning.find_only.Goals as goal

pub returns-in_default : goal.returns-in_default
returns-in_default c = λ target bound.
    c.in_default.ensures.none bound.entry bound.inside (named_by c.args.entries.now c.args.dir c.args.name.now target bound) tt

pub returns-in-None : goal.returns-in-None
returns-in-None c =
    let found = c.in-Some.ensures.some in
    only_target c.args.entries.now c.args.dir c.args.name.now c.in-Some.entry.now found.0 found.1 c.in-None.ensures.none
