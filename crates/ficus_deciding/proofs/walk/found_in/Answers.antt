use Rattle.ficus_deciding.proofs.WalkSteps.{entry_found, entry_visible}
use Rattle.ficus_deciding.proofs.walk.found_in.Goals as goal

pub returns-clause-rule : goal.returns-clause-rule
returns-clause-rule c =
    entry_found c.args.saved.now c.args.dir c.args.path.now c.last_part.result.now c.last_part.ensures c.find.result
    c.find.ensures

pub returns-clause-visible : goal.returns-clause-visible
returns-clause-visible c =
    entry_visible c.args.saved.now c.args.dir c.last_part.result.now c.find.result c.find.ensures
