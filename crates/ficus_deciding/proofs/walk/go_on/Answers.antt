use Rattle.std.proofs.Common.{refl}
use Rattle.ficus_deciding.proofs.WalkSteps.{stepped, found_visible}
use Rattle.ficus_deciding.proofs.walk.go_on.Goals as goal

pub returns-clause-rule : goal.returns-clause-rule
returns-clause-rule c =
    stepped c.args.saved.now c.args.object c.args.part.now c.find.result (c.if-not-is_directory.ensures.0 refl) c.find.ensures

pub returns-clause-shown : goal.returns-clause-shown
returns-clause-shown c = found_visible c.args.saved.now c.args.object c.args.part.now c.find.result c.find.ensures
