use Rattle.ficus_loop.proofs.OneModel.{model_once}
use Rattle.ficus_loop.proofs.laws.one_model.Goals as goal

pub returns : goal.returns
returns c = λ volume V U world one two events. model_once volume V U world one two events
