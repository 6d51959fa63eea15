use Rattle.ficus_top.proofs.Repeating.{same_answers}
use Rattle.ficus_top.proofs.laws.same_script_same_answers.Goals as goal

pub returns : goal.returns
returns g c = λ volume earlier script old new again newer disks after others later F rest rest_too fused one other.
    same_answers volume earlier F rest rest_too fused one other
