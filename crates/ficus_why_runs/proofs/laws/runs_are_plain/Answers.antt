use Rattle.std.proofs.Common.{refl}
use Rattle.ficus_why.specs.Continued.{continued}
use Rattle.ficus_why_runs.proofs.Lawful.{lawful_plain}
use Rattle.ficus_why_runs.proofs.laws.runs_are_plain.Goals as goal

pub returns : goal.returns
returns c = λ volume earlier H eight lawful. lawful_plain volume eight earlier H (continued earlier H) refl lawful
