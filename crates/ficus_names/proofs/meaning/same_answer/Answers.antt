use Rattle.ficus_names.specs.FindLaws.{same_answer}
use Rattle.ficus_names.proofs.meaning.same_answer.Goals as goal

pub returns : goal.returns
returns c = λ entries others dir other_dir name target answer other same. same_answer same name target answer other
