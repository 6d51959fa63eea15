use Rattle.ficus_vectors.specs.VectorLaws.{same_vector}
use Rattle.ficus_vectors.proofs.laws.same_vector.Goals as goal

pub returns : goal.returns
returns c = same_vector
