use Rattle.ficus_image.proofs.Images.{one_version}
use Rattle.ficus_image.proofs.decoding.one_image.Goals as goal

pub returns : goal.returns
returns c = λ m n v w a b fits also same. one_version v w m n a b fits also same
