use Rattle.ficus_image.proofs.Images.{no_image, read_one}
use Rattle.ficus_image.proofs.decoding.decode_image.Goals as goal

pub returns-in_err-spelled-clause-not_image : goal.returns-in_err-spelled-clause-not_image
returns-in_err-spelled-clause-not_image c =
    no_image c.args.bytes.now c.in_err-spelled.field-0.0 c.from_residual.result c.from_residual.ensures.1
    (rw c.new.ensures at c.in_err-spelled.ensures.reads)

pub returns-clause-one : goal.returns-clause-one
returns-clause-one c =
    read_one c.args.bytes.now c.in_ok-spelled.spelled (rw c.new.ensures at c.in_ok-spelled.ensures.reads)
