use Rattle.ficus_image.proofs.Images.{magic_reads}
use Rattle.ficus_image.proofs.front.read_magic.Goals as goal

pub returns-in-Some-clause-reads : goal.returns-in-Some-clause-reads
returns-in-Some-clause-reads c =
    rw c.ok_or.ensures.value
    (magic_reads c.args.reader.now c.in-Some.front.now c.front.new.self c.version_of.result c.in-Some.ensures.some.0
    c.in-Some.ensures.some.1 c.version_of.ensures.found c.version_of.ensures.none)
