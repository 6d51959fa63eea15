use Rattle.ficus_member.proofs.TagLines.{none_weaker, some_weaker, spelled, unspelled}
use Rattle.ficus_member.proofs.tag_file.tag_in.Goals as goal

pub returns-clause-spelled : goal.returns-clause-spelled
returns-clause-spelled c =
    some_weaker c.read.result (λ tag spells. spelled c.args.line.now tag c.told-line c.if-line-ne10.false spells)
    c.read.ensures.spelled

pub returns-clause-none : goal.returns-clause-none
returns-clause-none c = none_weaker c.read.result (unspelled c.args.line.now) c.read.ensures.none
