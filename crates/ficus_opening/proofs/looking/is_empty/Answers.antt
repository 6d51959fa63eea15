use Rattle.ficus_opening.proofs.Rests.{rests_calls, rests_first}
use Rattle.ficus_opening.proofs.looking.is_empty.Goals as goal

pub returns-in_err-a-clause-rests : goal.returns-in_err-a-clause-rests
returns-in_err-a-clause-rests g c =
    rests_first g.D.Disk g.met.D.Disk.left_now c.args.pair.now.a c.size.new.self c.args.pair.now.b c.size.ensures.stays.keeps.crash
    c.size.ensures.stays.keeps.moments

pub returns-in_err-b-clause-rests : goal.returns-in_err-b-clause-rests
returns-in_err-b-clause-rests g c =
    rests_calls g.D.Disk g.met.D.Disk.left_now c.args.pair.now (record { a = c.size.new.self; b = c.size-2.new.self })
    c.size.ensures.stays.keeps.crash c.size-2.ensures.stays.keeps.crash c.size.ensures.stays.keeps.moments c.size-2.ensures.stays.keeps.moments

pub returns-then-a-eq0-clause-rests : goal.returns-then-a-eq0-clause-rests
returns-then-a-eq0-clause-rests g c =
    rests_calls g.D.Disk g.met.D.Disk.left_now c.args.pair.now (record { a = c.size.new.self; b = c.size-2.new.self })
    c.size.ensures.stays.keeps.crash c.size-2.ensures.stays.keeps.crash c.size.ensures.stays.keeps.moments c.size-2.ensures.stays.keeps.moments

pub returns-else-a-eq0-clause-rests : goal.returns-else-a-eq0-clause-rests
returns-else-a-eq0-clause-rests g c =
    rests_calls g.D.Disk g.met.D.Disk.left_now c.args.pair.now (record { a = c.size.new.self; b = c.size-2.new.self })
    c.size.ensures.stays.keeps.crash c.size-2.ensures.stays.keeps.crash c.size.ensures.stays.keeps.moments c.size-2.ensures.stays.keeps.moments
