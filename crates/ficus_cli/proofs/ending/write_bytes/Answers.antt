use Rattle.ficus_cli.proofs.Written.{more_written, kept_written, front_written}
use Rattle.ficus_cli.proofs.ending.write_bytes.Goals as goal

pub returns-in_err-count-clause-front : goal.returns-in_err-count-clause-front
returns-in_err-count-clause-front g c =
    front_written (kept_written c.loop-rest.invariant _ c.in_err-count.ensures.written)

pub returns-then-count-eq0-clause-front : goal.returns-then-count-eq0-clause-front
returns-then-count-eq0-clause-front g c =
    front_written (more_written c.loop-rest.invariant _ c.in_ok-count.count c.in_ok-count.ensures.written)

pub loop-rest-preserved : goal.loop-rest-preserved
loop-rest-preserved g c =
    more_written c.loop-rest.invariant _ c.in_ok-count.count c.in_ok-count.ensures.written

pub returns-clause-front : goal.returns-clause-front
returns-clause-front g c = front_written c.loop-rest.invariant
