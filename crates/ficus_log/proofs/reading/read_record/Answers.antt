use Rattle.std.proofs.Common.{arith}
use Rattle.std.proofs.lemmas.Grind.{common_steps}
use Rattle.ficus_log.proofs.Logs.{none_stands}
use Rattle.ficus_log.proofs.Walks.{read_begins}
use Rattle.ficus_log.proofs.reading.read_record.Goals as goal

pub returns-then-length-rest-clause-record_ : goal.returns-then-length-rest-clause-record_
returns-then-length-rest-clause-record_ c = none_stands c.args.last c.args.bytes.now (grind (arith, common_steps))

pub returns-then-generation-eq0-clause-record_ : goal.returns-then-generation-eq0-clause-record_
returns-then-generation-eq0-clause-record_ c = none_stands c.args.last c.args.bytes.now (grind (arith, common_steps))

pub returns-clause-record_ : goal.returns-clause-record_
returns-clause-record_ c =
    read_begins c.args.last c.args.bytes.now (record { body = _; rest = _ }) (grind (arith, common_steps))
