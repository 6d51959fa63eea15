use Rattle.std.proofs.lemmas.Result.{on_ok_weaker}
use Rattle.ficus_record.proofs.Joined.{two_joined}
use Rattle.ficus_record.proofs.encoding.put_moving.Goals as goal

pub returns-clause-put : goal.returns-clause-put
returns-clause-put c =
    on_ok_weaker c.put_placing.result (two_joined _ _ _ _ _ c.in_ok-put_id.ensures.put) c.put_placing.ensures.put
