use Rattle.std.proofs.lemmas.Result.{on_ok_weaker}
use Rattle.ficus_record.proofs.Joined.{three_joined}
use Rattle.ficus_record.proofs.encoding.put_adopting.Goals as goal

pub returns-clause-put : goal.returns-clause-put
returns-clause-put c =
    rw (← c.bytes.ensures.value) (on_ok_weaker c.put_short_string.result
    (three_joined _ _ _ _ _ _ _ c.in_ok-put_id.ensures.put c.in_ok-put_id-2.ensures.put) c.put_short_string.ensures.put)
