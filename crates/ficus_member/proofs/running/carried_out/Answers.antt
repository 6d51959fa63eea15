use Rattle.ficus_member.proofs.Answering.{carried, uncarried, unnoted}
use Rattle.ficus_member.proofs.running.carried_out.Goals as goal

pub returns-in-Ok : goal.returns-in-Ok
returns-in-Ok g c = carried c.in-Ok.answer c.in-Ok.ensures.goes c.in-Ok.ensures.lives

pub returns-in-Err-Memory : goal.returns-in-Err-Memory
returns-in-Err-Memory g c = uncarried c.in-Err-Memory.ensures.goes c.in-Err-Memory.ensures.lives

pub returns-in-Err-Note : goal.returns-in-Err-Note
returns-in-Err-Note g c =
    unnoted c.member.result c.member.ensures c.in-Err-Note.field-0-is c.in-Err-Note.ensures.goes
    c.in-Err-Note.ensures.lives
