use Rattle.std.proofs.Common.{ℕ, subst}
use Rattle.ficus_runs.specs.Message.{Reads}
use Rattle.ficus_world.specs.Moves.{messages_read}
use Rattle.ficus_world.proofs.Sending.{letter_read}
use Rattle.ficus_world.proofs.group.Group.letter.Goals as goal

pub returns : goal.returns
returns g c =
    subst (λ (count : ℕ). Reads count c.args.bytes.now (messages_read c.ok_or.result)) c.count.ensures
    (letter_read c.count.result c.args.bytes.now c.read_letter.result c.ok_or.result c.read_letter.ensures.fits
    c.read_letter.ensures.spelled c.read_letter.ensures.none c.ok_or.ensures.value)
