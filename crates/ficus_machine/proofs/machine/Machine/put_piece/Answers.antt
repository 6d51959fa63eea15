use Rattle.std.proofs.Common.{[], ◌∷◌}
use Rattle.ficus_machine.specs.Came.{letter_of}
use Rattle.ficus_machine.proofs.Putting.{puts_unfetched}
use Rattle.ficus_machine.proofs.machine.Machine.put_piece.Goals as goal

pub returns-in-Err-clause-puts : goal.returns-in-Err-clause-puts
returns-in-Err-clause-puts g c = λ message posted.
    puts_unfetched (letter_of c.args.self.now.tag message ∷ []) c.unfetched.result c.in-Err.ensures.refused
    c.unfetched.ensures
