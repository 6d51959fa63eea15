use Rattle.ficus_world.proofs.ServedLists.{held_was_served, posted_ever}
use Rattle.ficus_world.proofs.generations.pieces_were_served.Goals as goal

pub returns-clause-posted : goal.returns-clause-posted
returns-clause-posted g c = λ told start now chain number bytes message none is spelled piece.
    posted_ever told chain number bytes message none is spelled piece

pub returns-clause-held : goal.returns-clause-held
returns-clause-held g c = λ told start now chain r member parts from ask index bytes fresh is held at open_ask.
    held_was_served told chain fresh r member is parts index bytes from ask held at open_ask
