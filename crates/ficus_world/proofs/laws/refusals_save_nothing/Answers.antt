use Rattle.ficus_world.proofs.Refusing.{cut_members, refused_members}
use Rattle.ficus_world.proofs.laws.refusals_save_nothing.Goals as goal

pub returns-clause-refused : goal.returns-clause-refused
returns-clause-refused g c = λ old new command outcomes r moves unsaved.
    refused_members g.L.Link.tells g.D.Disk.tells old new command outcomes r moves unsaved

pub returns-clause-memory : goal.returns-clause-memory
returns-clause-memory g c = λ old new command outcomes cut single.
    cut_members g.L.Link.tells old new command outcomes cut single
