use Rattle.ficus_world.proofs.Ages.{chains_join, command_chain, cut_chain, passes_chain}
use Rattle.ficus_world.proofs.generations.commands_are_chains.Goals as goal

pub returns-clause-moves : goal.returns-clause-moves
returns-clause-moves g c = λ old new command outcomes answer moves.
    command_chain g.L.Link.tells g.D.Disk.tells command old moves.result (record { outcomes = outcomes; after = new })
    moves.does

pub returns-clause-cut : goal.returns-clause-cut
returns-clause-cut g c = λ old new command outcomes cut.
    cut_chain g.L.Link.tells g.D.Disk.tells command old (record { outcomes = outcomes; after = new }) cut

pub returns-clause-joined : goal.returns-clause-joined
returns-clause-joined g c = λ old middle new first last. chains_join first last

pub returns-clause-passes : goal.returns-clause-passes
returns-clause-passes g c = λ command old new disks now passes. passes_chain passes
