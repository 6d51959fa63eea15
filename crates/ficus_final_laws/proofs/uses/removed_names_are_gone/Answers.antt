use Rattle.ficus_final_laws.proofs.Unbinding.{remove_unbinds, move_unbinds}
use Rattle.ficus_final_laws.proofs.uses.removed_names_are_gone.Goals as goal

pub returns-clause-remove : goal.returns-clause-remove
returns-clause-remove c = remove_unbinds

pub returns-clause-moved : goal.returns-clause-moved
returns-clause-moved c = move_unbinds
