use Rattle.ficus_held_laws.proofs.Keeping.{merged_kept}
use Rattle.ficus_held_laws.proofs.entries.accept_merges_entries.Goals as goal

pub returns : goal.returns
returns c = λ volume H replica served piece server mine theirs after answer here peers merges.
    merged_kept volume H replica served piece server mine theirs after answer here peers merges
