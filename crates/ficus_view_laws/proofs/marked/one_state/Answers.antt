use Rattle.std.proofs.Common.{[], ◌∷◌, ◌++◌}
use Rattle.ficus_model.specs.declared.event.Event.TheVariants.{Accept}
use Rattle.ficus_merge_laws.proofs.Rows.{merge_stands}
use Rattle.ficus_view_laws.proofs.States.{stands_once}
use Rattle.ficus_view_laws.proofs.marked.one_state.Goals as goal

pub returns-clause-stands : goal.returns-clause-stands
returns-clause-stands c = λ members H replica id one other member. stands_once members H replica id member one other

pub returns-clause-accepted : goal.returns-clause-accepted
returns-clause-accepted c = λ volume H replica served piece server id mine theirs one other answer here there merges stands.
    stands_once volume.members (H ++ Accept replica served piece ∷ []) replica id answer.may.member one other
    (merge_stands volume H replica served piece server id answer mine theirs one here there merges) stands
