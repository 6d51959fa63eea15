use Rattle.std.proofs.Common.{ℕ, List, ◌⊎◌, inl, inr}
use Rattle.ficus_ids.specs.declared.id.Id.{Id}
use Rattle.ficus_model.specs.declared.event.Event.{Event}
use Rattle.ficus_model.specs.Knowledge.{IsInOne, IsInTwo, KnowsThatKnows, KnowsThatAllKnow}
use Rattle.ficus_removal_laws.proofs.Carrying.{one_more, all_more}
use Rattle.ficus_removal_laws.proofs.Hearing.{one_from_last, one_at_last, two_from_last, two_at_last}
use Rattle.ficus_removal_laws.proofs.Answering.{entered_kept, entered_taken, entered_split, removed_kept, removed_taken, removed_split, one_taken, one_split, two_taken, two_split, heard_split, heard_joined}
use Rattle.ficus_removal_laws.proofs.marks.accept_joins_marks.Goals as goal

pub returns-clause-entered : goal.returns-clause-entered
returns-clause-entered c = λ H replica served piece server entry by_server. (
  entered_split H replica served piece server by_server,
  elim [
    | inl mine ↦ entered_kept H replica served piece server by_server mine
    | inr theirs ↦ entered_taken H replica served piece server by_server theirs
  ],
)

pub returns-clause-removed : goal.returns-clause-removed
returns-clause-removed c = λ H replica served piece server entry by_server. (
  removed_split H replica served piece server by_server,
  elim [
    | inl mine ↦ removed_kept H replica served piece server by_server mine
    | inr theirs ↦ removed_taken H replica served piece server by_server theirs
  ],
)

pub returns-clause-heard : goal.returns-clause-heard
returns-clause-heard c = λ H replica served piece server peer position by_server differs. (
  heard_split H replica served piece server by_server differs,
  heard_joined H replica served piece server by_server differs,
)

one_of_both : {H K : List Event} {replica server peer : ℕ} {entry : Id} →
    KnowsThatKnows H replica peer entry ⊎ KnowsThatKnows K server peer entry →
    IsInOne H replica peer entry ⊎ IsInOne K server peer entry
one_of_both (inl mine) = inl (one_at_last mine)
one_of_both (inr theirs) = inr (one_at_last theirs)

two_of_both : {members : ℕ} {H K : List Event} {replica server peer : ℕ} {entry : Id} →
    KnowsThatAllKnow members H replica peer entry ⊎ KnowsThatAllKnow members K server peer entry →
    IsInTwo members H replica peer entry ⊎ IsInTwo members K server peer entry
two_of_both (inl mine) = inl (two_at_last mine)
two_of_both (inr theirs) = inr (two_at_last theirs)

pub returns-clause-one : goal.returns-clause-one
returns-clause-one c = λ H replica served piece server peer entry by_server differs. (
  λ o. one_of_both (one_split H replica served piece server by_server differs (one_from_last o)),
  elim [
    | inl mine ↦ one_at_last (one_more _ (one_from_last mine))
    | inr theirs ↦ one_at_last (one_taken H replica served piece server by_server (one_from_last theirs))
  ],
)

pub returns-clause-two : goal.returns-clause-two
returns-clause-two c = λ members H replica served piece server peer entry by_server differs. (
  λ t. two_of_both (two_split H replica served piece server by_server differs (two_from_last t)),
  elim [
    | inl mine ↦ two_at_last (all_more _ (two_from_last mine))
    | inr theirs ↦ two_at_last (two_taken H replica served piece server by_server (two_from_last theirs))
  ],
)
