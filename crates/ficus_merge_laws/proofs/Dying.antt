-- When the marks of a row with a dead result are those that the history gives.
use Rattle.std.proofs.Common.{◌≡◌, ◌≢◌, ◌↔◌, ◌⊎◌, ℕ, Bool, true, false, List, Some, None, Option, refl, inl, inr}
use Rattle.std.specs.Prelude.{◌==◌, IsTrue}
use Rattle.std.proofs.lemmas.Bool.{cases_eq, or_cases, or_left, or_right, eq-eqb, eqb-true}
use Rattle.ficus_ids.specs.Marks.{has, IsFull}
use Rattle.ficus_ids.specs.MarksLaws.{full_or_one_missing}
use Rattle.ficus_ids.specs.Members.{IsMember}
use Rattle.ficus_ids.specs.declared.id.Id.{Id}
use Rattle.ficus_entry.specs.declared.entry.State.{State}
use Rattle.ficus_entry.specs.declared.entry.State.TheVariants.{Live, Dead}
use Rattle.ficus_merge_entries.specs.Table.{with, HasMarks, IsDead}
use Rattle.ficus_model.specs.declared.event.Event.{Event}
use Rattle.ficus_model.specs.Known.{Knows}
use Rattle.ficus_model.specs.Live.{IsRemoved}
use Rattle.ficus_model.specs.Knowledge.{KnowsThatKnows, KnowsThatAllKnow}
use Rattle.ficus_model.specs.Held.{IsDropped}
use Rattle.ficus_removal_laws.specs.Marks.{IsEnteredAs, IsMarked}
use Rattle.ficus_removal_laws.proofs.Carrying.{all_one}
use Rattle.ficus_removal_laws.proofs.Hearing.{one_from_last, one_at_last, two_from_last, two_at_last, one_of_itself, two_of_itself}
use Rattle.ficus_merge_laws.specs.States.{StandsAs}

pub with_itself : (set : ℕ → Bool) (replica : ℕ) → IsTrue (with set replica replica)
with_itself set replica = or_right (set replica) (replica == replica) (eq-eqb replica replica refl)

pub with_more : (set : ℕ → Bool) (replica peer : ℕ) → IsTrue (set peer) → IsTrue (with set replica peer)
with_more set replica peer inside = or_left (set peer) (peer == replica) inside

pub with_other : (set : ℕ → Bool) (replica peer : ℕ) → peer ≢ replica → IsTrue (with set replica peer) →
    IsTrue (set peer)
with_other set replica peer differs inside = go (or_cases (set peer) (peer == replica) inside)
  where
    go : IsTrue (set peer) ⊎ IsTrue (peer == replica) → IsTrue (set peer)
    go (inl here) = here
    go (inr same) = absurd (differs (eqb-true peer replica same))

-- Of the two sets that a row says, those of all but the replica are right, it is in the first itself, and it is in
-- the second only where it knows that all know.
pub record IsSaid (members : ℕ) (H : List Event) (replica : ℕ) (id : Id) (one two : ℕ → Bool) : Type 0 where
  pub entered : IsEnteredAs H (Knows H replica) id
  pub removed : IsRemoved H (Knows H replica) id
  pub held : IsDropped members H replica id → ⊥
  pub first : (peer : ℕ) → peer ≢ replica → IsTrue (one peer) ↔ KnowsThatKnows H replica peer id
  pub mine : IsTrue (one replica)
  pub second : (peer : ℕ) → peer ≢ replica → IsTrue (two peer) ↔ KnowsThatAllKnow members H replica peer id
  pub own : IsTrue (two replica) → KnowsThatAllKnow members H replica replica id

module _ {members : ℕ} {H : List Event} {replica : ℕ} {id : Id} {one two : ℕ → Bool} {first second : ℕ}
    (is_member : IsMember members replica) (said : IsSaid members H replica id one two)
    (marks : HasMarks replica members one two first second) where
  first_right : (peer : ℕ) → IsTrue (has first peer) ↔ KnowsThatKnows H replica peer id
  first_right peer = rw (marks.one_as_said peer) (go (cases_eq peer replica))
    where
      go : (peer ≡ replica) ⊎ (peer ≡ replica → ⊥) → IsTrue (one peer) ↔ KnowsThatKnows H replica peer id
      go (inl same) = rw same ((λ inside. one_of_itself said.removed), (λ o. said.mine))
      go (inr differs) = said.first peer differs

  full_of_itself : IsFull first members → KnowsThatAllKnow members H replica replica id
  full_of_itself full = two_of_itself is_member (λ member m. (first_right member).0 (full member m))

  full_from : KnowsThatAllKnow members H replica replica id → IsFull first members
  full_from t member m = (first_right member).1 (all_one t m)

  second_if_full : IsFull first members → (peer : ℕ) →
      IsTrue (has second peer) ↔ KnowsThatAllKnow members H replica peer id
  second_if_full full peer = rw (marks.two_with_r full peer) (go (cases_eq peer replica))
    where
      go : (peer ≡ replica) ⊎ (peer ≡ replica → ⊥) →
          IsTrue (with two replica peer) ↔ KnowsThatAllKnow members H replica peer id
      go (inl same) = rw same ((λ inside. full_of_itself full), (λ t. with_itself two replica))
      go (inr differs) = (
        λ inside. (said.second peer differs).0 (with_other two replica peer differs inside),
        λ t. with_more two replica peer ((said.second peer differs).1 t),
      )

  second_if_not : (IsFull first members → ⊥) → (peer : ℕ) →
      IsTrue (has second peer) ↔ KnowsThatAllKnow members H replica peer id
  second_if_not not_full peer = rw (marks.two_as_said not_full peer) (go (cases_eq peer replica))
    where
      go : (peer ≡ replica) ⊎ (peer ≡ replica → ⊥) → IsTrue (two peer) ↔ KnowsThatAllKnow members H replica peer id
      go (inl same) = rw same ((λ inside. said.own inside), (λ t. absurd (not_full (full_from t))))
      go (inr differs) = said.second peer differs

  second_right : (peer : ℕ) → IsTrue (has second peer) ↔ KnowsThatAllKnow members H replica peer id
  second_right = go (full_or_one_missing first members)
    where
      go : IsFull first members ⊎ ((member : ℕ) × IsMember members member × (has first member ≡ false)) →
          (peer : ℕ) → IsTrue (has second peer) ↔ KnowsThatAllKnow members H replica peer id
      go (inl full) = second_if_full full
      go (inr (member, m, missing)) =
          second_if_not (λ full. let inside : has first member ≡ true = full member m in cc)

  said_marked : IsMarked members H replica id first second
  said_marked = record {
    entered = said.entered;
    removed = said.removed;
    held = said.held;
    first = λ peer. (λ inside. one_at_last ((first_right peer).0 inside), λ o. (first_right peer).1 (one_from_last o));
    second = λ peer. (
      λ inside. two_at_last ((second_right peer).0 inside),
      λ t. (second_right peer).1 (two_from_last t),
    );
  }

-- a row that says these sets gives what the history gives
pub said_stands : {members : ℕ} {H : List Event} {replica : ℕ} {id : Id} {one two : ℕ → Bool} (after : Option State) →
    IsMember members replica → IsSaid members H replica id one two → IsDead replica members one two after →
    StandsAs members H replica id after
said_stands None is_member said dead = absurd dead
said_stands (Some Live) is_member said dead = absurd dead
said_stands (Some (Dead first second)) is_member said marks = said_marked is_member said marks
