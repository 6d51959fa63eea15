-- What a replica knows of what others know of a removal is decided, and so is what it has dropped; so each removed entry
-- that it holds is marked.
use Rattle.std.proofs.Common.{◌≡◌, ◌↔◌, ◌⊎◌, ℕ, zero, suc, ◌-◌, ◌^◌, Bool, true, false, ◌||◌, List, refl, subst, sym, inl, inr, arith}
use Rattle.std.specs.Prelude.{IsTrue, bit_or}
use Rattle.std.specs.Int.{bit_at}
use Rattle.std.proofs.lemmas.Bool.{cases_eq}
use Rattle.std.proofs.lemmas.Nat.Bits.{bit_at-pow_same, bit_at-pow_other}
use Rattle.ficus_ids.specs.Marks.{has}
use Rattle.ficus_ids.specs.MarksLaws.{bit_from_has, has_from_bit, has-zero, has-or}
use Rattle.ficus_ids.specs.Members.{IsMember}
use Rattle.ficus_ids.specs.MembersLaws.{is_member_or_not}
use Rattle.ficus_ids.specs.declared.id.Id.{Id}
use Rattle.ficus_model.specs.declared.event.Event.{Event}
use Rattle.ficus_model.specs.declared.event.Event.TheVariants.{Collect}
use Rattle.ficus_model.specs.Events.{IsAt, IsOf, before, through}
use Rattle.ficus_model.specs.Known.{Knows}
use Rattle.ficus_model.specs.Lawful.{Volume, IsLawful}
use Rattle.ficus_model.specs.Live.{IsRemoved}
use Rattle.ficus_model.specs.Knowledge.{IsInOne, IsInTwo, KnowsThatKnows}
use Rattle.ficus_model.specs.Held.{IsDropped}
use Rattle.ficus_laws.proofs.Deciding.{Decided, both_decided, of_decided, knows_decided, decided_from}
use Rattle.ficus_laws.proofs.Knowledge.{knows_within}
use Rattle.ficus_laws.proofs.Lawful.{lawful_member}
use Rattle.ficus_laws.proofs.Positions.{at_within}
use Rattle.ficus_removal_laws.specs.Marks.{IsEnteredAs, IsTwoFull}
use Rattle.ficus_removal_laws.proofs.Hearing.{one_from_last, one_at_last, two_from_last, two_at_last}
use Rattle.ficus_view_laws.specs.Laws.{HasMarks}
use Rattle.ficus_view_laws.proofs.Entries.{removed_decided}
use Rattle.ficus_view_laws.proofs.Positions.{some_position, all_members, collect_decided}

-- at this position stands an event of the peer that the replica knows and through which the peer knew so
module _ (H : List Event) (replica peer : ℕ) (entry : Id) where
  abbrev KnewAt : ℕ → Type 0
  KnewAt position =
      Knows H replica position ×
      (IsOf H position peer × IsRemoved (through position H) (Knows (through position H) peer) entry)

  knew_at : (position : ℕ) → Decided (KnewAt position)
  knew_at position =
      let T = through position H in
      both_decided (knows_decided H replica position)
      (both_decided (of_decided H position peer) (removed_decided T (Knows T peer) (knows_decided T peer) entry))

  pub knows_that_knows : Decided (KnowsThatKnows H replica peer entry)
  knows_that_knows = decided_from
      (λ some. record { position = some.0; known = some.1.0; own = some.1.1.0; removed = some.1.1.1 })
      (λ knows. (knows.position, (knows.known, (knows.own, knows.removed))))
      (some_position H KnewAt knew_at (λ position there. knows_within there.0))

  pub one_decided : Decided (IsInOne H replica peer entry)
  one_decided = decided_from one_at_last one_from_last knows_that_knows

module _ (members : ℕ) (H : List Event) (replica peer : ℕ) (entry : Id) where
  abbrev AllKnewAt : ℕ → Type 0
  AllKnewAt position =
      Knows H replica position × (IsOf H position peer ×
      ((member : ℕ) → IsMember members member → KnowsThatKnows (through position H) peer member entry))

  all_knew_at : (position : ℕ) → Decided (AllKnewAt position)
  all_knew_at position = both_decided (knows_decided H replica position)
      (both_decided (of_decided H position peer)
      (all_members members (λ member. KnowsThatKnows (through position H) peer member entry)
      (λ member. knows_that_knows (through position H) peer member entry)))

  pub two_decided : Decided (IsInTwo members H replica peer entry)
  two_decided = decided_from two_at_last two_from_last (decided_from
      (λ some. record { position = some.0; known = some.1.0; own = some.1.1.0; all = some.1.1.1 })
      (λ knows. (knows.position, (knows.known, (knows.own, knows.all))))
      (some_position H AllKnewAt all_knew_at (λ position there. knows_within there.0)))

module _ (members : ℕ) (H : List Event) (replica : ℕ) (entry : Id) where
  abbrev DropsAt : ℕ → Type 0
  DropsAt position = IsAt H position (Collect replica) × IsTwoFull members (before position H) replica entry

  pub dropped_decided : Decided (IsDropped members H replica entry)
  dropped_decided = decided_from
      (λ some. record { position = some.0; collect = some.1.0; full = some.1.1 })
      (λ dropped. (dropped.position, (dropped.collect, dropped.full)))
      (some_position H DropsAt
      (λ position. both_decided (collect_decided H position replica)
      (all_members members (λ member. IsInTwo members (before position H) replica member entry)
      (λ member. two_decided members (before position H) replica member entry)))
      (λ position there. at_within there.0))

either_holds : (a b : Bool) → IsTrue (a || b) → IsTrue a ⊎ IsTrue b
either_holds true b is = inl refl
either_holds false b is = inr is

first_holds : (a b : Bool) → IsTrue a → IsTrue (a || b)
first_holds true b is = refl
first_holds false b is = cc

second_holds : (a b : Bool) → IsTrue b → IsTrue (a || b)
second_holds true b is = refl
second_holds false b is = is

-- the set of one replica
alone : (index replica : ℕ) → IsTrue (has (2 ^ index) replica) ↔ (replica ≡ suc index)
alone index replica = (out (cases_eq (replica - 1) index), into)
  where
    out : (replica - 1 ≡ index) ⊎ (replica - 1 ≡ index → ⊥) → IsTrue (has (2 ^ index) replica) → replica ≡ suc index
    out (inl same) is = let from = (bit_from_has (2 ^ index) replica is).0 in omega (arith, same, from)
    out (inr other) is =
        let one = (bit_from_has (2 ^ index) replica is).1 in
        let none = bit_at-pow_other index (replica - 1) other in
        omega (arith, one, none)

    into : replica ≡ suc index → IsTrue (has (2 ^ index) replica)
    into is =
        let back : index ≡ replica - 1 = omega (arith, is) in
        has_from_bit (2 ^ index) replica (omega (arith, is))
        (subst (λ i. bit_at (2 ^ index) i ≡ 1) back (bit_at-pow_same index))

-- some set has exactly the members for which this holds
abbrev Set : (ℕ → Type 0) → Type 0
Set P = (marks : ℕ) × ((replica : ℕ) → IsTrue (has marks replica) ↔ P replica)

pub set_exists : (members : ℕ) (P : ℕ → Type 0) → ((replica : ℕ) → Decided (P replica)) →
    ((replica : ℕ) → P replica → IsMember members replica) → Set P
set_exists zero P decide within = (
  0,
  λ replica. (
    λ is. let none = has-zero replica in cc,
    λ holds. let is = within replica holds in absurd (omega (arith, is.at_least, is.at_most)),
  ),
)
set_exists (suc members) P decide within = go (decide (suc members))
    (set_exists members Before
    (λ replica. both_decided (decide replica) (is_member_or_not members replica)) (λ replica holds. holds.1))
  where
    Before : ℕ → Type 0
    Before replica = P replica × IsMember members replica

    earlier : (replica : ℕ) → P replica → (replica ≡ suc members → ⊥) → Before replica
    earlier replica holds other =
        let is = within replica holds in
        (holds, record { at_least = is.at_least; at_most = omega (arith, is.at_most, other) })

    go : Decided (P (suc members)) → Set Before → Set P
    go (inl last) (marks, has_all) = (bit_or marks (2 ^ members), λ replica. (out replica, into replica (cases_eq replica (suc members))))
      where
        out : (replica : ℕ) → IsTrue (has (bit_or marks (2 ^ members)) replica) → P replica
        out replica is = pick (either_holds (has marks replica) (has (2 ^ members) replica)
            (subst IsTrue (has-or marks (2 ^ members) replica) is))
          where
            pick : IsTrue (has marks replica) ⊎ IsTrue (has (2 ^ members) replica) → P replica
            pick (inl before_it) = ((has_all replica).0 before_it).0
            pick (inr itself) = subst P (sym ((alone members replica).0 itself)) last

        into : (replica : ℕ) → (replica ≡ suc members) ⊎ (replica ≡ suc members → ⊥) → P replica →
            IsTrue (has (bit_or marks (2 ^ members)) replica)
        into replica (inl same) holds = subst IsTrue (sym (has-or marks (2 ^ members) replica))
            (second_holds (has marks replica) (has (2 ^ members) replica) ((alone members replica).1 same))
        into replica (inr other) holds = subst IsTrue (sym (has-or marks (2 ^ members) replica))
            (first_holds (has marks replica) (has (2 ^ members) replica)
            ((has_all replica).1 (earlier replica holds other)))
    go (inr none) (marks, has_all) = (
      marks,
      λ replica. (
        λ is. ((has_all replica).0 is).0,
        λ holds. (has_all replica).1 (earlier replica holds (λ same. none (subst P same holds))),
      ),
    )

-- each removed entry that is known and not dropped is marked
pub marked_exists : (volume : Volume) (H : List Event) (replica : ℕ) (id : Id) → IsLawful volume H →
    IsEnteredAs H (Knows H replica) id → IsRemoved H (Knows H replica) id →
    (IsDropped volume.members H replica id → ⊥) → HasMarks volume.members H replica id
marked_exists volume H replica id lawful entered removed held =
    let one = set_exists volume.members (λ peer. IsInOne H replica peer id) (λ peer. one_decided H replica peer id)
    (λ peer is. lawful_member volume H lawful is.heard.own) in
    let two = set_exists volume.members (λ peer. IsInTwo volume.members H replica peer id)
    (λ peer. two_decided volume.members H replica peer id)
    (λ peer is. lawful_member volume H lawful is.heard.own) in
    record {
      one = one.0;
      two = two.0;
      marked = record { entered = entered; removed = removed; held = held; first = one.1; second = two.1 };
    }
