-- What is decided at each position of a history is decided of all of them.
use Rattle.std.proofs.Common.{◌≡◌, ◌⊎◌, ℕ, zero, suc, ◌<◌, ◌≤◌, List, length, subst, sym, inl, inr, arith}
use Rattle.std.proofs.lemmas.Bool.{cases_lt, cases_eq}
use Rattle.ficus_ids.specs.Members.{IsMember}
use Rattle.ficus_ids.specs.declared.id.Id.{Id}
use Rattle.ficus_model.specs.declared.event.Event.{Event}
use Rattle.ficus_model.specs.declared.event.Event.TheVariants.{Collect}
use Rattle.ficus_model.specs.declared.event.Op.{Op}
use Rattle.ficus_model.specs.Events.{IsAt, IsUpdate}
use Rattle.ficus_laws.proofs.Positions.{at_exists, at_same, at_within}
use Rattle.ficus_laws.proofs.Deciding.{Decided, HasLast, NoneBelow, decided_from, last_or_none, update_decided}

-- where something is only at positions of the history, it is decided whether it is at one
pub some_position : (H : List Event) (P : ℕ → Type 0) → ((position : ℕ) → Decided (P position)) →
    ((position : ℕ) → P position → position < length H) → Decided ((position : ℕ) × P position)
some_position H P decide within = go (last_or_none P (length H) (λ position l. decide position))
  where
    go : HasLast P (length H) ⊎ NoneBelow P (length H) → Decided ((position : ℕ) × P position)
    go (inl (last, found)) = inl (last, found.holds)
    go (inr none) = inr (λ some. none some.0 (within some.0 some.1) some.1)

-- what is decided of each member is decided of all
pub all_members : (members : ℕ) (P : ℕ → Type 0) → ((member : ℕ) → Decided (P member)) →
    Decided ((member : ℕ) → IsMember members member → P member)
all_members zero P decide = inl (λ member is. absurd (omega (arith, is.at_least, is.at_most)))
all_members (suc members) P decide = go (decide (suc members)) (all_members members P decide)
  where
    all : P (suc members) → ((member : ℕ) → IsMember members member → P member) → (member : ℕ) →
        (member ≡ suc members) ⊎ (member ≡ suc members → ⊥) → IsMember (suc members) member → P member
    all last before member (inl same) is = subst P (sym same) last
    all last before member (inr other) is =
        before member (record { at_least = is.at_least; at_most = omega (arith, is.at_most, other) })

    fewer : (member : ℕ) → IsMember members member → IsMember (suc members) member
    fewer member is = record { at_least = is.at_least; at_most = omega (arith, is.at_most) }

    go : Decided (P (suc members)) → Decided ((member : ℕ) → IsMember members member → P member) →
        Decided ((member : ℕ) → IsMember (suc members) member → P member)
    go (inl last) (inl before) = inl (λ member is. all last before member (cases_eq member (suc members)) is)
    go (inl last) (inr some) = inr (λ every. some (λ member is. every member (fewer member is)))
    go (inr none) before =
        inr (λ every. none (every (suc members) (record { at_least = omega arith; at_most = omega arith })))

-- the update that stands at a position, if one does
pub record HasUpdateAt (H : List Event) (position : ℕ) : Type 0 where
  pub number : Id
  pub op : Op
  pub update : IsUpdate H position number op

pub update_or_none : (H : List Event) (position : ℕ) → Decided (HasUpdateAt H position)
update_or_none H position = decided_from
    (λ with. record { number = with.number; op = with.op; update = with.update })
    (λ has. record { number = has.number; op = has.op; update = has.update; holds = tt })
    (update_decided H (λ number op. Unit {0}) (λ number op. inl tt) position)

-- whether the replica collects at a position
pub collect_decided : (H : List Event) (position replica : ℕ) → Decided (IsAt H position (Collect replica))
collect_decided H position replica = go (cases_lt position (length H))
  where
    none : (event : Event) → IsAt H position event → (event ≡ Collect replica → ⊥) →
        Decided (IsAt H position (Collect replica))
    none event at other = inr (λ is. other (at_same at is))

    own : (by : ℕ) → IsAt H position (Collect by) → (by ≡ replica) ⊎ (by ≡ replica → ⊥) →
        Decided (IsAt H position (Collect replica))
    own by at (inl same) = inl (subst (λ r. IsAt H position (Collect r)) same at)
    own by at (inr other) = inr (λ is. other (let e : Collect by ≡ Collect replica = at_same at is in cc))

    is : (event : Event) → IsAt H position event → Decided (IsAt H position (Collect replica))
    is (Collect by) at = own by at (cases_eq by replica)
    is event at = none event at (λ e. cc)

    go : (position < length H) ⊎ (length H ≤ position) → Decided (IsAt H position (Collect replica))
    go (inl l) = let found = at_exists H position l in is found.0 found.1
    go (inr h) = inr (λ is. omega (arith, at_within is))
