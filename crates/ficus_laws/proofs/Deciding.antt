-- What can be decided: what stands at a position, and whether a replica knows it.
use Rattle.std.proofs.Common.{◌≡◌, ◌⊎◌, ℕ, zero, suc, ◌+◌, ◌<◌, ◌≤◌, List, length, refl, subst, inl, inr, arith}
use Rattle.std.proofs.lemmas.Bool.{cases_lt, cases_eq}
use Rattle.ficus_ids.specs.declared.id.Id.{Id}
use Rattle.ficus_model.specs.declared.event.Event.{Event}
use Rattle.ficus_model.specs.declared.event.Event.TheVariants.{Update, Accept}
use Rattle.ficus_model.specs.declared.event.Op.{Op}
use Rattle.ficus_model.specs.Events.{IsAt, IsOf, IsUpdate, actor}
use Rattle.ficus_model.specs.Known.{HasSeen, Knows}
use Rattle.ficus_model.specs.Known.HasSeen.{Itself, Earlier, Heard}
use Rattle.ficus_laws.proofs.Past.{update_numbered, update_same}
use Rattle.ficus_laws.proofs.Positions.{at_exists, at_same, at_within, of_at, of_same, of_within}
use Rattle.ficus_laws.proofs.Seen.{seen_within}

-- it holds, or it doesn't
abbrev pub Decided : Type 0 → Type 0
Decided P = P ⊎ (P → ⊥)

pub both_decided : {P Q : Type 0} → Decided P → Decided Q → Decided (P × Q)
both_decided (inl p) (inl q) = inl (p, q)
both_decided (inl p) (inr none) = inr (λ both. none both.1)
both_decided (inr none) q = inr (λ both. none both.0)

pub either_decided : {P Q : Type 0} → Decided P → Decided Q → Decided (P ⊎ Q)
either_decided (inl p) q = inl (inl p)
either_decided (inr no_p) (inl q) = inl (inr q)
either_decided {P} {Q} (inr no_p) (inr no_q) = inr none
  where
    none : P ⊎ Q → ⊥
    none (inl p) = no_p p
    none (inr q) = no_q q

pub not_decided : {P : Type 0} → Decided P → Decided (P → ⊥)
not_decided (inl p) = inr (λ none. none p)
not_decided (inr none) = inl none

-- what follows from a decided property and implies it is decided
pub decided_from : {P Q : Type 0} → (P → Q) → (Q → P) → Decided P → Decided Q
decided_from there back (inl p) = inl (there p)
decided_from there back (inr none) = inr (λ q. none (back q))

-- the last number below n of which P holds
pub record IsLast (P : ℕ → Type 0) (n last : ℕ) : Type 0 where
  pub below : last < n
  pub holds : P last
  pub latest : (other : ℕ) → other < n → P other → other ≤ last

abbrev pub HasLast : (ℕ → Type 0) → ℕ → Type 0
HasLast P n = (last : ℕ) × IsLast P n last

abbrev pub NoneBelow : (ℕ → Type 0) → ℕ → Type 0
NoneBelow P n = (number : ℕ) → number < n → P number → ⊥

below_or_at : {number n : ℕ} → number < suc n → (number < n) ⊎ (number ≡ n)
below_or_at {number} {n} h = go (cases_lt number n)
  where
    go : (number < n) ⊎ (n ≤ number) → (number < n) ⊎ (number ≡ n)
    go (inl l) = inl l
    go (inr g) = inr (omega arith)

-- what can be decided holds of a last number below n, or of none
pub last_or_none : (P : ℕ → Type 0) (n : ℕ) → ((number : ℕ) → number < n → Decided (P number)) →
    HasLast P n ⊎ NoneBelow P n
last_or_none P zero decide = inr (λ number h holds. omega arith)
last_or_none P (suc n) decide = go (decide n (omega arith)) (last_or_none P n (λ number h. decide number (omega arith)))
  where
    latest : {last : ℕ} → IsLast P n last → (P n → ⊥) → (other : ℕ) → (other < n) ⊎ (other ≡ n) → P other → other ≤ last
    latest found none other (inl h) holds = found.latest other h holds
    latest found none other (inr is) holds = absurd (none (subst P is holds))

    nowhere : NoneBelow P n → (P n → ⊥) → (other : ℕ) → (other < n) ⊎ (other ≡ n) → P other → ⊥
    nowhere below none other (inl h) holds = below other h holds
    nowhere below none other (inr is) holds = none (subst P is holds)

    go : Decided (P n) → HasLast P n ⊎ NoneBelow P n → HasLast P (suc n) ⊎ NoneBelow P (suc n)
    go (inl holds) rest = inl (n, record { below = omega arith; holds = holds; latest = λ other h p. omega arith })
    go (inr none) (inl (last, found)) = inl (
      last,
      record {
        below = omega (arith, found.below);
        holds = found.holds;
        latest = λ other h p. latest found none other (below_or_at h) p;
      },
    )
    go (inr none) (inr below) = inr (λ other h p. nowhere below none other (below_or_at h) p)

pub of_decided : (H : List Event) (position replica : ℕ) → Decided (IsOf H position replica)
of_decided H position replica = go (cases_lt position (length H))
  where
    is : (event : Event) → IsAt H position event → Decided (actor event ≡ replica) → Decided (IsOf H position replica)
    is event at (inl same) = inl (record { event = event; at = at; of = same })
    is event at (inr differs) = inr (λ own. differs (of_same (of_at at) own))

    go : (position < length H) ⊎ (length H ≤ position) → Decided (IsOf H position replica)
    go (inl h) = let found = at_exists H position h in is found.0 found.1 (cases_eq (actor found.0) replica)
    go (inr h) = inr (λ own. omega (arith, of_within own))

-- at the position stands an update for which this holds
pub record IsUpdateWith (H : List Event) (P : Id → Op → Type 0) (position : ℕ) : Type 0 where
  pub number : Id
  pub op : Op
  pub update : IsUpdate H position number op
  pub holds : P number op

pub update_decided : (H : List Event) (P : Id → Op → Type 0) → ((number : Id) (op : Op) → Decided (P number op)) →
    (position : ℕ) → Decided (IsUpdateWith H P position)
update_decided H P decide position = go (cases_lt position (length H))
  where
    no_update : (event : Event) → IsAt H position event → ((by : ℕ) (op : Op) → event ≡ Update by op → ⊥) →
        Decided (IsUpdateWith H P position)
    no_update event a none = inr (λ u. none u.number.replica u.op (at_same a u.update.at))

    with_number : {number : Id} {op : Op} → IsUpdate H position number op → Decided (P number op) →
        Decided (IsUpdateWith H P position)
    with_number {number} {op} u (inl holds) = inl (record { number = number; op = op; update = u; holds = holds })
    with_number {number} {op} u (inr none) = inr (λ w. none (let s = update_same u w.update in rw (s.0, s.1) w.holds))

    is : (event : Event) → IsAt H position event → Decided (IsUpdateWith H P position)
    is (Update by op) a = let u = update_numbered a in with_number u (decide _ op)
    is event a = no_update event a (λ q op e. cc)

    go : (position < length H) ⊎ (length H ≤ position) → Decided (IsUpdateWith H P position)
    go (inl l) = let found = at_exists H position l in is found.0 found.1
    go (inr l) = inr (λ u. omega (arith, at_within u.update.at))

-- an event that hasn't seen a position: it is another, no earlier event of its replica has, and it wasn't told
refuted : {H : List Event} {at seen replica : ℕ} → IsOf H at replica → (at ≡ seen → ⊥) →
    ((old : ℕ) → old < at → IsOf H old replica × HasSeen H old seen → ⊥) →
    ((taker served piece : ℕ) → served < at → IsAt H at (Accept taker served piece) → HasSeen H served seen → ⊥) →
    HasSeen H at seen → ⊥
refuted here other own told (Itself o) = other refl
refuted {H} here other own told (Earlier {old = old} o p l s) =
    own old l (subst (λ by. IsOf H old by) (of_same o here) p, s)
refuted here other own told (Heard {served = served} {piece = piece} {replica = taker} a l s) = told taker served piece l a s

-- In each of these it is decided what the earlier events have seen of a position.
module _ (H : List Event) (at seen : ℕ) (earlier : (old : ℕ) → old < at → Decided (HasSeen H old seen)) where
  -- the event takes what was served where the position had been seen
  abbrev IsToldOf : Type 0
  IsToldOf = (taker : ℕ) × (served : ℕ) × (piece : ℕ) × (served < at) × IsAt H at (Accept taker served piece) × HasSeen H served seen

  takes_nothing : (event : Event) → IsAt H at event → ((taker served piece : ℕ) → event ≡ Accept taker served piece → ⊥) →
      Decided IsToldOf
  takes_nothing event a none = inr (λ told. none told.0 told.1 told.2 (at_same a told.4))

  told_decided : (event : Event) → IsAt H at event → Decided IsToldOf
  told_decided (Accept by serve piece) a = go (cases_lt serve at)
    where
      same : {taker served other : ℕ} → IsAt H at (Accept taker served other) → served ≡ serve
      same {taker} {served} {other} b = let e : Accept by serve piece ≡ Accept taker served other = at_same a b in cc

      was : serve < at → Decided (HasSeen H serve seen) → Decided IsToldOf
      was h (inl s) = inl (by, serve, piece, h, a, s)
      was h (inr none) = inr (λ told. none (subst (λ served. HasSeen H served seen) (same told.4) told.5))

      go : (serve < at) ⊎ (at ≤ serve) → Decided IsToldOf
      go (inl h) = was h (earlier serve h)
      go (inr h) = inr (λ told. let e = same told.4 in let l = told.3 in omega arith)
  told_decided event a = takes_nothing event a (λ taker served piece e. cc)

  abbrev HasOwn : ℕ → ℕ → Type 0
  HasOwn by old = IsOf H old by × HasSeen H old seen

  seen_decided_after : Decided (HasSeen H at seen)
  seen_decided_after = go (of_exists (cases_lt at (length H)))
    where
      of_exists : (at < length H) ⊎ (length H ≤ at) → ((event : Event) × IsAt H at event) ⊎ (length H ≤ at)
      of_exists (inl h) = inl (at_exists H at h)
      of_exists (inr h) = inr h

      step : (event : Event) → IsAt H at event → Decided (at ≡ seen) →
          HasLast (HasOwn (actor event)) at ⊎ NoneBelow (HasOwn (actor event)) at → Decided IsToldOf →
          Decided (HasSeen H at seen)
      step event a (inl same) own told = inl (subst (λ position. HasSeen H at position) same (Itself (of_at a)))
      step event a (inr other) (inl (old, found)) told = inl (Earlier (of_at a) found.holds.0 found.below found.holds.1)
      step event a (inr other) (inr none) (inl told) = inl (Heard told.4 told.3 told.5)
      step event a (inr other) (inr none) (inr untold) =
          inr (refuted (of_at a) other none (λ taker served piece h b s. untold (taker, served, piece, h, b, s)))

      go : ((event : Event) × IsAt H at event) ⊎ (length H ≤ at) → Decided (HasSeen H at seen)
      go (inl (event, a)) = step event a (cases_eq at seen)
          (last_or_none
          (HasOwn (actor event))
          at
          (λ old h. both_decided (of_decided H old (actor event)) (earlier old h)))
          (told_decided event a)
      go (inr h) = inr (λ s. omega (arith, seen_within s))

seen_decided_below : (H : List Event) (bound at seen : ℕ) → at < bound → Decided (HasSeen H at seen)
seen_decided_below H zero at seen h = absurd (omega arith)
seen_decided_below H (suc bound) at seen h =
    seen_decided_after H at seen (λ old l. seen_decided_below H bound old seen (omega arith))

pub seen_decided : (H : List Event) (at seen : ℕ) → Decided (HasSeen H at seen)
seen_decided H at seen = seen_decided_below H (at + 1) at seen (omega arith)

pub knows_decided : (H : List Event) (replica position : ℕ) → Decided (Knows H replica position)
knows_decided H replica position = go (last_or_none
    (λ at. IsOf H at replica × HasSeen H at position)
    (length H)
    (λ at h. both_decided (of_decided H at replica) (seen_decided H at position)))
  where
    go : HasLast (λ at. IsOf H at replica × HasSeen H at position) (length H) ⊎
        NoneBelow (λ at. IsOf H at replica × HasSeen H at position) (length H) →
        Decided (Knows H replica position)
    go (inl (last, found)) = inl (record { last = last; own = found.holds.0; seen = found.holds.1 })
    go (inr none) = inr (λ k. none k.last (of_within k.own) (k.own, k.seen))
