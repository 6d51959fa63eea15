-- Updates, their numbers, and how many there are.
use Rattle.std.proofs.Common.{◌≡◌, ◌≢◌, ℕ, ◌+◌, ◌<◌, ◌≤◌, List, [], ◌∷◌, ◌++◌, length, true, false, cond, refl, sym, ap, ◌∙◌, inl, inr, ◌⊎◌, arith, rules}
use Rattle.std.specs.Prelude.{Bool, ◌&&◌, ◌==◌, is_some}
use Rattle.std.proofs.lemmas.Bool.{cases_order}
use Rattle.std.proofs.lemmas.List.{take_at}
use Rattle.std.proofs.lemmas.List.Sums.{sum_by-take-le}
use Rattle.ficus_ids.specs.declared.id.Id.{Id}
use Rattle.ficus_model.specs.declared.event.Event.{Event}
use Rattle.ficus_model.specs.declared.event.Event.TheVariants.{Update}
use Rattle.ficus_model.specs.declared.event.Op.{Op}
use Rattle.ficus_model.specs.Events.{IsAt, IsUpdate, before, through, actor, is_update_of, count_of, traits}
use Rattle.ficus_laws.specs.Updates.{next_number, IsIssued}
use Rattle.ficus_laws.proofs.Counts.{counted_one, counted_none, counted_before, counted_through}
use Rattle.ficus_laws.proofs.Positions.{AgreeBelow, agree_back, agree_more, agree_at, agree_take, at_within, at_same, at_end, at_cases}

update_is_of : (replica : ℕ) (op : Op) → is_update_of replica (Update replica op) ≡ true
update_is_of replica op = search rules

-- a test that is no other's fails for another replica, and where it holds it is this replica's
pub not_own : (test : Bool) (by replica : ℕ) → by ≢ replica → (test && (by == replica)) ≡ false
not_own true by replica n = grind arith
not_own false by replica n = refl

pub is_own : (test : Bool) (by replica : ℕ) → (test && (by == replica)) ≡ true → by ≡ replica
is_own true by replica is = grind arith
is_own false by replica is = absurd (cc)

pub is_update_of_other : (replica : ℕ) (event : Event) → actor event ≢ replica → is_update_of replica event ≡ false
is_update_of_other replica event n = not_own (is_some (traits event).update) (actor event) replica n

pub count_update : (replica : ℕ) (H : List Event) (op : Op) →
    count_of replica (H ++ Update replica op ∷ []) ≡ count_of replica H + 1
count_update replica H op = counted_one (is_update_of replica) H (Update replica op) (update_is_of replica op)

pub count_no_update : (replica : ℕ) (H : List Event) (event : Event) → is_update_of replica event ≡ false →
    count_of replica (H ++ event ∷ []) ≡ count_of replica H
count_no_update replica H event none = counted_none (is_update_of replica) H event none

pub count_of_other : (replica : ℕ) (H : List Event) (event : Event) → actor event ≢ replica →
    count_of replica (H ++ event ∷ []) ≡ count_of replica H
count_of_other replica H event n = count_no_update replica H event (is_update_of_other replica event n)

count_through : (replica : ℕ) (H : List Event) (position : ℕ) (op : Op) → IsAt H position (Update replica op) →
    count_of replica (through position H) ≡ count_of replica (before position H) + 1
count_through replica H position op a = counted_through (is_update_of replica) a (update_is_of replica op)

pub agree_update : {n : ℕ} {H K : List Event} {position : ℕ} {number : Id} {op : Op} → AgreeBelow n H K → position < n →
    IsUpdate H position number op → IsUpdate K position number op
agree_update {number} g h u = record {
  at = agree_at g h u.at;
  counted = u.counted ∙ ap (λ L. count_of number.replica L + 1) (agree_take g (omega arith));
}

-- the position of an update is below the length
pub update_within : {H : List Event} {position : ℕ} {number : Id} {op : Op} → IsUpdate H position number op →
    position < length H
update_within u = at_within u.at

-- more events leave each update at its position with its number
pub update_more : {H : List Event} {position : ℕ} {number : Id} {op : Op} (T : List Event) →
    IsUpdate H position number op → IsUpdate (H ++ T) position number op
update_more {H} T u = agree_update (agree_more H T) (update_within u) u

pub update_less : {H : List Event} {position : ℕ} {number : Id} {op : Op} (T : List Event) →
    IsUpdate (H ++ T) position number op → position < length H → IsUpdate H position number op
update_less {H} T u h = agree_update (agree_back (agree_more H T)) h u

-- one more update has the next number of its replica
pub update_end : (H : List Event) (replica : ℕ) (op : Op) →
    IsUpdate (H ++ Update replica op ∷ []) (length H) (next_number replica H) op
update_end H replica op = record {
  at = at_end H (Update replica op);
  counted = ap (λ L. count_of replica L + 1) (sym (take_at H (Update replica op ∷ []) (length H) refl));
}

-- the identifier of these two numbers
abbrev pub id_of : ℕ → ℕ → Id
id_of replica number = record { replica = replica; number = number }

-- an update of a longer history was there before, or it is the last event, with the next number of its replica
pub update_cases : {H : List Event} {position : ℕ} {number : Id} {op : Op} (event : Event) →
    IsUpdate (H ++ event ∷ []) position number op →
    IsUpdate H position number op ⊎
    ((position ≡ length H) × (event ≡ Update number.replica op) × (number ≡ next_number number.replica H))
update_cases {H} {position} {number} {op} event u = go (at_cases event u.at)
  where
    last : position ≡ length H → number ≡ next_number number.replica H
    last h =
        let c : number.number ≡ count_of number.replica H + 1 = u.counted ∙ ap (λ L. count_of number.replica L + 1) (take_at H (event ∷ []) position (sym h)) in
        ap (λ (k : ℕ). id_of number.replica k) c

    go : IsAt H position (Update number.replica op) ⊎ ((position ≡ length H) × (Update number.replica op ≡ event)) →
        IsUpdate H position number op ⊎
        ((position ≡ length H) × (event ≡ Update number.replica op) × (number ≡ next_number number.replica H))
    go (inl a) = inl (update_less (event ∷ []) u (at_within a))
    go (inr p) = inr (p.0, sym p.1, last p.0)

-- a number is at least 1 and at most the count
pub update_issued : {H : List Event} {position : ℕ} {number : Id} {op : Op} → IsUpdate H position number op →
    IsIssued H number
update_issued {H} {position} {number} {op} u =
    let t = count_through number.replica H position op u.at in
    let w : count_of number.replica (through position H) ≤ count_of number.replica H =
    sum_by-take-le (λ event. cond (is_update_of number.replica event) 1 0) H (position + 1) in
    record { at_least = omega (arith, u.counted); at_most = omega (arith, u.counted, t, w) }

not_later : {H : List Event} {position again : ℕ} {number : Id} {op other : Op} → position < again →
    IsUpdate H position number op → IsUpdate H again number other → ⊥
not_later {H} {position} {again} {number} {op} h u v =
    let t = count_through number.replica H position op u.at in
    let b = counted_before (is_update_of number.replica) H (position + 1) again (omega arith) in
    omega (arith, u.counted, v.counted)

-- a number names one update
pub update_once : {H : List Event} {position again : ℕ} {number : Id} {op other : Op} → IsUpdate H position number op →
    IsUpdate H again number other → (position ≡ again) × (op ≡ other)
update_once {H} {position} {again} {number} {op} {other} u v = go (cases_order position again)
  where
    same : position ≡ again → op ≡ other
    same h = let e : Update number.replica op ≡ Update number.replica other = at_same u.at (rw h v.at) in cc

    go : (position ≡ again) ⊎ ((position < again) ⊎ (again < position)) → (position ≡ again) × (op ≡ other)
    go (inl h) = (h, same h)
    go (inr (inl h)) = absurd (not_later h u v)
    go (inr (inr h)) = absurd (not_later h v u)
