-- Which event stands at which position, also in a longer history and among the first events.
use Rattle.std.proofs.Common.{◌≡◌, ℕ, zero, suc, ◌<◌, ◌≤◌, List, [], ◌∷◌, ◌++◌, length, take, Some, refl, sym, ap, ◌∙◌, inl, inr, ◌⊎◌, arith}
use Rattle.std.specs.Prelude.{slice_get}
use Rattle.std.proofs.lemmas.Bool.{cases_lt}
use Rattle.std.proofs.lemmas.List.{length_push, take_more}
use Rattle.std.proofs.lemmas.Option.{slice_get_within, same_Some, get_or_from_slice_get}
use Rattle.ficus_model.specs.declared.event.Event.{Event}
use Rattle.ficus_model.specs.Events.{IsAt, IsOf, before, through, actor}

get_append : {X : Type 0} (xs ys : List X) (i : ℕ) → i < length xs → slice_get xs i ≡ slice_get (xs ++ ys) i
get_append [] ys i h = absurd (omega arith)
get_append (x ∷ xs) ys zero h = refl
get_append (x ∷ xs) ys (suc i) h = get_append xs ys i (omega arith)

get_end : {X : Type 0} (xs : List X) (y : X) → slice_get (xs ++ y ∷ []) (length xs) ≡ Some y
get_end [] y = refl
get_end (x ∷ xs) y = get_end xs y

get_take : {X : Type 0} (n : ℕ) (xs : List X) (i : ℕ) → i < n → slice_get (take n xs) i ≡ slice_get xs i
get_take zero xs i h = absurd (omega arith)
get_take (suc n) [] i h = refl
get_take (suc n) (x ∷ xs) zero h = refl
get_take (suc n) (x ∷ xs) (suc i) h = get_take n xs i (omega arith)

get_past_take : {X : Type 0} (n : ℕ) (xs : List X) (i : ℕ) (x : X) → slice_get (take n xs) i ≡ Some x → i < n
get_past_take zero xs i x e = cc
get_past_take (suc n) [] i x e = cc
get_past_take (suc n) (y ∷ xs) zero x e = omega arith
get_past_take (suc n) (y ∷ xs) (suc i) x e = let h = get_past_take n xs i x e in omega arith

get_exists : {X : Type 0} (xs : List X) (i : ℕ) → i < length xs → (x : X) × (slice_get xs i ≡ Some x)
get_exists [] i h = absurd (omega arith)
get_exists (x ∷ xs) zero h = (x, refl)
get_exists (x ∷ xs) (suc i) h = get_exists xs i (omega arith)

take_same : {X : Type 0} (n : ℕ) (xs ys : List X) → ((i : ℕ) → i < n → slice_get xs i ≡ slice_get ys i) →
    take n xs ≡ take n ys
take_same zero xs ys h = refl
take_same (suc n) [] [] h = refl
take_same (suc n) [] (y ∷ ys) h = let e = h 0 (omega arith) in cc
take_same (suc n) (x ∷ xs) [] h = let e = h 0 (omega arith) in cc
take_same (suc n) (x ∷ xs) (y ∷ ys) h =
    let e = same_Some x y (h 0 (omega arith)) in
    let r = take_same n xs ys (λ i l. h (suc i) (omega arith)) in
    cc

-- two histories have the same events below a position
pub record AgreeBelow (n : ℕ) (H K : List Event) : Type 0 where
  pub same : (position : ℕ) → position < n → slice_get H position ≡ slice_get K position

pub agree_back : {n : ℕ} {H K : List Event} → AgreeBelow n H K → AgreeBelow n K H
agree_back g = record { same = λ position h. sym (g.same position h) }

pub agree_more : (H T : List Event) → AgreeBelow (length H) H (H ++ T)
agree_more H T = record { same = λ position h. get_append H T position h }

pub agree_before : (n : ℕ) (H : List Event) → AgreeBelow n (before n H) H
agree_before n H = record { same = λ position h. get_take n H position h }

pub agree_at : {n : ℕ} {H K : List Event} {position : ℕ} {event : Event} → AgreeBelow n H K → position < n →
    IsAt H position event → IsAt K position event
agree_at {position} g h a = record { is = sym (g.same position h) ∙ a.is }

pub agree_of : {n : ℕ} {H K : List Event} {position replica : ℕ} → AgreeBelow n H K → position < n →
    IsOf H position replica → IsOf K position replica
agree_of g h o = record { event = o.event; at = agree_at g h o.at; of = o.of }

pub agree_take : {n : ℕ} {H K : List Event} {position : ℕ} → AgreeBelow n H K → position ≤ n →
    before position H ≡ before position K
agree_take {H} {K} {position} g h = take_same position H K (λ j l. g.same j (omega arith))

-- the position of an event is below the length
pub at_within : {H : List Event} {position : ℕ} {event : Event} → IsAt H position event → position < length H
at_within {H} {position} {event} a = slice_get_within H position event a.is

-- at each position below the length stands an event
pub at_exists : (H : List Event) (position : ℕ) → position < length H → (event : Event) × IsAt H position event
at_exists H position h = let found = get_exists H position h in (found.0, record { is = found.1 })

-- at most one event stands at a position
pub at_same : {H : List Event} {position : ℕ} {event other : Event} → IsAt H position event → IsAt H position other →
    event ≡ other
at_same {event} {other} a b = same_Some event other (sym a.is ∙ b.is)

-- more events leave each at its position
pub at_more : {H : List Event} {position : ℕ} {event : Event} (T : List Event) → IsAt H position event →
    IsAt (H ++ T) position event
at_more {H} T a = agree_at (agree_more H T) (at_within a) a

pub at_less : {H : List Event} {position : ℕ} {event : Event} (T : List Event) → IsAt (H ++ T) position event →
    position < length H → IsAt H position event
at_less {H} T a h = agree_at (agree_back (agree_more H T)) h a

-- one more event stands at the end
pub at_end : (H : List Event) (event : Event) → IsAt (H ++ event ∷ []) (length H) event
at_end H event = record { is = get_end H event }

-- what stands somewhere after one more event stood there before, or is that event at the end
pub at_cases : {H : List Event} {position : ℕ} {found : Event} (event : Event) → IsAt (H ++ event ∷ []) position found →
    IsAt H position found ⊎ ((position ≡ length H) × (found ≡ event))
at_cases {H} {position} {found} event a = go (cases_lt position (length H))
  where
    go : (position < length H) ⊎ (length H ≤ position) →
        IsAt H position found ⊎ ((position ≡ length H) × (found ≡ event))
    go (inl h) = inl (at_less (event ∷ []) a h)
    go (inr h) =
        let s : position ≡ length H = omega (arith, at_within a, length_push H event) in
        inr (s, at_same a (rw s (at_end H event)))

-- the events through a position are those before it and the one there
pub through_is : {H : List Event} {position : ℕ} {event : Event} → IsAt H position event →
    through position H ≡ before position H ++ event ∷ []
through_is {H} {position} {event} a =
    take_more H position event (at_within a) ∙ ap (λ found. before position H ++ found ∷ []) (get_or_from_slice_get H position event event a.is)

-- what stands among the first events
pub at_before : {H : List Event} {n position : ℕ} {event : Event} → position < n → IsAt H position event →
    IsAt (before n H) position event
at_before {H} {n} h a = agree_at (agree_back (agree_before n H)) h a

pub at_from_before : {H : List Event} {position : ℕ} {event : Event} (n : ℕ) → IsAt (before n H) position event →
    (position < n) × IsAt H position event
at_from_before {H} {position} {event} n a =
    let h = get_past_take n H position event a.is in
    (h, agree_at (agree_before n H) h a)

-- the same of the replica whose event stands there
pub of_at : {H : List Event} {position : ℕ} {event : Event} → IsAt H position event → IsOf H position (actor event)
of_at {event} a = record { event = event; at = a; of = refl }

pub of_within : {H : List Event} {position replica : ℕ} → IsOf H position replica → position < length H
of_within o = at_within o.at

pub of_same : {H : List Event} {position replica other : ℕ} → IsOf H position replica → IsOf H position other →
    replica ≡ other
of_same o p = sym o.of ∙ ap actor (at_same o.at p.at) ∙ p.of

pub of_more : {H : List Event} {position replica : ℕ} (T : List Event) → IsOf H position replica →
    IsOf (H ++ T) position replica
of_more {H} T o = agree_of (agree_more H T) (of_within o) o

pub of_less : {H : List Event} {position replica : ℕ} (T : List Event) → IsOf (H ++ T) position replica →
    position < length H → IsOf H position replica
of_less {H} T o h = agree_of (agree_back (agree_more H T)) h o

pub of_end : (H : List Event) (event : Event) → IsOf (H ++ event ∷ []) (length H) (actor event)
of_end H event = of_at (at_end H event)

pub of_cases : {H : List Event} {position replica : ℕ} (event : Event) → IsOf (H ++ event ∷ []) position replica →
    IsOf H position replica ⊎ ((position ≡ length H) × (actor event ≡ replica))
of_cases {H} {position} {replica} event o = go (at_cases event o.at)
  where
    go : IsAt H position o.event ⊎ ((position ≡ length H) × (o.event ≡ event)) →
        IsOf H position replica ⊎ ((position ≡ length H) × (actor event ≡ replica))
    go (inl a) = inl (record { event = o.event; at = a; of = o.of })
    go (inr p) = inr (p.0, ap actor (sym p.1) ∙ o.of)

pub of_before : {H : List Event} {n position replica : ℕ} → position < n → IsOf H position replica →
    IsOf (before n H) position replica
of_before {H} {n} h o = agree_of (agree_back (agree_before n H)) h o

pub of_from_before : {H : List Event} {position replica : ℕ} (n : ℕ) → IsOf (before n H) position replica →
    (position < n) × IsOf H position replica
of_from_before {H} n o =
    let h = (at_from_before n o.at).0 in
    (h, agree_of (agree_before n H) h o)
