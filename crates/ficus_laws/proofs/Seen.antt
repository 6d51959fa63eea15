-- What an event has seen.
use Rattle.std.proofs.Common.{ℕ, ◌<◌, ◌≤◌, List, ◌++◌, length, length-take, arith}
use Rattle.ficus_model.specs.declared.event.Event.{Event}
use Rattle.ficus_model.specs.Events.{before}
use Rattle.ficus_model.specs.Known.{HasSeen}
use Rattle.ficus_model.specs.Known.HasSeen.{Itself, Earlier, Heard}
use Rattle.ficus_laws.proofs.Positions.{AgreeBelow, agree_back, agree_more, agree_before, agree_at, agree_of, at_within, of_within}

-- an event sees no later position
pub seen_within : {H : List Event} {at seen : ℕ} → HasSeen H at seen → (seen ≤ at) × (at < length H)
seen_within (Itself o) = (omega arith, of_within o)
seen_within (Earlier o p l s) = let h = seen_within s in (omega arith, of_within o)
seen_within (Heard a l s) = let h = seen_within s in (omega arith, at_within a)

pub agree_seen : {n : ℕ} {H K : List Event} {at seen : ℕ} → AgreeBelow n H K → at < n → HasSeen H at seen →
    HasSeen K at seen
agree_seen g h (Itself o) = Itself (agree_of g h o)
agree_seen g h (Earlier o p l s) =
    Earlier (agree_of g h o) (agree_of g (omega arith) p) l (agree_seen g (omega arith) s)
agree_seen g h (Heard a l s) = Heard (agree_at g h a) l (agree_seen g (omega arith) s)

-- more events change nothing of what the earlier ones have seen
pub seen_more : {H : List Event} {at seen : ℕ} (T : List Event) → HasSeen H at seen → HasSeen (H ++ T) at seen
seen_more {H} T s = agree_seen (agree_more H T) (seen_within s).1 s

pub seen_less : {H : List Event} {at seen : ℕ} (T : List Event) → HasSeen (H ++ T) at seen → at < length H →
    HasSeen H at seen
seen_less {H} T s h = agree_seen (agree_back (agree_more H T)) h s

-- the same among the first events
pub seen_before : {H : List Event} {n at seen : ℕ} → at < n → HasSeen H at seen → HasSeen (before n H) at seen
seen_before {H} {n} h s = agree_seen (agree_back (agree_before n H)) h s

pub seen_from_before : {H : List Event} {at seen : ℕ} (n : ℕ) → HasSeen (before n H) at seen →
    (at < n) × HasSeen H at seen
seen_from_before {H} {at} n s =
    let h : at < n = omega (arith, seen_within s, length-take n H) in
    (h, agree_seen (agree_before n H) h s)

-- what an event has seen sees, the event has seen
pub seen_through : {H : List Event} {at middle seen : ℕ} → HasSeen H at middle → HasSeen H middle seen →
    HasSeen H at seen
seen_through (Itself o) t = t
seen_through (Earlier o p l s) t = Earlier o p l (seen_through s t)
seen_through (Heard a l s) t = Heard a l (seen_through s t)
