-- What a replica knows.
use Rattle.std.proofs.Common.{◌≡◌, ◌≢◌, ℕ, ◌+◌, ◌<◌, ◌≤◌, List, [], ◌∷◌, ◌++◌, length, refl, sym, ap, subst, inl, inr, ◌⊎◌, arith}
use Rattle.std.proofs.lemmas.Bool.{cases_lt}
use Rattle.std.proofs.lemmas.List.{length_push}
use Rattle.ficus_model.specs.declared.event.Event.{Event}
use Rattle.ficus_model.specs.declared.event.Event.TheVariants.{Accept}
use Rattle.ficus_model.specs.Events.{IsAt, IsOf, before, through, actor}
use Rattle.ficus_model.specs.Known.{HasSeen, Knows}
use Rattle.ficus_model.specs.Known.HasSeen.{Itself, Earlier, Heard}
use Rattle.ficus_laws.specs.Known.{Takes, IsTold, IsKnownAfter}
use Rattle.ficus_laws.proofs.Positions.{at_same, at_end, at_exists, of_at, of_within, of_same, of_more, of_less, of_end, of_before, of_from_before}
use Rattle.ficus_laws.proofs.Seen.{seen_within, seen_more, seen_less, seen_before, seen_from_before, seen_through}

-- nobody knows anything of the empty history
pub knows_none : {replica position : ℕ} → Knows [] replica position → ⊥
knows_none k = omega (arith, of_within k.own)

-- what is known is below the length
pub knows_within : {H : List Event} {replica position : ℕ} → Knows H replica position → position < length H
knows_within k = let h = seen_within k.seen in omega arith

-- a replica knows its own events
pub knows_own : {H : List Event} {replica position : ℕ} → IsOf H position replica → Knows H replica position
knows_own {position} o = record { last = position; own = o; seen = Itself o }

pub knows_end : (H : List Event) (event : Event) → Knows (H ++ event ∷ []) (actor event) (length H)
knows_end H event = knows_own (of_end H event)

-- what is known stays known
pub knows_more : {H : List Event} {replica position : ℕ} (T : List Event) → Knows H replica position →
    Knows (H ++ T) replica position
knows_more T k = record { last = k.last; own = of_more T k.own; seen = seen_more T k.seen }

pub knows_later : {H : List Event} {replica position : ℕ} (n : ℕ) → Knows (before n H) replica position →
    Knows H replica position
knows_later n k = record { last = k.last; own = (of_from_before n k.own).1; seen = (seen_from_before n k.seen).1 }

-- what an event that is known has seen is known
pub knows_past : {H : List Event} {replica middle position : ℕ} → Knows H replica middle → HasSeen H middle position →
    Knows H replica position
knows_past k s = record { last = k.last; own = k.own; seen = seen_through k.seen s }

-- what an event has seen is what its replica knew once the event had come
pub seen_knows : {H : List Event} {at replica position : ℕ} → IsOf H at replica → HasSeen H at position →
    Knows (through at H) replica position
seen_knows {H} {at} o s = record { last = at; own = of_before (omega arith) o; seen = seen_before (omega arith) s }

pub knows_seen : {H : List Event} {at replica position : ℕ} → IsOf H at replica →
    Knows (through at H) replica position → HasSeen H at position
knows_seen {H} {at} {replica} {position} o k = go (cases_lt k.last at)
  where
    own : (k.last < at + 1) × IsOf H k.last replica
    own = of_from_before (at + 1) k.own

    seen : HasSeen H k.last position
    seen = (seen_from_before (at + 1) k.seen).1

    go : (k.last < at) ⊎ (at ≤ k.last) → HasSeen H at position
    go (inl h) = Earlier o own.1 h seen
    go (inr h) = let here : k.last ≡ at = omega (arith, own.0) in rw here at seen

takes : (replica served piece : ℕ) (event : Event) → Accept replica served piece ≡ event → Takes event served
takes replica served piece event h = subst (λ x. Takes x served) h refl

takes_accept : (event : Event) (served : ℕ) → Takes event served →
    (piece : ℕ) × (event ≡ Accept (actor event) served piece)
takes_accept (Accept by serve piece) served t = (piece, ap (λ v. Accept by v piece) t)
takes_accept event served t = absurd t

end_of : (H : List Event) (event : Event) (at : ℕ) → at ≡ length H → IsOf (H ++ event ∷ []) at (actor event)
end_of H event at h = rw h (of_end H event)

end_is : (H : List Event) (event x : Event) (at : ℕ) → at ≡ length H → IsAt (H ++ event ∷ []) at x → event ≡ x
end_is H event x at h a = at_same (rw h (at_end H event)) a

told : {H : List Event} {served position : ℕ} (event : Event) → Takes event served → HasSeen H served position →
    IsTold H event position
told {H} {served} event t s =
    let x = at_exists H served (seen_within s).1 in
    record { served = served; server = actor x.0; takes = t; earlier = of_at x.1; known = seen_knows (of_at x.1) s }

end_seen : {at position : ℕ} (H : List Event) (event : Event) → at ≡ length H → HasSeen (H ++ event ∷ []) at position →
    Knows H (actor event) position ⊎ ((position ≡ length H) ⊎ IsTold H event position)
end_seen H event h (Itself o) = inr (inl h)
end_seen {at} H event h (Earlier {old = old} o p l s) =
    let own : IsOf (H ++ event ∷ []) old (actor event) = rw (of_same (end_of H event at h) o) p in
    let b : old < length H = omega arith in
    inl (record { last = old; own = of_less (event ∷ []) own b; seen = seen_less (event ∷ []) s b })
end_seen {at} H event h (Heard {served = served} {piece = piece} {replica = replica} a l s) =
    let t = takes replica served piece event (sym (end_is H event (Accept replica served piece) at h a)) in
    inr (inr (told event t (seen_less (event ∷ []) s (omega arith))))

-- what a replica knows after one more event, and what it then knows
pub knows_cases : {H : List Event} {replica position : ℕ} (event : Event) → Knows (H ++ event ∷ []) replica position →
    IsKnownAfter H event replica position
knows_cases {H} {replica} {position} event k = go (cases_lt k.last (length H))
  where
    of_end_of : k.last ≡ length H → actor event ≡ replica
    of_end_of h = of_same (end_of H event k.last h) k.own

    at_the_end : actor event ≡ replica →
        Knows H (actor event) position ⊎ ((position ≡ length H) ⊎ IsTold H event position) →
        IsKnownAfter H event replica position
    at_the_end h (inl b) = inl (subst (λ q. Knows H q position) h b)
    at_the_end h (inr b) = inr (h, b)

    go : (k.last < length H) ⊎ (length H ≤ k.last) → IsKnownAfter H event replica position
    go (inl h) =
        inl (record { last = k.last; own = of_less (event ∷ []) k.own h; seen = seen_less (event ∷ []) k.seen h })
    go (inr h) =
        let l : k.last ≡ length H = omega (arith, of_within k.own, length_push H event) in
        at_the_end (of_end_of l) (end_seen H event l k.seen)

pub knows_after : {H : List Event} {replica position : ℕ} (event : Event) → IsKnownAfter H event replica position →
    Knows (H ++ event ∷ []) replica position
knows_after event (inl k) = knows_more (event ∷ []) k
knows_after {H} {replica} {position} event (inr (h, inl p)) =
    subst (λ q. Knows (H ++ event ∷ []) q position) h (rw p (knows_end H event))
knows_after {H} {replica} {position} event (inr (h, inr t)) = record {
  last = length H;
  own = subst (λ q. IsOf (H ++ event ∷ []) (length H) q) h (of_end H event);
  seen = Heard
      (subst (λ x. IsAt (H ++ event ∷ []) (length H) x) (takes_accept event t.served t.takes).1 (at_end H event))
      (of_within t.earlier)
      (seen_more (event ∷ []) (knows_seen t.earlier t.known));
}

-- an event of another replica changes nothing
pub knows_of_other : {H : List Event} {replica position : ℕ} (event : Event) → actor event ≢ replica →
    Knows (H ++ event ∷ []) replica position → Knows H replica position
knows_of_other {H} {replica} {position} event n k = go (knows_cases event k)
  where
    go : IsKnownAfter H event replica position → Knows H replica position
    go (inl b) = b
    go (inr p) = absurd (n p.0)

-- an event that takes nothing adds its own position and nothing else
pub knows_untold : {H : List Event} {replica position : ℕ} (event : Event) → ((served : ℕ) → Takes event served → ⊥) →
    Knows (H ++ event ∷ []) replica position → Knows H replica position ⊎ (position ≡ length H)
knows_untold {H} {replica} {position} event n k = go (knows_cases event k)
  where
    go : IsKnownAfter H event replica position → Knows H replica position ⊎ (position ≡ length H)
    go (inl b) = inl b
    go (inr (h, inl p)) = inr p
    go (inr (h, inr t)) = absurd (n t.served t.takes)

pub knows_less : {H : List Event} {replica position : ℕ} (event : Event) → ((served : ℕ) → Takes event served → ⊥) →
    Knows (H ++ event ∷ []) replica position → position < length H → Knows H replica position
knows_less {H} {replica} {position} event untold k h = go (knows_untold event untold k)
  where
    go : Knows H replica position ⊎ (position ≡ length H) → Knows H replica position
    go (inl b) = b
    go (inr p) = absurd (omega arith)

-- an Accept adds its own position and what the event that it takes has seen, and nothing else
pub knows_accept : {H : List Event} {replica position : ℕ} (served piece : ℕ) →
    Knows (H ++ Accept replica served piece ∷ []) replica position →
    Knows H replica position ⊎ ((position ≡ length H) ⊎ HasSeen H served position)
knows_accept {H} {replica} {position} served piece k = go (knows_cases (Accept replica served piece) k)
  where
    go : IsKnownAfter H (Accept replica served piece) replica position →
        Knows H replica position ⊎ ((position ≡ length H) ⊎ HasSeen H served position)
    go (inl b) = inl b
    go (inr (h, inl p)) = inr (inl p)
    go (inr (h, inr t)) = inr (inr (rw t.takes (knows_seen t.earlier t.known)))

pub knows_heard : {H : List Event} {served position : ℕ} (replica piece : ℕ) → HasSeen H served position →
    Knows (H ++ Accept replica served piece ∷ []) replica position
knows_heard {H} {served} replica piece s =
    record {
      last = length H;
      own = of_end H (Accept replica served piece);
      seen = Heard (at_end H (Accept replica served piece)) (seen_within s).1 (seen_more (Accept replica served piece ∷ []) s);
    }
