-- Which updates a replica knows after one more event.
use Rattle.std.proofs.Common.{◌≡◌, ◌≢◌, ℕ, ◌+◌, ◌∙◌, List, [], ◌∷◌, ◌++◌, length, sym, ap, subst, inl, inr, ◌⊎◌, arith}
use Rattle.ficus_ids.specs.declared.id.Id.{Id}
use Rattle.ficus_model.specs.declared.event.Event.{Event}
use Rattle.ficus_model.specs.declared.event.Event.TheVariants.{Update, Accept}
use Rattle.ficus_model.specs.declared.event.Op.{Op}
use Rattle.ficus_model.specs.Events.{IsAt, before, IsOf, IsUpdate, through, actor}
use Rattle.ficus_model.specs.Known.{HasSeen, Knows}
use Rattle.ficus_laws.specs.Known.{Takes, IsTold, IsKnownAfter}
use Rattle.ficus_laws.specs.Updates.{next_number, HasUpdate, UpdatesWithin, SameUpdates, Joined, IsQuiet}
use Rattle.ficus_laws.proofs.Positions.{agree_back, agree_before, through_is}
use Rattle.ficus_laws.proofs.Updates.{update_within, update_more, update_end, update_cases, agree_update}
use Rattle.ficus_laws.proofs.Seen.{seen_within}
use Rattle.ficus_laws.proofs.Knowledge.{knows_within, knows_more, knows_end, knows_cases, knows_heard, seen_knows, knows_seen}
use Rattle.ficus_laws.proofs.Shown.{has_either}

-- updates that are known stay known
pub within_more : (H T : List Event) (replica : ℕ) → UpdatesWithin H (Knows H replica) (H ++ T) (Knows (H ++ T) replica)
within_more H T replica =
    record { has = λ number op u. record { position = u.position; known = knows_more T u.known; update = update_more T u.update } }

-- the event is the replica's own, and it is this update or was told of it
abbrev Adds : List Event → Event → ℕ → Id → Op → Type 0
Adds H event replica number op = (actor event ≡ replica) ×
    (((event ≡ Update replica op) × (number ≡ next_number replica H)) ⊎ HasUpdate H (IsTold H event) number op)

-- an update that is known after one more event was known before, or the event adds it
pub has_cases : {H : List Event} {replica : ℕ} {number : Id} {op : Op} (event : Event) →
    HasUpdate (H ++ event ∷ []) (Knows (H ++ event ∷ []) replica) number op →
    HasUpdate H (Knows H replica) number op ⊎ Adds H event replica number op
has_cases {H} {replica} {number} {op} event u = go (update_cases event u.update) (knows_cases event u.known)
  where
    last : (number.replica ≡ replica) → event ≡ Update number.replica op → number ≡ next_number number.replica H →
        (event ≡ Update replica op) × (number ≡ next_number replica H)
    last same is next = (subst (λ r. event ≡ Update r op) same is, subst (λ r. number ≡ next_number r H) same next)

    go : IsUpdate H u.position number op ⊎
        ((u.position ≡ length H) × (event ≡ Update number.replica op) × (number ≡ next_number number.replica H)) →
        IsKnownAfter H event replica u.position →
        HasUpdate H (Knows H replica) number op ⊎ Adds H event replica number op
    go (inl was) (inl known) = inl (record { position = u.position; known = known; update = was })
    go (inl was) (inr (of, inl end)) = absurd (omega (arith, update_within was))
    go (inl was) (inr (of, inr told)) = inr (of, inr (record { position = u.position; known = told; update = was }))
    go (inr (end, is, next)) (inl known) = absurd (omega (arith, knows_within known))
    go (inr (end, is, next)) (inr (of, rest)) = inr (of, inl (last (sym (ap actor is) ∙ of) is next))

-- an event that adds nothing changes nothing
same_unless_added : (H : List Event) (event : Event) (replica : ℕ) →
    ((number : Id) (op : Op) → Adds H event replica number op → ⊥) →
    SameUpdates H (Knows H replica) (H ++ event ∷ []) (Knows (H ++ event ∷ []) replica)
same_unless_added H event replica none = record {
  there = within_more H (event ∷ []) replica;
  back = record {
    has = λ number op u. elim (has_cases event u) [ inl was ↦ was | inr added ↦ absurd (none number op added) ];
  };
}

-- one of another replica doesn't
pub same_of_other : (H : List Event) (event : Event) (replica : ℕ) → actor event ≢ replica →
    SameUpdates H (Knows H replica) (H ++ event ∷ []) (Knows (H ++ event ∷ []) replica)
same_of_other H event replica other = same_unless_added H event replica (λ number op added. other added.0)

pub quiet_takes : (event : Event) (served : ℕ) → IsQuiet event → Takes event served → ⊥
quiet_takes (Accept by serve piece) served quiet takes = quiet
quiet_takes event served quiet takes = takes

-- nor does one that is no update and takes nothing
pub same_quiet : (H : List Event) (event : Event) (replica : ℕ) → IsQuiet event →
    SameUpdates H (Knows H replica) (H ++ event ∷ []) (Knows (H ++ event ∷ []) replica)
same_quiet H event replica quiet = same_unless_added H event replica (λ number op added. elim added.1 [
  | inl next ↦ subst IsQuiet next.0 quiet
  | inr told ↦ quiet_takes event told.known.served quiet told.known.takes
])

-- an update of the replica is known with the next number
pub has_end : (H : List Event) (replica : ℕ) (op : Op) →
    HasUpdate (H ++ Update replica op ∷ []) (Knows (H ++ Update replica op ∷ []) replica) (next_number replica H) op
has_end H replica op =
    record { position = length H; known = knows_end H (Update replica op); update = update_end H replica op }

pub has_after_update : {H : List Event} {replica : ℕ} {number : Id} {op : Op} (done : Op) →
    HasUpdate (H ++ Update replica done ∷ []) (Knows (H ++ Update replica done ∷ []) replica) number op →
    HasUpdate H (Knows H replica) number op ⊎ ((number ≡ next_number replica H) × (op ≡ done))
has_after_update {H} {replica} {number} {op} done u = go (has_cases (Update replica done) u)
  where
    go : HasUpdate H (Knows H replica) number op ⊎ Adds H (Update replica done) replica number op →
        HasUpdate H (Knows H replica) number op ⊎ ((number ≡ next_number replica H) × (op ≡ done))
    go (inl was) = inl was
    go (inr (of, inl (is, next))) = inr (next, cc)
    go (inr (of, inr told)) = absurd told.known.takes

-- an Accept adds the updates that the event which it takes has seen
pub same_accept : (H : List Event) (replica served piece : ℕ) →
    SameUpdates H (Joined (Knows H replica) (HasSeen H served))
    (H ++ Accept replica served piece ∷ []) (Knows (H ++ Accept replica served piece ∷ []) replica)
same_accept H replica served piece = record {
  there = record { has = λ number op u. joined (has_either u) };
  back = record { has = λ number op u. go number op (has_cases (Accept replica served piece) u) };
}
  where
    event : Event
    event = Accept replica served piece

    joined : {number : Id} {op : Op} →
        HasUpdate H (Knows H replica) number op ⊎ HasUpdate H (HasSeen H served) number op →
        HasUpdate (H ++ event ∷ []) (Knows (H ++ event ∷ []) replica) number op
    joined (inl u) =
        record { position = u.position; known = knows_more (event ∷ []) u.known; update = update_more (event ∷ []) u.update }
    joined (inr u) =
        record { position = u.position; known = knows_heard replica piece u.known; update = update_more (event ∷ []) u.update }

    go : (number : Id) (op : Op) →
        HasUpdate H (Knows H replica) number op ⊎ Adds H event replica number op →
        HasUpdate H (Joined (Knows H replica) (HasSeen H served)) number op
    go number op (inl u) = record { position = u.position; known = inl u.known; update = u.update }
    go number op (inr (of, inl (is, next))) = (let clash : Accept replica served piece ≡ Update replica op = is in cc)
    go number op (inr (of, inr told)) =
        record { position = told.position; known = inr (rw told.known.takes (knows_seen told.known.earlier told.known.known)); update = told.update }

-- what an event has seen is what its replica knew through it
pub same_seen : (H : List Event) (at replica : ℕ) → IsOf H at replica →
    SameUpdates H (HasSeen H at) (through at H) (Knows (through at H) replica)
same_seen H at replica own = record {
  there = record { has = λ number op u. served u };
  back = record { has = λ number op u. seen u };
}
  where
    served : {number : Id} {op : Op} → HasUpdate H (HasSeen H at) number op →
        HasUpdate (through at H) (Knows (through at H) replica) number op
    served u =
        let h = seen_within u.known in
        record { position = u.position; known = seen_knows own u.known; update = agree_update (agree_back (agree_before (at + 1) H)) (omega arith) u.update }

    seen : {number : Id} {op : Op} → HasUpdate (through at H) (Knows (through at H) replica) number op →
        HasUpdate H (HasSeen H at) number op
    seen u =
        let k = knows_seen own u.known in
        let h = seen_within k in
        record { position = u.position; known = k; update = agree_update (agree_before (at + 1) H) (omega arith) u.update }

-- a replica knew the same updates before an event that is no update and takes nothing
pub same_before_quiet : {H : List Event} {at : ℕ} {event : Event} (replica : ℕ) → IsAt H at event → IsQuiet event →
    SameUpdates (before at H) (Knows (before at H) replica) (through at H) (Knows (through at H) replica)
same_before_quiet {H} {at} {event} replica a quiet = rw (through_is a) (same_quiet (before at H) event replica quiet)
