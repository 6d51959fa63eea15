-- Which histories are lawful, one event after the other.
use Rattle.std.proofs.Common.{◌≡◌, ℕ, ◌<◌, List, [], ◌∷◌, ◌++◌, length, refl, sym, subst, inl, inr, ◌⊎◌, arith}
use Rattle.std.proofs.lemmas.List.{take_at}
use Rattle.ficus_ids.specs.Members.{IsMember}
use Rattle.ficus_model.specs.declared.event.Event.{Event}
use Rattle.ficus_model.specs.declared.event.Event.TheVariants.{Collect, Restart}
use Rattle.ficus_model.specs.Events.{IsAt, IsOf, before, actor}
use Rattle.ficus_model.specs.Lawful.{Volume, MayCome, IsLawful}
use Rattle.ficus_laws.proofs.Positions.{agree_more, agree_before, agree_take, at_within, at_more, at_end, at_cases, at_from_before}

-- the empty history is lawful
pub lawful_none : (volume : Volume) → IsLawful volume []
lawful_none volume = record { each = λ position event a. absurd (omega (arith, at_within a)) }

-- what may come after a history may come after one with the same events
may_come_after : (volume : Volume) {H K : List Event} (event : Event) → H ≡ K → MayCome volume H event →
    MayCome volume K event
may_come_after volume event same may = subst (λ L. MayCome volume L event) same may

-- one more event that may come leaves a history lawful
pub lawful_more : (volume : Volume) (H : List Event) (event : Event) → IsLawful volume H → MayCome volume H event →
    IsLawful volume (H ++ event ∷ [])
lawful_more volume H event lawful may = record { each = λ position found a. go (at_cases event a) }
  where
    go : {position : ℕ} {found : Event} → IsAt H position found ⊎ ((position ≡ length H) × (found ≡ event)) →
        MayCome volume (before position (H ++ event ∷ [])) found
    go {position} {found} (inl was) =
        let h = at_within was in
        may_come_after volume found (agree_take (agree_more H (event ∷ [])) (omega arith)) (lawful.each position found was)
    go {position} {found} (inr (end, is)) =
        may_come_after volume found (sym (take_at H (event ∷ []) position (sym end))) (rw is may)

-- the first events of a lawful history are lawful
pub lawful_before : (volume : Volume) (H : List Event) (n : ℕ) → IsLawful volume H → IsLawful volume (before n H)
lawful_before volume H n lawful = record { each = λ position event a. each (at_from_before n a) }
  where
    each : {position : ℕ} {event : Event} → (position < n) × IsAt H position event →
        MayCome volume (before position (before n H)) event
    each {position} {event} (h, was) =
        may_come_after volume event (sym (agree_take (agree_before n H) (omega arith))) (lawful.each position event was)

-- so are those before the last event, which may come after them
pub lawful_less : (volume : Volume) (H : List Event) (event : Event) → IsLawful volume (H ++ event ∷ []) →
    IsLawful volume H × MayCome volume H event
lawful_less volume H event lawful =
    (less, may_come_after volume event (take_at H (event ∷ []) (length H) refl) (lawful.each (length H) event (at_end H event)))
  where
    less : IsLawful volume H
    less = record {
      each = λ position found a.
          let h = at_within a in
          may_come_after volume found (sym (agree_take (agree_more H (event ∷ [])) (omega arith))) (lawful.each position found (at_more (event ∷ []) a));
    }

-- an event that may come is a member's
pub member_of : (volume : Volume) (H : List Event) (event : Event) → MayCome volume H event →
    IsMember volume.members (actor event)
member_of volume H (Collect by) may = may
member_of volume H (Restart by) may = may
member_of volume H event may = may.member

-- every event of a lawful history is a member's
pub lawful_member : (volume : Volume) (H : List Event) {position replica : ℕ} → IsLawful volume H →
    IsOf H position replica → IsMember volume.members replica
lawful_member volume H {position} {replica} lawful own =
    subst (λ by. IsMember volume.members by) own.of (member_of volume (before position H) own.event (lawful.each position own.event own.at))
