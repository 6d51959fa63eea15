-- What a run has seen and knows, behind what happened earlier.
use Rattle.std.proofs.Common.{◌≡◌, ℕ, ◌+◌, ◌-◌, ◌<◌, ◌≤◌, List, ◌++◌, length, map, Some, refl, sym, ap, subst, ◌∙◌, arith, length-append}
use Rattle.std.specs.Option.{option_map}
use Rattle.std.proofs.Math.Seq.{take-append-add}
use Rattle.std.proofs.lemmas.List.{get_or-append-add, length-map, take-map}
use Rattle.std.proofs.lemmas.Option.{get_or_from_slice_get, slice_get-get_or, slice_get-map}
use Rattle.ficus_model.specs.declared.event.Event.{Event}
use Rattle.ficus_model.specs.declared.event.Event.TheVariants.{Update, Accept}
use Rattle.ficus_model.specs.declared.event.Op.{Op}
use Rattle.ficus_model.specs.Events.{IsAt, IsOf, actor, before, raised}
use Rattle.ficus_model.specs.Known.{HasSeen, Knows, HasInPast}
use Rattle.ficus_model.specs.Known.HasSeen.{Itself, Earlier, Heard}
use Rattle.ficus_laws.proofs.Positions.{at_exists, at_same, at_within}
use Rattle.ficus_laws.proofs.Seen.{seen_within}
use Rattle.ficus_why.specs.Continued.{continued}

at_behind : (front back : List Event) (position : ℕ) (event : Event) → IsAt back position event
    → IsAt (front ++ back) (length front + position) event
at_behind front back position event at =
    let within = at_within at in
    record {
      is = slice_get-get_or (front ++ back) (length front + position) event
          (omega (arith, within, length-append front back))
          ∙ ap Some (get_or-append-add front back position event
          ∙ get_or_from_slice_get back position event event at.is);
    }

-- the actor of an event stays
pub same_actor : (n : ℕ) (event : Event) → actor (raised n event) ≡ actor event
same_actor n (Update by op) = refl
same_actor n event = refl

-- an update stays as it is
same_update : (n by : ℕ) (event : Event) (op : Op) → raised n event ≡ Update by op → event ≡ Update by op
same_update n by (Update other done) op is = is
same_update n by event op is = absurd (cc)

-- the taking of a state was one before its position was raised
taken_lower : (n by serve piece : ℕ) (event : Event) → raised n event ≡ Accept by serve piece
    → (lower : ℕ) × (serve ≡ lower + n) × (event ≡ Accept by lower piece)
taken_lower n by serve piece (Accept other lower index) is =
    let place : serve ≡ lower + n = cc in
    let own : other ≡ by = cc in
    let same : index ≡ piece = cc in
    (lower, place, λ i. Accept (own i) lower (same i))
taken_lower n by serve piece event is = absurd (cc)

module _ (earlier H : List Event) where
  abbrev n : ℕ
  n = length earlier

  abbrev K : List Event
  K = continued earlier H

  pub at_raised : {position : ℕ} {event : Event} → IsAt H position event → IsAt K (n + position) (raised n event)
  at_raised {position} {event} at =
      at_behind earlier (map (raised n) H) position (raised n event)
      (record { is = slice_get-map (raised n) H position ∙ ap (option_map (raised n)) at.is })

  -- which event of the run stands there
  record IsRaised (position : ℕ) (found : Event) : Type 0 where
    event : Event
    at : IsAt H position event
    is : raised n event ≡ found

  whole_length : length K ≡ n + length H
  whole_length = length-append earlier (map (raised n) H) ∙ ap (λ m. n + m) (length-map H (raised n))

  at_lowered : {position : ℕ} {found : Event} → IsAt K (n + position) found → IsRaised position found
  at_lowered {position} {found} at =
      let below : position < length H = omega (arith, at_within at, whole_length) in
      let event = at_exists H position below in
      record { event = event.0; at = event.1; is = at_same (at_raised event.1) at }

  pub update_lowered : {position by : ℕ} {op : Op} → IsAt K (n + position) (Update by op) → IsAt H position (Update by op)
  update_lowered {position} {by} {op} at =
      let found = at_lowered at in
      subst (λ event. IsAt H position event) (same_update n by found.event op found.is) found.at

  of_raised : {position replica : ℕ} → IsOf H position replica → IsOf K (n + position) replica
  of_raised own = record {
    event = raised n own.event;
    at = at_raised own.at;
    of = same_actor n own.event ∙ own.of;
  }

  of_lowered : {position replica : ℕ} → IsOf K (n + position) replica → IsOf H position replica
  of_lowered own =
      let found = at_lowered own.at in
      record { event = found.event; at = found.at; of = sym (same_actor n found.event) ∙ ap actor found.is ∙ own.of }

  before_whole : (position : ℕ) → before (n + position) K ≡ continued earlier (before position H)
  before_whole position =
      take-append-add earlier (map (raised n) H) position ∙ ap (λ back. earlier ++ back) (take-map (raised n) position H)

-- what lies behind so many events
from_behind : {n at : ℕ} → n ≤ at → at ≡ n + (at - n)
from_behind {n} {at} behind = omega arith

module _ (earlier H : List Event) where
  seen_raised : {at seen : ℕ} → HasSeen H at seen
      → HasSeen (continued earlier H) (length earlier + at) (length earlier + seen)
  seen_raised (Itself own) = Itself (of_raised earlier H own)
  seen_raised (Earlier own of_old below seen) =
      Earlier (of_raised earlier H own) (of_raised earlier H of_old) (omega (arith, below)) (seen_raised seen)
  seen_raised {at} {seen} (Heard {served = served} {piece = piece} {replica = replica} taken below through) =
      let place : served + length earlier ≡ length earlier + served = omega arith in
      Heard
      (subst (λ p. IsAt (continued earlier H) (length earlier + at) (Accept replica p piece)) place
      (at_raised earlier H taken))
      (omega (arith, below)) (seen_raised through)

  seen_lowered : {at seen : ℕ} (late early : ℕ) → at ≡ length earlier + late → seen ≡ length earlier + early
      → HasSeen (continued earlier H) at seen → HasSeen H late early
  seen_lowered {at} {seen} late early here there (Itself {replica = replica} own) =
      let same : late ≡ early = omega arith in
      subst (λ p. HasSeen H late p) same
      (Itself (of_lowered earlier H (subst (λ p. IsOf (continued earlier H) p replica) here own)))
  seen_lowered {at} {seen} late early here there (Earlier {old = old} {replica = replica} own of_old below through) =
      let reach = seen_within through in
      let place : old ≡ length earlier + (old - length earlier) = from_behind (omega (arith, reach.0, there)) in
      Earlier (of_lowered earlier H (subst (λ p. IsOf (continued earlier H) p replica) here own))
      (of_lowered earlier H (subst (λ p. IsOf (continued earlier H) p replica) place of_old))
      (omega (arith, below, place, here))
      (seen_lowered (old - length earlier) early place there through)
  seen_lowered {at} {seen} late early here there
      (Heard {served = served} {piece = piece} {replica = replica} taken below through) =
      let reach = seen_within through in
      let found = at_lowered earlier H
      (subst (λ p. IsAt (continued earlier H) p (Accept replica served piece)) here taken) in
      let lower = taken_lower (length earlier) replica served piece found.event found.is in
      let place : served ≡ length earlier + lower.0 = omega (arith, lower.1) in
      Heard (subst (λ event. IsAt H late event) lower.2 found.at) (omega (arith, below, place, here))
      (seen_lowered lower.0 early place there through)

  pub knows_raised : {replica position : ℕ} → Knows H replica position
      → Knows (continued earlier H) replica (length earlier + position)
  knows_raised known = record {
    last = length earlier + known.last;
    own = of_raised earlier H known.own;
    seen = seen_raised known.seen;
  }

  pub knows_lowered : {replica position : ℕ} → Knows (continued earlier H) replica (length earlier + position)
      → Knows H replica position
  knows_lowered {replica} {position} known =
      let reach = seen_within known.seen in
      let place : known.last ≡ length earlier + (known.last - length earlier) = from_behind (omega (arith, reach.0)) in
      record {
        last = known.last - length earlier;
        own = of_lowered earlier H (subst (λ p. IsOf (continued earlier H) p replica) place known.own);
        seen = seen_lowered (known.last - length earlier) position place refl known.seen;
      }

module _ (earlier H : List Event) {position past : ℕ} where
  pub past_raised : HasInPast H position past
      → HasInPast (continued earlier H) (length earlier + position) (length earlier + past)
  past_raised is = record {
    replica = is.replica;
    own = of_raised earlier H is.own;
    known = subst (λ events. Knows events is.replica (length earlier + past)) (sym (before_whole earlier H position))
        (knows_raised earlier (before position H) is.known);
  }

  pub past_lowered : HasInPast (continued earlier H) (length earlier + position) (length earlier + past)
      → HasInPast H position past
  past_lowered is = record {
    replica = is.replica;
    own = of_lowered earlier H is.own;
    known = knows_lowered earlier (before position H)
        (subst (λ events. Knows events is.replica (length earlier + past)) (before_whole earlier H position) is.known);
  }
