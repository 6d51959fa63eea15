-- What a replica knew at a position, and at a later one.
use Rattle.std.proofs.Common.{ℕ, ◌+◌, ◌<◌, ◌≤◌, List, length-take, sym, subst, arith}
use Rattle.ficus_ids.specs.declared.id.Id.{Id}
use Rattle.ficus_model.specs.declared.event.Event.{Event}
use Rattle.ficus_model.specs.Events.{IsOf, before, through}
use Rattle.ficus_model.specs.Known.{Knows, HasInPast}
use Rattle.ficus_model.specs.Live.{ModelEntry, IsEntered, IsRemoved}
use Rattle.ficus_laws.specs.Updates.{UpdatesWithin}
use Rattle.ficus_laws.proofs.Positions.{agree_back, agree_before, agree_take, of_before}
use Rattle.ficus_laws.proofs.Knowledge.{knows_within, knows_later}
use Rattle.ficus_laws.proofs.Past.{agree_past, past_known}
use Rattle.ficus_laws.proofs.Shown.{removed_within}
use Rattle.ficus_laws.proofs.Views.{KnowsSame, agree_known, same_updates}
use Rattle.ficus_removal_laws.proofs.Carrying.{knows_through, removed_from_before}

-- what is known at a position stands before it
pub known_before : (H : List Event) (n : ℕ) {replica position : ℕ} → Knows (before n H) replica position → position < n
known_before H n k = omega (arith, knows_within k, length-take n H)

pub known_next : (H : List Event) (n : ℕ) {replica position : ℕ} → Knows (before n H) replica position →
    position + 1 ≤ n
known_next H n k = omega (arith, known_before H n k)

-- what was known then stays known
pub known_stays : (H : List Event) {n later replica position : ℕ} → n ≤ later → Knows (before n H) replica position →
    Knows (before later H) replica position
known_stays H {n} {later} {replica} {position} h k =
    knows_later n (subst (λ L. Knows L replica position) (sym (agree_take (agree_before later H) h)) k)

-- what the replica of a known event knew through it, is known
pub known_through : {H : List Event} (n : ℕ) {replica peer position earlier : ℕ} → IsOf H position peer →
    Knows (before n H) replica position → Knows (through position H) peer earlier → Knows (before n H) replica earlier
known_through {H} n {peer = peer} {earlier = earlier} own k was =
    let same = agree_take (agree_before n H) (known_next H n k) in
    knows_through (of_before (known_before H n k) own) k (subst (λ L. Knows L peer earlier) (sym same) was)

-- and so is the past of a known event
pub known_past : {H : List Event} (n : ℕ) {replica position earlier : ℕ} → Knows (before n H) replica position →
    HasInPast H position earlier → Knows (before n H) replica earlier
known_past {H} n k p = past_known k (agree_past (agree_back (agree_before n H)) (known_before H n k) p)

-- what is known of the events before a position says the same of all events
pub known_same : (H : List Event) (n replica : ℕ) →
    KnowsSame (before n H) (Knows (before n H) replica) H (Knows (before n H) replica)
known_same H n replica = agree_known (agree_before n H) (λ position k. known_before H n k)

pub known_within : (H : List Event) (n replica : ℕ) →
    UpdatesWithin (before n H) (Knows (before n H) replica) H (Knows (before n H) replica)
known_within H n replica = (same_updates (known_same H n replica)).there

-- a removal that was known then is known later
pub removed_stays : (H : List Event) {n later replica : ℕ} {id : Id} → n ≤ later →
    IsRemoved (before n H) (Knows (before n H) replica) id →
    IsRemoved (before later H) (Knows (before later H) replica) id
removed_stays H {n} {later} {replica} {id} h r =
    removed_from_before n (subst (λ L. IsRemoved L (Knows L replica) id) (sym (agree_take (agree_before later H) h)) r)

pub removed_then : (H : List Event) {n later replica : ℕ} {id : Id} → n ≤ later →
    IsRemoved (before n H) (Knows (before n H) replica) id → IsRemoved H (Knows (before later H) replica) id
removed_then H {later = later} {replica = replica} h r =
    removed_within (known_within H later replica) (removed_stays H h r)

-- an entry that is known through a known event is known
pub entered_through : {H : List Event} (n : ℕ) {replica peer position : ℕ} {entry : ModelEntry} → IsOf H position peer →
    Knows (before n H) replica position → IsEntered H (Knows (through position H) peer) entry →
    IsEntered H (Knows (before n H) replica) entry
entered_through n own k e = record {
  position = e.position;
  op = e.op;
  known = known_through n own k e.known;
  update = e.update;
  enters = e.enters;
}
