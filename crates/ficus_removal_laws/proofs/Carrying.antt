-- What a replica knows of what others know is carried to longer histories, and to who knows their events.
use Rattle.std.proofs.Common.{◌≡◌, ℕ, ◌+◌, ◌<◌, ◌≤◌, List, ◌++◌, sym, subst, arith}
use Rattle.ficus_ids.specs.Members.{IsMember}
use Rattle.ficus_ids.specs.declared.id.Id.{Id}
use Rattle.ficus_model.specs.declared.event.Event.{Event}
use Rattle.ficus_model.specs.Events.{IsOf, before, through}
use Rattle.ficus_model.specs.Known.{Knows}
use Rattle.ficus_model.specs.Live.{IsRemoved}
use Rattle.ficus_model.specs.Knowledge.{KnowsThatKnows, KnowsThatAllKnow}
use Rattle.ficus_laws.proofs.Positions.{AgreeBelow, agree_more, agree_before, agree_of, agree_take, at_from_before, of_within, of_before, of_from_before}
use Rattle.ficus_laws.proofs.Updates.{agree_update}
use Rattle.ficus_laws.proofs.Knowledge.{knows_own, knows_more, knows_later, knows_past, knows_seen}

-- the events through a position, among the events through a later one
pub through_earlier : (H : List Event) {position later : ℕ} → position ≤ later →
    through position (through later H) ≡ through position H
through_earlier H {position} {later} h = agree_take (agree_before (later + 1) H) (omega arith)

-- where a position is known, so is what its replica knew through it
pub knows_through : {H : List Event} {replica peer position earlier : ℕ} → IsOf H position peer →
    Knows H replica position → Knows (through position H) peer earlier → Knows H replica earlier
knows_through own known was = knows_past known (knows_seen own was)

-- a removal is one in each history that has the same events, for who knows it
pub removed_at : {n : ℕ} {H K : List Event} {U V : ℕ → Type 0} {entry : Id} → AgreeBelow n H K →
    (r : IsRemoved H U entry) → r.position < n → V r.position → IsRemoved K V entry
removed_at same r h known = record {
  position = r.position;
  number = r.number;
  op = r.op;
  known = known;
  update = agree_update same h r.update;
  removes = r.removes;
}

pub removed_through : {H : List Event} {replica peer position : ℕ} {entry : Id} → IsOf H position peer →
    Knows H replica position → IsRemoved (through position H) (Knows (through position H) peer) entry →
    IsRemoved H (Knows H replica) entry
removed_through {H} {position = position} own known r =
    let h = (at_from_before (position + 1) r.update.at).0 in
    removed_at (agree_before (position + 1) H) r h (knows_through own known r.known)

pub removed_from_before : {H : List Event} {replica : ℕ} {entry : Id} (n : ℕ) →
    IsRemoved (before n H) (Knows (before n H) replica) entry → IsRemoved H (Knows H replica) entry
removed_from_before {H} n r =
    removed_at (agree_before n H) r (at_from_before n r.update.at).0 (knows_later n r.known)

-- so it is with what is known of who knows a removal
pub one_at : {n : ℕ} {H K : List Event} {replica reader peer : ℕ} {entry : Id} → AgreeBelow n H K →
    (o : KnowsThatKnows H replica peer entry) → o.position < n → Knows K reader o.position →
    KnowsThatKnows K reader peer entry
one_at {peer = peer} {entry = entry} same o h known = record {
  position = o.position;
  known = known;
  own = agree_of same h o.own;
  removed = subst (λ L. IsRemoved L (Knows L peer) entry) (agree_take same (omega arith)) o.removed;
}

pub one_through : {H : List Event} {replica middle peer position : ℕ} {entry : Id} → IsOf H position middle →
    Knows H replica position → KnowsThatKnows (through position H) middle peer entry →
    KnowsThatKnows H replica peer entry
one_through {H} {position = position} own known o =
    let h = (of_from_before (position + 1) o.own).0 in
    one_at (agree_before (position + 1) H) o h (knows_through own known o.known)

pub one_more : {H : List Event} {replica peer : ℕ} {entry : Id} (T : List Event) → KnowsThatKnows H replica peer entry →
    KnowsThatKnows (H ++ T) replica peer entry
one_more {H} T o = one_at (agree_more H T) o (of_within o.own) (knows_more T o.known)

pub one_from_before : {H : List Event} {replica peer : ℕ} {entry : Id} (n : ℕ) →
    KnowsThatKnows (before n H) replica peer entry → KnowsThatKnows H replica peer entry
one_from_before {H} n o = one_at (agree_before n H) o (of_from_before n o.own).0 (knows_later n o.known)

-- and of who knows that all know
pub all_at : {n members : ℕ} {H K : List Event} {replica reader peer : ℕ} {entry : Id} → AgreeBelow n H K →
    (t : KnowsThatAllKnow members H replica peer entry) → t.position < n → Knows K reader t.position →
    KnowsThatAllKnow members K reader peer entry
all_at {members = members} {peer = peer} {entry = entry} same t h known = record {
  position = t.position;
  known = known;
  own = agree_of same h t.own;
  all = subst
      (λ L. (member : ℕ) → IsMember members member → KnowsThatKnows L peer member entry)
      (agree_take same (omega arith))
      t.all;
}

pub all_through : {members : ℕ} {H : List Event} {replica middle peer position : ℕ} {entry : Id} →
    IsOf H position middle → Knows H replica position →
    KnowsThatAllKnow members (through position H) middle peer entry → KnowsThatAllKnow members H replica peer entry
all_through {H = H} {position = position} own known t =
    let h = (of_from_before (position + 1) t.own).0 in
    all_at (agree_before (position + 1) H) t h (knows_through own known t.known)

pub all_more : {members : ℕ} {H : List Event} {replica peer : ℕ} {entry : Id} (T : List Event) →
    KnowsThatAllKnow members H replica peer entry → KnowsThatAllKnow members (H ++ T) replica peer entry
all_more {H = H} T t = all_at (agree_more H T) t (of_within t.own) (knows_more T t.known)

pub all_from_before : {members : ℕ} {H : List Event} {replica peer : ℕ} {entry : Id} (n : ℕ) →
    KnowsThatAllKnow members (before n H) replica peer entry → KnowsThatAllKnow members H replica peer entry
all_from_before {H = H} n t = all_at (agree_before n H) t (of_from_before n t.own).0 (knows_later n t.known)

-- what a replica knew through one event of its own, it knew through a later one
module _ {H : List Event} {peer position later : ℕ} (own : IsOf H position peer) (h : position ≤ later) where
  inside : IsOf (through later H) position peer
  inside = of_before (omega arith) own

  pub removed_later : {entry : Id} → IsRemoved (through position H) (Knows (through position H) peer) entry →
      IsRemoved (through later H) (Knows (through later H) peer) entry
  removed_later {entry} r =
      let was = subst (λ L. IsRemoved L (Knows L peer) entry) (sym (through_earlier H h)) r in
      removed_through inside (knows_own inside) was

  pub one_later : {member : ℕ} {entry : Id} → KnowsThatKnows (through position H) peer member entry →
      KnowsThatKnows (through later H) peer member entry
  one_later {member} {entry} o =
      let was = subst (λ L. KnowsThatKnows L peer member entry) (sym (through_earlier H h)) o in
      one_through inside (knows_own inside) was

-- where it is known that a replica knows, the removal is known
pub one_removed : {H : List Event} {replica peer : ℕ} {entry : Id} → KnowsThatKnows H replica peer entry →
    IsRemoved H (Knows H replica) entry
one_removed o = removed_through o.own o.known o.removed

-- where it is known that a replica knows that all know, it is known that each knows
pub all_one : {members : ℕ} {H : List Event} {replica peer member : ℕ} {entry : Id} →
    KnowsThatAllKnow members H replica peer entry → IsMember members member → KnowsThatKnows H replica member entry
all_one {member = member} t m = one_through t.own t.known (t.all member m)
