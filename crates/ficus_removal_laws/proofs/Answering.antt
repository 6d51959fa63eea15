-- What an answer tells of the marks of an entry, and of the entries that one of both doesn't hold.
use Rattle.std.proofs.Common.{◌≢◌, ◌⊎◌, ℕ, ◌+◌, ◌<◌, ◌≤◌, List, [], ◌∷◌, ◌++◌, ◌∙◌, subst, inl, inr, arith}
use Rattle.ficus_ids.specs.Members.{IsMember}
use Rattle.ficus_ids.specs.declared.id.Id.{Id}
use Rattle.ficus_model.specs.declared.event.Event.{Event}
use Rattle.ficus_model.specs.declared.event.Event.TheVariants.{Accept}
use Rattle.ficus_model.specs.Events.{IsOf, before, through}
use Rattle.ficus_model.specs.Known.{Knows}
use Rattle.ficus_model.specs.Live.{IsEntered, IsRemoved}
use Rattle.ficus_model.specs.Lawful.{Volume, IsLawful}
use Rattle.ficus_model.specs.Knowledge.{IsHeard, KnowsThatKnows, KnowsThatAllKnow}
use Rattle.ficus_model.specs.Held.{IsDropped}
use Rattle.ficus_laws.proofs.Positions.{AgreeBelow, agree_back, agree_more, agree_before, of_within, of_more, of_less, of_before, of_from_before, of_same, of_at}
use Rattle.ficus_laws.proofs.Updates.{agree_update}
use Rattle.ficus_laws.proofs.Seen.{seen_within}
use Rattle.ficus_laws.proofs.Lawful.{lawful_before, lawful_member}
use Rattle.ficus_laws.proofs.Shown.{entered_within, removed_within}
use Rattle.ficus_laws.proofs.OneMore.{within_more}
use Rattle.ficus_laws.proofs.Accept.{accept_knows, accept_keeps, accept_brings, accept_entered, accept_removed, known_before_served}
use Rattle.ficus_removal_laws.specs.Marks.{IsEnteredAs, IsAbsent, IsLaterHeard}
use Rattle.ficus_removal_laws.specs.Laws.{IsAnswer}
use Rattle.ficus_removal_laws.proofs.Carrying.{removed_at, removed_later, removed_from_before, one_at, one_later, one_removed, one_from_before, all_at}
use Rattle.ficus_removal_laws.proofs.Hearing.{heard_from}
use Rattle.ficus_removal_laws.proofs.Removing.{removed_entered}
use Rattle.ficus_removal_laws.proofs.Dropping.{dropped_two, dropped_one, dropped_from_before}
use Rattle.ficus_removal_laws.proofs.Marking.{one_less, all_less, before_of_other}

-- what is known among the first events stands there
knows_below : {replica position : ℕ} (n : ℕ) (H : List Event) → Knows (before n H) replica position → position < n
knows_below n H k = let h = (of_from_before n k.own).0 in let s = seen_within k.seen in omega arith

-- What a replica knows once it has taken what this server served at this position.
module _ (H : List Event) (replica served piece server : ℕ) (by_server : IsOf H served server) where
  abbrev after : List Event
  after = H ++ Accept replica served piece ∷ []

  abbrev there : List Event
  there = through served H

  served_agrees : AgreeBelow (served + 1) there after
  served_agrees = record {
    same = λ position h.
        (agree_before (served + 1) H).same position h ∙
        (agree_more H (Accept replica served piece ∷ [])).same position (let b = of_within by_server in omega arith);
  }

  known_there : {position : ℕ} → Knows there server position → position < served + 1
  known_there k = knows_below (served + 1) H k

  pub removed_taken : {entry : Id} → IsRemoved there (Knows there server) entry →
      IsRemoved after (Knows after replica) entry
  removed_taken r =
      removed_at served_agrees r (known_there r.known) (accept_brings H replica served piece server by_server r.known)

  pub entered_taken : {entry : Id} → IsEnteredAs there (Knows there server) entry →
      IsEnteredAs after (Knows after replica) entry
  entered_taken e = record {
    entry = e.entry;
    entered = record {
      position = e.entered.position;
      op = e.entered.op;
      known = accept_brings H replica served piece server by_server e.entered.known;
      update = agree_update served_agrees (known_there e.entered.known) e.entered.update;
      enters = e.entered.enters;
    };
    named = e.named;
  }

  pub entered_kept : {entry : Id} → IsEnteredAs H (Knows H replica) entry →
      IsEnteredAs after (Knows after replica) entry
  entered_kept e = record {
    entry = e.entry;
    entered = entered_within (within_more H (Accept replica served piece ∷ []) replica) e.entered;
    named = e.named;
  }

  pub removed_kept : {entry : Id} → IsRemoved H (Knows H replica) entry → IsRemoved after (Knows after replica) entry
  removed_kept r = removed_within (within_more H (Accept replica served piece ∷ []) replica) r

  pub entered_split : {entry : Id} → IsEnteredAs after (Knows after replica) entry →
      IsEnteredAs H (Knows H replica) entry ⊎ IsEnteredAs there (Knows there server) entry
  entered_split {entry} e = go (accept_entered H replica served piece server by_server e.entered)
    where
      go : IsEntered H (Knows H replica) e.entry ⊎ IsEntered there (Knows there server) e.entry →
          IsEnteredAs H (Knows H replica) entry ⊎ IsEnteredAs there (Knows there server) entry
      go (inl mine) = inl (record { entry = e.entry; entered = mine; named = e.named })
      go (inr theirs) = inr (record { entry = e.entry; entered = theirs; named = e.named })

  pub removed_split : {entry : Id} → IsRemoved after (Knows after replica) entry →
      IsRemoved H (Knows H replica) entry ⊎ IsRemoved there (Knows there server) entry
  removed_split r = accept_removed H replica served piece server by_server r

  pub one_taken : {peer : ℕ} {entry : Id} → KnowsThatKnows there server peer entry →
      KnowsThatKnows after replica peer entry
  one_taken o = one_at served_agrees o (known_there o.known) (accept_brings H replica served piece server by_server o.known)

  pub two_taken : {members peer : ℕ} {entry : Id} → KnowsThatAllKnow members there server peer entry →
      KnowsThatAllKnow members after replica peer entry
  two_taken t = all_at served_agrees t (known_there t.known) (accept_brings H replica served piece server by_server t.known)

  -- an event of another replica that is then known was known to one of both
  pub other_known : {peer position : ℕ} → peer ≢ replica → IsOf after position peer → Knows after replica position →
      Knows H replica position ⊎ Knows there server position
  other_known differs own known =
      accept_knows H replica served piece server by_server known (before_of_other H (Accept replica served piece) differs own)

  pub one_split : {peer : ℕ} {entry : Id} → peer ≢ replica → KnowsThatKnows after replica peer entry →
      KnowsThatKnows H replica peer entry ⊎ KnowsThatKnows there server peer entry
  one_split {peer} {entry} differs o = go (other_known differs o.own o.known)
    where
      go : Knows H replica o.position ⊎ Knows there server o.position →
          KnowsThatKnows H replica peer entry ⊎ KnowsThatKnows there server peer entry
      go (inl mine) = inl (one_less (Accept replica served piece) o mine)
      go (inr theirs) = inr (one_at (agree_back served_agrees) o (known_there theirs) theirs)

  pub two_split : {members peer : ℕ} {entry : Id} → peer ≢ replica → KnowsThatAllKnow members after replica peer entry →
      KnowsThatAllKnow members H replica peer entry ⊎ KnowsThatAllKnow members there server peer entry
  two_split {members} {peer} {entry} differs t = go (other_known differs t.own t.known)
    where
      go : Knows H replica t.position ⊎ Knows there server t.position →
          KnowsThatAllKnow members H replica peer entry ⊎ KnowsThatAllKnow members there server peer entry
      go (inl mine) = inl (all_less (Accept replica served piece) t mine)
      go (inr theirs) = inr (all_at (agree_back served_agrees) t (known_there theirs) theirs)

  -- the last event of another replica that is then known
  pub heard_split : {peer position : ℕ} → peer ≢ replica → IsHeard after replica peer position →
      IsLaterHeard H replica there server peer position
  heard_split {peer} {position} differs last = record {
    heard = go (other_known differs last.own last.known);
    mine = mine;
    theirs = theirs;
  }
    where
      own : IsOf H position peer
      own = of_less (Accept replica served piece ∷ []) last.own (before_of_other H (Accept replica served piece) differs last.own)

      mine : (other : ℕ) → IsHeard H replica peer other → other ≤ position
      mine other h = last.last other
          (accept_keeps H replica served piece server by_server h.known)
          (of_more (Accept replica served piece ∷ []) h.own)

      theirs : (other : ℕ) → IsHeard there server peer other → other ≤ position
      theirs other h = last.last other
          (accept_brings H replica served piece server by_server h.known)
          (of_more (Accept replica served piece ∷ []) (of_from_before (served + 1) h.own).1)

      go : Knows H replica position ⊎ Knows there server position →
          IsHeard H replica peer position ⊎ IsHeard there server peer position
      go (inl k) = inl (record {
        known = k;
        own = own;
        last = λ other l o. let h = heard_from l o in let b = mine h.0 h.1 in omega (arith, h.2);
      })
      go (inr k) = inr (record {
        known = k;
        own = of_before (known_there k) own;
        last = λ other l o. let h = heard_from l o in let b = theirs h.0 h.1 in omega (arith, h.2);
      })

  pub heard_joined : {peer position : ℕ} → peer ≢ replica → IsLaterHeard H replica there server peer position →
      IsHeard after replica peer position
  heard_joined {peer} {position} differs later = record {
    known = known later.heard;
    own = of_more (Accept replica served piece ∷ []) (own later.heard);
    last = λ other k o.
        let h = before_of_other H (Accept replica served piece) differs o in
        last (other_known differs o k) (of_less (Accept replica served piece ∷ []) o h);
  }
    where
      known : IsHeard H replica peer position ⊎ IsHeard there server peer position → Knows after replica position
      known (inl h) = accept_keeps H replica served piece server by_server h.known
      known (inr h) = accept_brings H replica served piece server by_server h.known

      own : IsHeard H replica peer position ⊎ IsHeard there server peer position → IsOf H position peer
      own (inl h) = h.own
      own (inr h) = (of_from_before (served + 1) h.own).1

      last : {other : ℕ} → Knows H replica other ⊎ Knows there server other → IsOf H other peer → other ≤ position
      last (inl k) o = let h = heard_from k o in let b = later.mine h.0 h.1 in omega (arith, h.2)
      last (inr k) o =
          let h = heard_from k (of_before (known_there k) o) in
          let b = later.theirs h.0 h.1 in
          omega (arith, h.2)

-- In each of these an answer may be taken.
module _ (volume : Volume) (H : List Event) (replica served piece server : ℕ) (entry : Id)
    (answer : IsAnswer volume H replica served piece server) where
  abbrev answered : List Event
  answered = through served H

  pub server_member : IsMember volume.members server
  server_member = lawful_member volume H answer.lawful answer.by

  replica_member : IsMember volume.members replica
  replica_member = answer.may.member

  -- what the replica knows that the server knows, the server knew when it served
  heard_before : {position : ℕ} → Knows H replica position → IsOf H position server → position ≤ served
  heard_before {position} known own =
      let same = of_same answer.by (of_at answer.may.wanted.answer.served) in
      let his = subst (IsOf H position) same own in
      let h = known_before_served volume H served replica answer.lawful answer.may.wanted.answer known his in
      omega arith

  pub server_removed : KnowsThatKnows H replica server entry → IsRemoved answered (Knows answered server) entry
  server_removed o = removed_later o.own (heard_before o.known o.own) o.removed

  pub server_one : {peer : ℕ} → KnowsThatAllKnow volume.members H replica server entry → IsMember volume.members peer →
      KnowsThatKnows answered server peer entry
  server_one {peer} t m = one_later t.own (heard_before t.known t.own) (t.all peer m)

  -- where the replica has dropped the entry, the server knew a removal and knew that the replica knew one
  pub dropped_server_one : IsDropped volume.members H replica entry → KnowsThatKnows answered server replica entry
  dropped_server_one d = server_one (dropped_two d server_member) replica_member

  pub dropped_server_removed : IsDropped volume.members H replica entry →
      IsRemoved answered (Knows answered server) entry
  dropped_server_removed d = one_removed (dropped_server_one d)

  -- what the server knew the replica to know, it knows
  pub marked_removed : KnowsThatKnows answered server replica entry → IsRemoved H (Knows H replica) entry
  marked_removed o = let p = one_from_before (served + 1) o in removed_from_before (p.position + 1) p.removed

  pub absent_dropped : IsAbsent volume.members H replica entry → KnowsThatKnows answered server replica entry →
      IsDropped volume.members H replica entry
  absent_dropped absent o = absent (removed_entered volume H answer.lawful (marked_removed o))

  pub lawful_there : IsLawful volume answered
  lawful_there = lawful_before volume H (served + 1) answer.lawful

  pub server_absent_dropped : IsAbsent volume.members answered server entry →
      KnowsThatKnows H replica server entry → IsDropped volume.members answered server entry
  server_absent_dropped absent o = absent (removed_entered volume answered lawful_there (server_removed o))

  pub server_dropped_one : {peer : ℕ} → IsDropped volume.members answered server entry → IsMember volume.members peer →
      KnowsThatKnows H replica peer entry
  server_dropped_one d m = dropped_one (dropped_from_before (served + 1) d) replica_member m
