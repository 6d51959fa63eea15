-- What taking an answer brings.
use Rattle.std.proofs.Common.{◌≡◌, ◌≢◌, ℕ, ◌<◌, List, [], ◌∷◌, ◌++◌, length, subst, inl, inr, ◌⊎◌, arith}
use Rattle.std.proofs.lemmas.Bool.{cases_order}
use Rattle.ficus_ids.specs.declared.id.Id.{Id}
use Rattle.ficus_ids.specs.declared.kind.Kind.{Kind}
use Rattle.ficus_model.specs.declared.event.Event.{Event}
use Rattle.ficus_model.specs.declared.event.Event.TheVariants.{Ask, Serve, Accept}
use Rattle.ficus_model.specs.Events.{IsAt, IsOf, through}
use Rattle.ficus_model.specs.Known.{HasSeen, Knows}
use Rattle.ficus_model.specs.Known.HasSeen.{Itself, Earlier, Heard}
use Rattle.ficus_model.specs.Live.{ModelEntry, IsEntered, IsRemoved, IsLive, IsMade}
use Rattle.ficus_model.specs.Lawful.{Volume, AnswersOpenAsk, IsLawful}
use Rattle.ficus_laws.specs.Accepts.{IsLiveJoined}
use Rattle.ficus_laws.specs.Updates.{UpdatesWithin, Joined}
use Rattle.ficus_laws.proofs.Positions.{at_same, at_from_before, of_at, of_same}
use Rattle.ficus_laws.proofs.Seen.{seen_within}
use Rattle.ficus_laws.proofs.Knowledge.{knows_more, knows_accept, knows_heard, seen_knows, knows_seen}
use Rattle.ficus_laws.proofs.Shown.{within_chain, within_joined_right, entered_within, removed_within, made_within, entered_either, removed_either, made_either}
use Rattle.ficus_laws.proofs.OneMore.{within_more, same_accept, same_seen}

-- what was served is served after the ask that it answers
pub ask_before_serve : (volume : Volume) (H : List Event) {served replica : ℕ} → IsLawful volume H →
    (answer : AnswersOpenAsk H served replica) → answer.ask < served
ask_before_serve volume H {served} lawful answer =
    (at_from_before served (lawful.each served (Serve answer.server answer.ask answer.state answer.pieces) answer.served).asked).0

-- nobody asks itself
pub server_differs : (volume : Volume) (H : List Event) {served replica : ℕ} → IsLawful volume H →
    (answer : AnswersOpenAsk H served replica) → replica ≢ answer.server
server_differs volume H {replica = replica} lawful answer =
    (lawful.each answer.ask (Ask replica answer.server) answer.open_ask.ask).differ

-- Where the answer at a position may be taken, each event of the server that the replica has heard of is earlier:
-- the replica got it through an Accept, none came after the ask, and the ask was served later.
module _ (volume : Volume) (H : List Event) (served replica : ℕ) (lawful : IsLawful volume H) (answer : AnswersOpenAsk H served replica) where
  accept_before_ask : {position by serve piece : ℕ} → IsAt H position (Accept by serve piece) → by ≡ replica → position < answer.ask
  accept_before_ask {position} {by} {serve} {piece} a own = go (cases_order position answer.ask)
    where
      clash : position ≡ answer.ask → ⊥
      clash h = let e : Accept by serve piece ≡ Ask replica answer.server = at_same a (rw h answer.open_ask.ask) in cc

      go : (position ≡ answer.ask) ⊎ ((position < answer.ask) ⊎ (answer.ask < position)) → position < answer.ask
      go (inl h) = absurd (clash h)
      go (inr (inl h)) = h
      go (inr (inr h)) = absurd (answer.open_ask.latest position (Accept by serve piece) h a own)

  seen_before_served : {at position : ℕ} → HasSeen H at position → IsOf H at replica → IsOf H position answer.server →
      position < served
  seen_before_served (Itself o) own his = absurd (server_differs volume H lawful answer (of_same own his))
  seen_before_served (Earlier {old = old} o p l s) own his =
      seen_before_served s (subst (λ r. IsOf H old r) (of_same o own) p) his
  seen_before_served (Heard a l s) own his =
      let h = accept_before_ask a (of_same (of_at a) own) in
      let w = seen_within s in
      let b = ask_before_serve volume H lawful answer in
      omega arith

  pub known_before_served : {position : ℕ} → Knows H replica position → IsOf H position answer.server →
      position < served
  known_before_served k his = seen_before_served k.seen k.own his

-- What a replica knows once it has taken what this server served at this position.
module _ (H : List Event) (replica served piece server : ℕ) (by_server : IsOf H served server) where
  abbrev after : List Event
  after = H ++ Accept replica served piece ∷ []

  -- of the positions before, it knows what it knew and what the server knew when it served
  pub accept_knows : {position : ℕ} → Knows after replica position → position < length H →
      Knows H replica position ⊎ Knows (through served H) server position
  accept_knows {position} k h = go (knows_accept served piece k)
    where
      go : Knows H replica position ⊎ ((position ≡ length H) ⊎ HasSeen H served position) →
          Knows H replica position ⊎ Knows (through served H) server position
      go (inl was) = inl was
      go (inr (inl end)) = absurd (omega arith)
      go (inr (inr seen)) = inr (seen_knows by_server seen)

  pub accept_keeps : {position : ℕ} → Knows H replica position → Knows after replica position
  accept_keeps k = knows_more (Accept replica served piece ∷ []) k

  pub accept_brings : {position : ℕ} → Knows (through served H) server position → Knows after replica position
  accept_brings k = knows_heard replica piece (knows_seen by_server k)

  within_served : UpdatesWithin (through served H) (Knows (through served H) server) H
      (Joined (Knows H replica) (HasSeen H served))
  within_served = within_chain (same_seen H served server by_server).back within_joined_right

  within_after : UpdatesWithin (through served H) (Knows (through served H) server) after (Knows after replica)
  within_after = within_chain within_served (same_accept H replica served piece).there

  -- what is entered and removed then was so at one of the two
  pub accept_entered : {entry : ModelEntry} → IsEntered after (Knows after replica) entry →
      IsEntered H (Knows H replica) entry ⊎ IsEntered (through served H) (Knows (through served H) server) entry
  accept_entered {entry} e = go (entered_either (entered_within (same_accept H replica served piece).back e))
    where
      go : IsEntered H (Knows H replica) entry ⊎ IsEntered H (HasSeen H served) entry →
          IsEntered H (Knows H replica) entry ⊎ IsEntered (through served H) (Knows (through served H) server) entry
      go (inl own) = inl own
      go (inr his) = inr (entered_within (same_seen H served server by_server).there his)

  pub accept_removed : {id : Id} → IsRemoved after (Knows after replica) id →
      IsRemoved H (Knows H replica) id ⊎ IsRemoved (through served H) (Knows (through served H) server) id
  accept_removed {id} r = go (removed_either (removed_within (same_accept H replica served piece).back r))
    where
      go : IsRemoved H (Knows H replica) id ⊎ IsRemoved H (HasSeen H served) id →
          IsRemoved H (Knows H replica) id ⊎ IsRemoved (through served H) (Knows (through served H) server) id
      go (inl own) = inl own
      go (inr his) = inr (removed_within (same_seen H served server by_server).there his)

  pub accept_made : {object : Id} {kind : Kind} → IsMade after (Knows after replica) object kind →
      IsMade H (Knows H replica) object kind ⊎ IsMade (through served H) (Knows (through served H) server) object kind
  accept_made {object} {kind} m = go (made_either (made_within (same_accept H replica served piece).back m))
    where
      go : IsMade H (Knows H replica) object kind ⊎ IsMade H (HasSeen H served) object kind →
          IsMade H (Knows H replica) object kind ⊎
          IsMade (through served H) (Knows (through served H) server) object kind
      go (inl own) = inl own
      go (inr his) = inr (made_within (same_seen H served server by_server).there his)

  pub made_accept : {object : Id} {kind : Kind} →
      IsMade H (Knows H replica) object kind ⊎ IsMade (through served H) (Knows (through served H) server) object kind →
      IsMade after (Knows after replica) object kind
  made_accept (inl own) = made_within (within_more H (Accept replica served piece ∷ []) replica) own
  made_accept (inr his) = made_within within_after his

  -- what is alive then was entered at one of the two and is removed at neither
  pub accept_live : {entry : ModelEntry} → IsLive after (Knows after replica) entry →
      IsLiveJoined H (Knows H replica) (through served H) (Knows (through served H) server) entry
  accept_live {entry} l = record {
    entered = accept_entered l.entered;
    kept = λ r. l.not_removed (removed_within (within_more H (Accept replica served piece ∷ []) replica) r);
    kept_there = λ r. l.not_removed (removed_within within_after r);
  }

  pub live_accept : {entry : ModelEntry} →
      IsLiveJoined H (Knows H replica) (through served H) (Knows (through served H) server) entry →
      IsLive after (Knows after replica) entry
  live_accept {entry} l = record { entered = entered l.entered; not_removed = λ r. removed (accept_removed r) }
    where
      entered : IsEntered H (Knows H replica) entry ⊎
          IsEntered (through served H) (Knows (through served H) server) entry →
          IsEntered after (Knows after replica) entry
      entered (inl own) = entered_within (within_more H (Accept replica served piece ∷ []) replica) own
      entered (inr his) = entered_within within_after his

      removed : IsRemoved H (Knows H replica) entry.id ⊎
          IsRemoved (through served H) (Knows (through served H) server) entry.id →
          ⊥
      removed (inl own) = l.kept own
      removed (inr his) = l.kept_there his
