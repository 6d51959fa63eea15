-- A pull whole: an ask, the answer to it, and the taking of its pieces, one after the other.
use Rattle.std.proofs.Common.{◌≡◌, ◌≢◌, ℕ, zero, suc, ◌+◌, ◌<◌, ◌≤◌, List, [], ◌∷◌, length, refl, sym, subst, ◌∙◌, inl, inr, ◌⊎◌, arith}
use Rattle.std.proofs.lemmas.Bool.{cases_lt}
use Rattle.std.proofs.lemmas.List.{length_push}
use Rattle.ficus_ids.specs.Members.{IsMember}
use Rattle.ficus_ids.specs.declared.id.Id.{Id}
use Rattle.ficus_ids.specs.declared.kind.Kind.{Kind}
use Rattle.ficus_model.specs.declared.event.Event.{Event}
use Rattle.ficus_model.specs.declared.event.Event.TheVariants.{Update, Ask, Serve, Take, Accept}
use Rattle.ficus_model.specs.declared.event.Op.{Op}
use Rattle.ficus_model.specs.Events.{IsAt, IsOf, IsUpdate, count_of, generation_of}
use Rattle.ficus_model.specs.Known.{HasSeen, Knows}
use Rattle.ficus_model.specs.Known.HasSeen.{Earlier}
use Rattle.ficus_model.specs.Live.{ModelEntry, IsLive, IsMade}
use Rattle.ficus_model.specs.Lawful.{Volume, MayCome, IsOpenAsk, AnswersOpenAsk, AreTakenOfState, HasTaken, IsWantedPiece, IsLawful}
use Rattle.ficus_laws.specs.Accepts.{IsLiveJoined, asked, serving, answered, taking, pulled}
use Rattle.ficus_laws.specs.Updates.{next_number, HasUpdate, SameUpdates, Joined}
use Rattle.ficus_laws.proofs.Positions.{AgreeBelow, agree_more, at_within, at_end, at_cases, at_from_before, at_same, of_at, of_within, of_more}
use Rattle.ficus_laws.proofs.Updates.{count_no_update, update_cases, update_more, update_within}
use Rattle.ficus_laws.proofs.Seen.{seen_more}
use Rattle.ficus_laws.proofs.Knowledge.{knows_more, knows_of_other, knows_less, knows_accept, knows_heard}
use Rattle.ficus_laws.proofs.Shown.{within_chain, within_joined_left, within_joined_right, made_within, made_either, live_same, same_back, live_joined, joined_live}
use Rattle.ficus_laws.proofs.Lawful.{lawful_more}
use Rattle.ficus_laws.proofs.OpenAsk.{open_kept, open_end}
use Rattle.ficus_laws.proofs.Takes.{IsTakeAt, length_taking, taking_agrees, at_taking, of_taking, seen_taking, knows_taking, update_taking, open_taking, knows_before_taking, update_before_taking, count_taking, at_taking_cases, has_taken}

module _ (H : List Event) (replica server : ℕ) where
  pub length_asked : length (asked H replica server) ≡ length H + 1
  length_asked = length_push H (Ask replica server)

  module _ (pieces : ℕ) where
    abbrev reply : List Event
    reply = answered H replica server pieces

    pub length_answered : length (answered H replica server pieces) ≡ length H + 2
    length_answered = omega (arith, length_push (asked H replica server) (serving H replica server pieces), length_asked)

    pub served_at : IsAt (answered H replica server pieces) (length H + 1) (serving H replica server pieces)
    served_at = rw (← length_asked) (at_end (asked H replica server) (serving H replica server pieces))

    pub open_answered : IsOpenAsk (answered H replica server pieces) (length H) replica server
    open_answered = open_kept (serving H replica server pieces) (λ closes. closes) (open_end H replica server)

    -- so many pieces may be served
    pub serve_may_come : (volume : Volume) → IsLawful volume (asked H replica server) → IsMember volume.members server →
        1 ≤ pieces → MayCome volume (asked H replica server) (serving H replica server pieces)
    serve_may_come volume lawful member some = record {
      member = member;
      asker = replica;
      asked = at_end H (Ask replica server);
      generation = refl;
      some = some;
      alike = λ position other at. absurd (none position other at);
    }
      where
        none : (position other : ℕ) → IsAt (asked H replica server) position
            (Serve server (length H) (generation_of server (asked H replica server)) other) → ⊥
        none position other at =
            let may = lawful.each position
            (Serve server (length H) (generation_of server (asked H replica server)) other) at in
            omega (arith, (at_from_before position may.asked).0, at_within at, length_asked)

    -- nothing is taken before the first
    no_take : {position serve piece : ℕ} → length H ≤ position →
        IsAt (answered H replica server pieces) position (Take replica serve piece) → ⊥
    no_take {position} {serve} {piece} from at = go (at_cases (serving H replica server pieces) at)
      where
        first : IsAt H position (Take replica serve piece) ⊎
            ((position ≡ length H) × (Take replica serve piece ≡ Ask replica server)) → ⊥
        first (inl was) = omega (arith, at_within was, from)
        first (inr (end, is)) = cc

        go : IsAt (asked H replica server) position (Take replica serve piece) ⊎
            ((position ≡ length (asked H replica server)) × (Take replica serve piece ≡ serving H replica server pieces)) → ⊥
        go (inl was) = first (at_cases (Ask replica server) was)
        go (inr (end, is)) = cc

    module _ (count : ℕ) where
      -- so many are taken
      abbrev taken : List Event
      taken = taking (answered H replica server pieces) replica (length H + 1) count

      abbrev pub answers_taken : AnswersOpenAsk taken (length H + 1) replica
      answers_taken = record {
        server = server;
        ask = length H;
        state = generation_of server (asked H replica server);
        pieces = pieces;
        served = at_taking reply replica (length H + 1) count served_at;
        open_ask = open_taking reply replica (length H + 1) count open_answered;
      }

      take_among : {position serve piece : ℕ} → length H < position → IsAt taken position (Take replica serve piece) →
          (serve ≡ length H + 1) × (piece < count)
      take_among {position} {serve} {piece} behind at = go (at_taking_cases reply replica (length H + 1) count at)
        where
          go : IsAt reply position (Take replica serve piece) ⊎
              IsTakeAt reply replica (length H + 1) count position (Take replica serve piece) →
              (serve ≡ length H + 1) × (piece < count)
          go (inl was) = absurd (no_take (omega (arith, behind)) was)
          go (inr t) =
              let e : Take replica serve piece ≡ Take replica (length H + 1) t.piece = t.is in
              let serves : serve ≡ length H + 1 = cc in
              let same : piece ≡ t.piece = cc in
              (serves, omega (arith, same, t.below))

      pub not_taken : {piece : ℕ} → count ≤ piece → HasTaken taken replica piece → ⊥
      not_taken {piece} from t = go (cases_lt (length H) t.position)
        where
          ask_at : IsAt taken (length H) (Ask replica server)
          ask_at = at_taking reply replica (length H + 1) count open_answered.ask

          at_ask : t.position ≡ length H → ⊥
          at_ask same =
              let e : Take replica t.serve piece ≡ Ask replica server =
              at_same (subst (λ n. IsAt taken n (Take replica t.serve piece)) same t.taken) ask_at in
              cc

          before_ask : (t.position < length H) ⊎ (length H ≤ t.position) → t.position ≤ length H → ⊥
          before_ask (inl earlier) within = t.latest (length H) (Ask replica server) earlier ask_at refl
          before_ask (inr last) within = at_ask (omega (arith, last, within))

          go : (length H < t.position) ⊎ (t.position ≤ length H) → ⊥
          go (inl behind) = omega (arith, (take_among behind t.taken).1, from)
          go (inr within) = before_ask (cases_lt t.position (length H)) within

      pub of_state : AreTakenOfState taken replica (length H) (generation_of server (asked H replica server))
      of_state position serve piece behind at = record {
        server = server;
        ask = length H;
        pieces = pieces;
        served = subst (λ n. IsAt taken n (serving H replica server pieces)) (sym (take_among behind at).0)
            (at_taking reply replica (length H + 1) count served_at);
      }

      abbrev pub wanted_next : count < pieces → IsWantedPiece taken replica (length H + 1) count
      wanted_next below = record {
        answer = answers_taken;
        below = below;
        untaken = λ t. not_taken (omega arith) t;
        of_state = of_state;
      }

  -- each of the events may come
  pub ask_may_come : (volume : Volume) → IsMember volume.members replica → IsMember volume.members server →
      replica ≢ server → MayCome volume H (Ask replica server)
  ask_may_come volume member other differs = record { member = member; other = other; differ = differs }

  module _ (last : ℕ) where
    -- once so many are taken
    abbrev so_far : ℕ → List Event
    so_far count = taking (answered H replica server (last + 1)) replica (length H + 1) count

    pub take_may_come : (volume : Volume) (count : ℕ) → count < last → IsMember volume.members replica →
        MayCome volume (so_far count) (Take replica (length H + 1) count)
    take_may_come volume count more member = record {
      member = member;
      wanted = wanted_next (last + 1) count (omega (arith, more));
      other = last;
      other_below = omega arith;
      differs = λ same. omega (arith, same, more);
      missing = λ t. not_taken (last + 1) count (omega (arith, more)) t;
    }

    pub accept_may_come : (volume : Volume) → IsMember volume.members replica →
        MayCome volume (so_far last) (Accept replica (length H + 1) last)
    accept_may_come volume member = record {
      member = member;
      wanted = wanted_next (last + 1) last (omega arith);
      others = λ other below differs.
          has_taken (answered H replica server (last + 1)) replica (length H + 1) last (omega (arith, below, differs));
    }

    lawful_taking : (volume : Volume) → IsMember volume.members replica →
        IsLawful volume (answered H replica server (last + 1)) → (count : ℕ) → count ≤ last →
        IsLawful volume (so_far count)
    lawful_taking volume member lawful zero within = lawful
    lawful_taking volume member lawful (suc count) within =
        lawful_more volume (so_far count) (Take replica (length H + 1) count)
        (lawful_taking volume member lawful count (omega (arith, within)))
        (take_may_come volume count (omega (arith, within)) member)

    pub lawful_pulled : (volume : Volume) → IsMember volume.members replica → IsMember volume.members server →
        replica ≢ server → IsLawful volume H → IsLawful volume (pulled H replica server last)
    lawful_pulled volume member other differs lawful =
        let first = lawful_more volume H (Ask replica server) lawful (ask_may_come volume member other differs) in
        let second = lawful_more volume (asked H replica server) (serving H replica server (last + 1)) first
        (serve_may_come (last + 1) volume first other (omega arith)) in
        lawful_more volume (so_far last) (Accept replica (length H + 1) last)
        (lawful_taking volume member second last (omega arith)) (accept_may_come volume member)

    pub length_pulled : length (pulled H replica server last) ≡ length H + 3 + last
    length_pulled = omega (
      arith,
      length_push (so_far last) (Accept replica (length H + 1) last),
      length_taking (answered H replica server (last + 1)) replica (length H + 1) last,
      length_answered (last + 1),
    )

    -- no update is among the events
    pub count_pulled : (other : ℕ) → count_of other (pulled H replica server last) ≡ count_of other H
    count_pulled other =
        count_no_update other (so_far last) (Accept replica (length H + 1) last) refl
        ∙ count_taking (answered H replica server (last + 1)) replica (length H + 1) other last
        ∙ count_no_update other (asked H replica server) (serving H replica server (last + 1)) refl
        ∙ count_no_update other H (Ask replica server) refl

    pub pulled_agrees : AgreeBelow (length H) H (pulled H replica server last)
    pulled_agrees = record {
      same = λ position below.
          let taken = taking_agrees (answered H replica server (last + 1)) replica (length H + 1) last in
          let length_taken = length_taking (answered H replica server (last + 1)) replica (length H + 1) last in
          let length_reply = length_answered (last + 1) in
          (agree_more H (Ask replica server ∷ [])).same position below
          ∙ (agree_more (asked H replica server) (serving H replica server (last + 1) ∷ [])).same position
          (omega (arith, below, length_asked))
          ∙ taken.same position (omega (arith, below, length_reply))
          ∙ (agree_more (so_far last) (Accept replica (length H + 1) last ∷ [])).same position
          (omega (arith, below, length_reply, length_taken));
    }

    pub update_pulled : {position : ℕ} {number : Id} {op : Op} →
        IsUpdate (pulled H replica server last) position number op → IsUpdate H position number op
    update_pulled {position} {number} {op} u = first (update_cases (Accept replica (length H + 1) last) u)
      where
        third : IsUpdate H position number op ⊎
            ((position ≡ length H) × (Ask replica server ≡ Update number.replica op) ×
            (number ≡ next_number number.replica H)) →
            IsUpdate H position number op
        third (inl was) = was
        third (inr (end, is, next)) = cc

        second : IsUpdate (asked H replica server) position number op ⊎
            ((position ≡ length (asked H replica server)) ×
            (serving H replica server (last + 1) ≡ Update number.replica op)
            × (number ≡ next_number number.replica (asked H replica server))) →
            IsUpdate H position number op
        second (inl was) = third (update_cases (Ask replica server) was)
        second (inr (end, is, next)) = cc

        first : IsUpdate (so_far last) position number op ⊎
            ((position ≡ length (so_far last)) × (Accept replica (length H + 1) last ≡ Update number.replica op)
            × (number ≡ next_number number.replica (so_far last))) →
            IsUpdate H position number op
        first (inl was) =
            second (update_cases (serving H replica server (last + 1))
            (update_before_taking (answered H replica server (last + 1)) replica (length H + 1) last was))
        first (inr (end, is, next)) = cc

    knows_answered : {other position : ℕ} → Knows (answered H replica server (last + 1)) other position →
        position < length H → Knows H other position
    knows_answered k h =
        knows_less (Ask replica server) (λ served takes. takes)
        (knows_less (serving H replica server (last + 1)) (λ served takes. takes) k (omega (arith, h, length_asked))) h

    knows_so_far : {other position : ℕ} → Knows (so_far last) other position → position < length H → Knows H other position
    knows_so_far k h =
        knows_answered
        (knows_before_taking (answered H replica server (last + 1)) replica (length H + 1) last k
        (omega (arith, h, length_answered (last + 1)))) h

    -- what was known before stays known
    pub pulled_keeps : {other position : ℕ} → Knows H other position →
        Knows (pulled H replica server last) other position
    pulled_keeps k =
        knows_more (Accept replica (length H + 1) last ∷ [])
        (knows_taking (answered H replica server (last + 1)) replica (length H + 1) last
        (knows_more (serving H replica server (last + 1) ∷ []) (knows_more (Ask replica server ∷ []) k)))

    -- and what the server knew, the replica knows
    pub pulled_brings : {position : ℕ} → Knows H server position → Knows (pulled H replica server last) replica position
    pulled_brings {position} k =
        let w = of_within k.own in
        let own = of_more (serving H replica server (last + 1) ∷ []) (of_more (Ask replica server ∷ []) k.own) in
        let seen = seen_more (serving H replica server (last + 1) ∷ []) (seen_more (Ask replica server ∷ []) k.seen) in
        knows_heard replica last
        (seen_taking (answered H replica server (last + 1)) replica (length H + 1) last
        (Earlier (of_at (served_at (last + 1))) own (omega arith) seen))

    -- of the earlier positions, the replica knows no others
    pub knows_pulled : {position : ℕ} → Knows (pulled H replica server last) replica position → position < length H →
        Knows H replica position ⊎ Knows H server position
    knows_pulled {position} k h = go (knows_accept (length H + 1) last k)
      where
        served : IsOf (so_far last) (length H + 1) server
        served =
            of_taking (answered H replica server (last + 1)) replica (length H + 1) last (of_at (served_at (last + 1)))

        go : Knows (so_far last) replica position ⊎
            ((position ≡ length (so_far last)) ⊎ HasSeen (so_far last) (length H + 1) position) →
            Knows H replica position ⊎ Knows H server position
        go (inl own) = inl (knows_so_far own h)
        go (inr (inl end)) = absurd (omega (
          arith,
          end,
          h,
          length_taking (answered H replica server (last + 1)) replica (length H + 1) last,
          length_answered (last + 1),
        ))
        go (inr (inr seen)) = inr (knows_so_far (record { last = length H + 1; own = served; seen = seen }) h)

    -- and the other replicas know what they knew
    pub knows_pulled_other : {other position : ℕ} → other ≢ replica → Knows (pulled H replica server last) other position →
        position < length H → Knows H other position
    knows_pulled_other differs k h =
        knows_so_far (knows_of_other (Accept replica (length H + 1) last) (λ same. differs (sym same)) k) h

    update_kept : {position : ℕ} {number : Id} {op : Op} → IsUpdate H position number op →
        IsUpdate (pulled H replica server last) position number op
    update_kept u =
        update_more (Accept replica (length H + 1) last ∷ [])
        (update_taking (answered H replica server (last + 1)) replica (length H + 1) last
        (update_more (serving H replica server (last + 1) ∷ []) (update_more (Ask replica server ∷ []) u)))

    -- after a pull the replica knows the updates that it or the server knew, and the others know those that they knew
    pub same_pulled : SameUpdates H (Joined (Knows H replica) (Knows H server))
        (pulled H replica server last) (Knows (pulled H replica server last) replica)
    same_pulled = record {
      there = record { has = λ number op u. record { position = u.position; known = known u.known; update = update_kept u.update } };
      back = record { has = λ number op u. back u };
    }
      where
        known : {position : ℕ} → Joined (Knows H replica) (Knows H server) position →
            Knows (pulled H replica server last) replica position
        known (inl own) = pulled_keeps own
        known (inr his) = pulled_brings his

        back : {number : Id} {op : Op} →
            HasUpdate (pulled H replica server last) (Knows (pulled H replica server last) replica) number op →
            HasUpdate H (Joined (Knows H replica) (Knows H server)) number op
        back u =
            let was = update_pulled u.update in
            record { position = u.position; known = knows_pulled u.known (update_within was); update = was }

    pub same_pulled_other : {other : ℕ} → other ≢ replica →
        SameUpdates H (Knows H other) (pulled H replica server last) (Knows (pulled H replica server last) other)
    same_pulled_other {other} differs = record {
      there = record { has = λ number op u. record { position = u.position; known = pulled_keeps u.known; update = update_kept u.update } };
      back = record { has = λ number op u. back u };
    }
      where
        back : {number : Id} {op : Op} →
            HasUpdate (pulled H replica server last) (Knows (pulled H replica server last) other) number op →
            HasUpdate H (Knows H other) number op
        back u =
            let was = update_pulled u.update in
            record { position = u.position; known = knows_pulled_other differs u.known (update_within was); update = was }

    -- what is alive for the replica after a pull was entered for it or for the server, and is removed for neither
    pub pulled_live : {entry : ModelEntry} →
        IsLive (pulled H replica server last) (Knows (pulled H replica server last) replica) entry →
        IsLiveJoined H (Knows H replica) H (Knows H server) entry
    pulled_live l = joined_live (live_same (same_back same_pulled) l)

    pub live_pulled : {entry : ModelEntry} → IsLiveJoined H (Knows H replica) H (Knows H server) entry →
        IsLive (pulled H replica server last) (Knows (pulled H replica server last) replica) entry
    live_pulled l = live_same same_pulled (live_joined l)

    -- what is made for it then was made for it or for the server
    pub pulled_made : {object : Id} {kind : Kind} →
        IsMade (pulled H replica server last) (Knows (pulled H replica server last) replica) object kind →
        IsMade H (Knows H replica) object kind ⊎ IsMade H (Knows H server) object kind
    pulled_made m = made_either (made_within same_pulled.back m)

    pub made_pulled : {object : Id} {kind : Kind} →
        IsMade H (Knows H replica) object kind ⊎ IsMade H (Knows H server) object kind →
        IsMade (pulled H replica server last) (Knows (pulled H replica server last) replica) object kind
    made_pulled (inl own) = made_within (within_chain within_joined_left same_pulled.there) own
    made_pulled (inr his) = made_within (within_chain within_joined_right same_pulled.there) his
