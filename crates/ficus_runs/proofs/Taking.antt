-- Taking a piece comes to one thing, and where an answer to the open ask of one state was posted, to one at least.
use Rattle.std.proofs.Common.{◌≡◌, ◌≢◌, ℕ, zero, suc, ◌+◌, ◌<◌, ◌≤◌, List, length, refl, ap, subst, inl, inr, ◌⊎◌, arith}
use Rattle.std.proofs.lemmas.Bool.{cases_eq, cases_lt}
use Rattle.ficus_ids.specs.Members.{IsMember}
use Rattle.ficus_model.specs.declared.event.Event.{Event}
use Rattle.ficus_model.specs.declared.event.Event.TheVariants.{Ask, Serve, Take}
use Rattle.ficus_model.specs.Events.{IsAt}
use Rattle.ficus_model.specs.Lawful.{IsLawful, Volume, AnswersOpenAsk, AreTakenOfState, HasTaken, IsWantedPiece}
use Rattle.ficus_laws.proofs.Deciding.{Decided}
use Rattle.ficus_laws.proofs.Positions.{at_exists, at_same, at_within}
use Rattle.ficus_runs.proofs.pieces.Taken.{one_count, taken_served}
use Rattle.ficus_version_laws.proofs.Counting.{counts_once}
use Rattle.ficus_version_laws.proofs.Existing.{counts_exist}
use Rattle.ficus_runs.specs.Exchange.{Again, ComesToTaking, Have, IsOneState, OneMore, Taking, TheLast}
use Rattle.ficus_runs.specs.Exchange.ComesToTaking.{IsTaken, IsMissing, Completes}

module _ (volume : Volume) (H : List Event) (replica serve index pieces : ℕ) where
  pub taking_once : (one other : Taking) → ComesToTaking volume H replica serve index pieces one
      → ComesToTaking volume H replica serve index pieces other → one ≡ other
  taking_once one other (IsTaken taken have) (IsTaken again too) = ap Again (counts_once have too)
  taking_once one other (IsMissing may have) (IsMissing again too) = ap (λ n. OneMore (n + 1)) (counts_once have too)
  taking_once one other (Completes may) (Completes again) = refl
  taking_once one other (IsTaken taken have) (IsMissing may too) = absurd (may.wanted.untaken taken)
  taking_once one other (IsMissing may have) (IsTaken taken too) = absurd (may.wanted.untaken taken)
  taking_once one other (IsTaken taken have) (Completes may) = absurd (may.wanted.untaken taken)
  taking_once one other (Completes may) (IsTaken taken have) = absurd (may.wanted.untaken taken)
  taking_once one other (IsMissing some have) (Completes all) =
      let same = at_same some.wanted.answer.served all.wanted.answer.served in
      let counts : some.wanted.answer.pieces ≡ all.wanted.answer.pieces = cc in
      absurd (some.missing (all.others some.other (omega (arith, some.other_below, counts)) some.differs))
  taking_once one other (Completes all) (IsMissing some have) =
      let same = at_same some.wanted.answer.served all.wanted.answer.served in
      let counts : some.wanted.answer.pieces ≡ all.wanted.answer.pieces = cc in
      absurd (some.missing (all.others some.other (omega (arith, some.other_below, counts)) some.differs))

-- of numbers below a bound one has what can be decided, or none has
some_or_none : (P : ℕ → Type 0) (bound : ℕ) → ((number : ℕ) → number < bound → Decided (P number))
    → ((number : ℕ) × (number < bound) × P number) ⊎ ((number : ℕ) → number < bound → P number → ⊥)
some_or_none P zero decide = inr (λ number below p. omega arith)
some_or_none P (suc bound) decide =
    go (decide bound (omega arith)) (some_or_none P bound (λ number below. decide number (omega arith)))
  where
    go : Decided (P bound)
        → ((number : ℕ) × (number < bound) × P number) ⊎ ((number : ℕ) → number < bound → P number → ⊥)
        → ((number : ℕ) × (number < suc bound) × P number) ⊎ ((number : ℕ) → number < suc bound → P number → ⊥)
    go (inl p) rest = inl (bound, omega arith, p)
    go (inr none) (inl (number, below, p)) = inl (number, omega arith, p)
    go (inr none) (inr others) = inr (λ number below p. pick number below p (cases_eq number bound))
      where
        pick : (number : ℕ) → number < suc bound → P number → (number ≡ bound) ⊎ (number ≢ bound) → ⊥
        pick number below p (inl same) = none (subst P same p)
        pick number below p (inr differs) = others number (omega arith) p

-- at this position the replica takes this piece
pub record TakesAt (H : List Event) (replica piece position : ℕ) : Type 0 where
  pub serve : ℕ
  pub at : IsAt H position (Take replica serve piece)

module _ (H : List Event) (replica piece : ℕ) where
  event_decided : (position : ℕ) (event : Event) → IsAt H position event → Decided (TakesAt H replica piece position)
  event_decided position (Take by serve other) at = go (cases_eq by replica) (cases_eq other piece)
    where
      go : (by ≡ replica) ⊎ (by ≢ replica) → (other ≡ piece) ⊎ (other ≢ piece)
          → Decided (TakesAt H replica piece position)
      go (inl same) (inl alike) =
          inl (record {
            serve = serve;
            at = subst (λ n. IsAt H position (Take n serve piece)) same
                (subst (λ n. IsAt H position (Take by serve n)) alike at);
          })
      go (inr differs) alike = inr (λ takes. let e = at_same at takes.at in differs (cc))
      go (inl same) (inr differs) = inr (λ takes. let e = at_same at takes.at in differs (cc))
  event_decided position event at = inr (λ takes. let e = at_same at takes.at in cc)

  takes_decided : (position : ℕ) → position < length H → Decided (TakesAt H replica piece position)
  takes_decided position within =
      let found = at_exists H position within in event_decided position found.0 found.1

-- What is taken of the answer to the open ask is what is taken behind it.
module _ {H : List Event} {replica serve : ℕ} (answer : AnswersOpenAsk H serve replica) where
  pub taken_behind : {piece : ℕ} (taken : HasTaken H replica piece) → answer.ask < taken.position
  taken_behind {piece} taken = go (cases_lt answer.ask taken.position)
    where
      at_ask : taken.position ≡ answer.ask → ⊥
      at_ask same =
          let e = at_same (subst (λ n. IsAt H n (Take replica taken.serve piece)) same taken.taken) answer.open_ask.ask in cc

      go : (answer.ask < taken.position) ⊎ (taken.position ≤ answer.ask) → answer.ask < taken.position
      go (inl behind) = behind
      go (inr within) = absurd (earlier (cases_lt taken.position answer.ask))
        where
          earlier : (taken.position < answer.ask) ⊎ (answer.ask ≤ taken.position) → ⊥
          earlier (inl before) =
              taken.latest answer.ask (Ask replica answer.server) before answer.open_ask.ask
              refl
          earlier (inr same) = at_ask (omega (arith, within, same))

  pub behind_taken : {piece position : ℕ} → answer.ask < position → (takes : TakesAt H replica piece position)
      → HasTaken H replica piece
  behind_taken {piece} {position} behind takes = record {
    position = position;
    serve = takes.serve;
    taken = takes.at;
    latest = λ later event after at closes. answer.open_ask.latest later event (omega (arith, behind, after)) at closes;
  }

  pub taken_decided : (piece : ℕ) → Decided (HasTaken H replica piece)
  taken_decided piece =
      go (some_or_none (λ position. (answer.ask < position) × TakesAt H replica piece position) (length H) decide)
    where
      decide : (position : ℕ) → position < length H
          → Decided ((answer.ask < position) × TakesAt H replica piece position)
      decide position within = both (cases_lt answer.ask position) (takes_decided H replica piece position within)
        where
          both : (answer.ask < position) ⊎ (position ≤ answer.ask) → Decided (TakesAt H replica piece position)
              → Decided ((answer.ask < position) × TakesAt H replica piece position)
          both (inl behind) (inl takes) = inl (behind, takes)
          both (inr within) takes = inr (λ p. omega (arith, p.0, within))
          both (inl behind) (inr none) = inr (λ p. none p.1)

      go : ((position : ℕ) × (position < length H) × ((answer.ask < position) × TakesAt H replica piece position))
          ⊎ ((position : ℕ) → position < length H → (answer.ask < position) × TakesAt H replica piece position → ⊥)
          → Decided (HasTaken H replica piece)
      go (inl found) = inl (behind_taken found.2.0 found.2.1)
      go (inr none) =
          inr (λ taken. none taken.position (at_within taken.taken)
          (taken_behind taken, record { serve = taken.serve; at = taken.taken }))

  -- they are of the state of the answer, where all are of one
  pub one_of_state : IsOneState H replica serve → AreTakenOfState H replica answer.ask answer.state
  unfolding behind_taken
  one_of_state one position of piece behind at =
      one answer.state piece
      (record { server = answer.server; ask = answer.ask; pieces = answer.pieces; served = answer.served })
      (behind_taken behind (record { serve = of; at = at }))

-- All of them are among the pieces of the answer, after a lawful history, so that none is left out where those are counted.
module _ (volume : Volume) (H : List Event) (replica serve : ℕ) (lawful : IsLawful volume H)
    (answer : AnswersOpenAsk H serve replica) (one : IsOneState H replica serve) where
  pub taken_below : (piece : ℕ) → HasTaken H replica piece → piece < answer.pieces
  taken_below piece taken =
      let wanted = (lawful.each taken.position (Take replica taken.serve piece) taken.taken).wanted in
      let served : IsAt H taken.serve (Serve answer.server answer.ask wanted.answer.state wanted.answer.pieces) =
      taken_served volume H replica serve lawful answer taken in
      let of = one answer.state piece
      (record { server = answer.server; ask = answer.ask; pieces = answer.pieces; served = answer.served }) taken in
      let same = at_same served of.served in
      let state : wanted.answer.state ≡ answer.state = cc in
      let alike : IsAt H taken.serve (Serve answer.server answer.ask answer.state wanted.answer.pieces) =
      subst (λ n. IsAt H taken.serve (Serve answer.server answer.ask n wanted.answer.pieces)) state served in
      omega (arith, wanted.below, one_count lawful answer.served alike)

module _ (volume : Volume) (H : List Event) (replica serve index : ℕ) (member : IsMember volume.members replica)
    (answer : AnswersOpenAsk H serve replica) (one : IsOneState H replica serve) (below : index < answer.pieces) where
  abbrev Comes : Type 0
  Comes = (taking : Taking) × ComesToTaking volume H replica serve index answer.pieces taking

  -- another piece is missing
  abbrev IsLeft : ℕ → Type 0
  IsLeft other = (other ≢ index) × (HasTaken H replica other → ⊥)

  -- so taking a piece of it comes to something
  pub taking_exists : Comes
  taking_exists = go (taken_decided answer index) counted
    where
      counted : (have : ℕ) × Have H replica answer.pieces have
      counted = counts_exist (HasTaken H replica) answer.pieces (λ piece within. taken_decided answer piece)

      wanted : (HasTaken H replica index → ⊥) → IsWantedPiece H replica serve index
      wanted untaken =
          record { answer = answer; below = below; untaken = untaken; of_state = one_of_state answer one }

      left_decided : (other : ℕ) → other < answer.pieces → Decided (IsLeft other)
      left_decided other within = both (cases_eq other index) (taken_decided answer other)
        where
          both : (other ≡ index) ⊎ (other ≢ index) → Decided (HasTaken H replica other) → Decided (IsLeft other)
          both (inl same) taken = inr (λ left. left.0 same)
          both (inr differs) (inl taken) = inr (λ left. left.1 taken)
          both (inr differs) (inr none) = inl (differs, none)

      all_taken : ((other : ℕ) → other < answer.pieces → IsLeft other → ⊥) → (other : ℕ) → other < answer.pieces
          → other ≢ index → HasTaken H replica other
      all_taken none other within differs = pick (taken_decided answer other)
        where
          pick : Decided (HasTaken H replica other) → HasTaken H replica other
          pick (inl taken) = taken
          pick (inr untaken) = absurd (none other within (differs, untaken))

      last : (HasTaken H replica index → ⊥) → (have : ℕ) → Have H replica answer.pieces have
          → ((other : ℕ) × (other < answer.pieces) × IsLeft other)
          ⊎ ((other : ℕ) → other < answer.pieces → IsLeft other → ⊥) → Comes
      last untaken have counts (inl (other, within, left)) = (
        OneMore (have + 1),
        IsMissing (record {
          member = member;
          wanted = wanted untaken;
          other = other;
          other_below = within;
          differs = left.0;
          missing = left.1;
        }) counts,
      )
      last untaken have counts (inr none) =
          (TheLast, Completes (record { member = member; wanted = wanted untaken; others = all_taken none }))

      go : Decided (HasTaken H replica index) → (have : ℕ) × Have H replica answer.pieces have → Comes
      go (inl taken) (have, counts) = (Again have, IsTaken taken counts)
      go (inr untaken) (have, counts) =
          last untaken have counts (some_or_none IsLeft answer.pieces left_decided)
