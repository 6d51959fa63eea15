-- What a member holds of an answer, after each event.
use Rattle.std.proofs.Common.{◌≡◌, ◌≢◌, ℕ, ◌<◌, Bool, true, false, List, [], ◌∷◌, ◌++◌, length, Option, Some, None, refl, sym, ap, subst, ◌∙◌, inl, inr, ◌⊎◌, append_assoc, arith}
use Rattle.std.specs.Prelude.{if◌then◌else◌, IsSome, MatchBool}
use Rattle.std.proofs.lemmas.Bool.{cases_eq, false≢true}
use Rattle.std.proofs.lemmas.List.{append-nil, length_push}
use Rattle.ficus_model.specs.declared.event.Event.{Event}
use Rattle.ficus_model.specs.declared.event.Event.TheVariants.{Update, Serve, Take}
use Rattle.ficus_model.specs.Events.{IsAt, actor, raised, traits}
use Rattle.ficus_model.specs.Lawful.{Volume, AreTakenOfState, ClosesAsk, HasTaken, IsOfState, IsOpenAsk, IsWantedPiece, MayAccept}
use Rattle.ficus_laws.proofs.Positions.{at_cases, at_end, at_more, at_within}
use Rattle.ficus_replica.specs.SavedOf.{IsSavedOf}
use Rattle.ficus_replica.proofs.Events.{closed_by_own}
use Rattle.ficus_replica.proofs.OpenAsks.{through_more}
use Rattle.ficus_wire.specs.Parts.{HasPart, HeldParts, RisesFrom, part_at, with_part}
use Rattle.ficus_wire.proofs.Holding.{one_more_part, part_elsewhere, part_here}
use Rattle.ficus_wire.proofs.Rising.{still_rises}
use Rattle.ficus_world.specs.Moves.{parts_after}
use Rattle.ficus_world.specs.World.{AreOthers, IsPieceOfServe, PartsStandFor}

-- an event that neither takes a piece for the replica nor ends its ask
pub record LeavesTaken (r : ℕ) (event : Event) : Type 0 where
  pub takes_none : (serve piece : ℕ) → event ≡ Take r serve piece → ⊥
  pub stays : ClosesAsk r event → ⊥

-- what others do leaves it
pub others_leave_taken : (r : ℕ) (event : Event) → actor event ≢ r → LeavesTaken r event
others_leave_taken r event other = record {
  takes_none = λ serve piece is. other (ap actor is);
  stays = λ closes. other (closed_by_own r event closes);
}

-- and so does its own Serve
pub serve_leaves : (r by ask state pieces : ℕ) → LeavesTaken r (Serve by ask state pieces)
serve_leaves r by ask state pieces = record { takes_none = λ serve piece is. cc; stays = λ closes. closes }

module _ (H : List Event) (event : Event) (r : ℕ) where
  -- what was taken stays so while the ask is open
  pub taken_kept : {piece : ℕ} → (ClosesAsk r event → ⊥) → HasTaken H r piece → HasTaken (H ++ event ∷ []) r piece
  taken_kept {piece} stays taken = record {
    position = taken.position;
    serve = taken.serve;
    taken = at_more (event ∷ []) taken.taken;
    latest = λ later found behind at closes. go later found behind (at_cases event at) closes;
  }
    where
      go : (later : ℕ) (found : Event) → taken.position < later
          → IsAt H later found ⊎ ((later ≡ length H) × (found ≡ event)) → ClosesAsk r found → ⊥
      go later found behind (inl was) closes = taken.latest later found behind was closes
      go later found behind (inr (end, is)) closes = stays (subst (ClosesAsk r) is closes)

  -- what is taken was taken before, or it is by this event
  pub taken_cases : {piece : ℕ} → (taken : HasTaken (H ++ event ∷ []) r piece)
      → HasTaken H r piece ⊎ (event ≡ Take r taken.serve piece)
  taken_cases {piece} taken = go (at_cases event taken.taken)
    where
      go : IsAt H taken.position (Take r taken.serve piece)
          ⊎ ((taken.position ≡ length H) × (Take r taken.serve piece ≡ event))
          → HasTaken H r piece ⊎ (event ≡ Take r taken.serve piece)
      go (inl was) = inl (record {
        position = taken.position;
        serve = taken.serve;
        taken = was;
        latest = λ later found behind at closes. taken.latest later found behind (at_more (event ∷ []) at) closes;
      })
      go (inr (end, is)) = inr (sym is)

  pub taken_before : {piece : ℕ} → LeavesTaken r event → HasTaken (H ++ event ∷ []) r piece → HasTaken H r piece
  taken_before {piece} leaves taken = go (taken_cases taken)
    where
      go : HasTaken H r piece ⊎ (event ≡ Take r taken.serve piece) → HasTaken H r piece
      go (inl was) = was
      go (inr is) = absurd (leaves.takes_none taken.serve piece is)

  -- once the ask has ended, nothing is taken
  pub none_taken : {piece : ℕ} → ClosesAsk r event → HasTaken (H ++ event ∷ []) r piece → ⊥
  none_taken {piece} closes taken = go (at_cases event taken.taken)
    where
      go : IsAt H taken.position (Take r taken.serve piece)
          ⊎ ((taken.position ≡ length H) × (Take r taken.serve piece ≡ event)) → ⊥
      go (inl was) = taken.latest (length H) event (at_within was) (at_end H event) closes
      go (inr (end, is)) = subst (ClosesAsk r) (sym is) closes

  module _ (volume : Volume) where
    -- a piece stays what it is
    pub piece_later : {serve index state pieces : ℕ} {bytes : List ℕ}
        → IsPieceOfServe volume H serve index state pieces bytes
        → IsPieceOfServe volume (H ++ event ∷ []) serve index state pieces bytes
    piece_later {serve} is = record {
      server = is.server;
      ask = is.ask;
      served = at_more (event ∷ []) is.served;
      saved = is.saved;
      is =
          subst (λ K. IsSavedOf volume K is.server is.saved) (through_more H event serve (at_within is.served)) is.is;
      piece = is.piece;
    }

    -- what is held stays so where the event leaves what is taken
    pub parts_left : LeavesTaken r event → (parts : Option HeldParts) → PartsStandFor volume H r parts
        → PartsStandFor volume (H ++ event ∷ []) r parts
    unfolding taken_kept
    parts_left leaves None none = λ index taken. none index (taken_before leaves taken)
    parts_left leaves (Some parts) are = record {
      rising = are.rising;
      some = are.some;
      taken = λ index taken. are.taken index (taken_before leaves taken);
      each = λ index bytes at.
          let found = are.each index bytes at in (taken_kept leaves.stays found.0, piece_later found.1);
    }

    -- nothing is held where the event ends the ask
    pub parts_ended : ClosesAsk r event → PartsStandFor volume (H ++ event ∷ []) r None
    parts_ended closes = λ index taken. none_taken closes taken

-- What a replica wants, and may accept, stays so while others act.
module _ (H : List Event) (event : Event) (r : ℕ) (other : actor event ≢ r) where
  stays_open : ClosesAsk r event → ⊥
  stays_open closes = other (closed_by_own r event closes)

  open_later : {ask to : ℕ} → IsOpenAsk H ask r to → IsOpenAsk (H ++ event ∷ []) ask r to
  open_later {ask} open_ask = record {
    ask = at_more (event ∷ []) open_ask.ask;
    latest = λ later found behind at closes. go later found behind (at_cases event at) closes;
  }
    where
      go : (later : ℕ) (found : Event) → ask < later → IsAt H later found ⊎ ((later ≡ length H) × (found ≡ event))
          → ClosesAsk r found → ⊥
      go later found behind (inl was) closes = open_ask.latest later found behind was closes
      go later found behind (inr (end, is)) closes = stays_open (subst (ClosesAsk r) is closes)

  of_state_later : {ask state : ℕ} → AreTakenOfState H r ask state → AreTakenOfState (H ++ event ∷ []) r ask state
  of_state_later {ask} {state} of_state position serve piece behind at = go (at_cases event at)
    where
      go : IsAt H position (Take r serve piece) ⊎ ((position ≡ length H) × (Take r serve piece ≡ event))
          → IsOfState (H ++ event ∷ []) serve state
      go (inl was) =
          let found = of_state position serve piece behind was in
          record {
            server = found.server;
            ask = found.ask;
            pieces = found.pieces;
            served = at_more (event ∷ []) found.served;
          }
      go (inr (end, is)) = absurd (other (sym (ap actor is)))

  abbrev wanted_later : {serve piece : ℕ} → IsWantedPiece H r serve piece
      → IsWantedPiece (H ++ event ∷ []) r serve piece
  wanted_later wanted = record {
    answer = record {
      server = wanted.answer.server;
      ask = wanted.answer.ask;
      state = wanted.answer.state;
      pieces = wanted.answer.pieces;
      served = at_more (event ∷ []) wanted.answer.served;
      open_ask = open_later wanted.answer.open_ask;
    };
    below = wanted.below;
    untaken = λ taken. wanted.untaken (taken_before H event r (others_leave_taken r event other) taken);
    of_state = of_state_later wanted.of_state;
  }

  accept_later : {volume : Volume} {serve piece : ℕ} → MayAccept volume H r serve piece
      → MayAccept volume (H ++ event ∷ []) r serve piece
  accept_later may = record {
    member = may.member;
    wanted = wanted_later may.wanted;
    others = λ index below differs. taken_kept H event r stays_open (may.others index below differs);
  }

pub accept_long : (volume : Volume) (H : List Event) (r serve piece : ℕ) (later : List Event) → AreOthers r later
    → MayAccept volume H r serve piece → MayAccept volume (H ++ later) r serve piece
accept_long volume H r serve piece [] others may =
    subst (λ K. MayAccept volume K r serve piece) (sym (append-nil H)) may
accept_long volume H r serve piece (event ∷ later) others may =
    subst (λ K. MayAccept volume K r serve piece) (append_assoc H (event ∷ []) later)
    (accept_long volume (H ++ event ∷ []) r serve piece later others.1 (accept_later H event r others.0 may))

-- an event that is saved is no Serve
pub saved_serves_none : (event : Event) → (traits event).saves ≡ true → (traits event).serves ≡ None
saved_serves_none (Serve by ask state pieces) saves = absurd (cc)
saved_serves_none event saves = refl

-- and no Take, so that it leaves what is taken where it doesn't end the ask
saved_leaves : (r : ℕ) (event : Event) → (traits event).saves ≡ true → (traits event).closes ≡ false
    → LeavesTaken r event
saved_leaves r event saves closes = record {
  takes_none = λ serve piece is. false≢true (sym (ap (λ (e : Event). (traits e).saves) is) ∙ saves);
  stays = λ ends. subst (λ b. MatchBool b (actor event ≡ r) ⊥) closes ends;
}

-- whether an event ends the ask doesn't depend on the position that it names
raised_closes : (raise : ℕ) (event : Event) → (traits (raised raise event)).closes ≡ (traits event).closes
raised_closes raise (Update by op) = refl
raised_closes raise event = refl

-- after an event of its own that is saved, a member holds nothing, where that has ended the ask, or what it held
module _ (volume : Volume) (H : List Event) (raise r : ℕ) (parts : Option HeldParts) (are : PartsStandFor volume H r parts)
  where
    saved_parts : (event : Event) → actor event ≡ r → (traits event).saves ≡ true → (closes : Bool)
        → (traits event).closes ≡ closes
        → PartsStandFor volume (H ++ event ∷ []) r (if closes then None else parts)
    saved_parts event own saves true closes =
        parts_ended H event r volume (subst (λ b. MatchBool b (actor event ≡ r) ⊥) (sym closes) own)
    saved_parts event own saves false closes =
        parts_left H event r volume (saved_leaves r event saves closes) parts are

    pub parts_after_saved : (stored event : Event) → raised raise stored ≡ event → actor event ≡ r
        → (traits event).saves ≡ true → PartsStandFor volume (H ++ event ∷ []) r (parts_after stored parts)
    parts_after_saved stored event raises own saves =
        saved_parts event own saves (traits stored).closes
        (ap (λ (e : Event). (traits e).closes) (sym raises) ∙ raised_closes raise stored)

-- with one piece more, that one is held, and those before
module _ (held : HeldParts) (index : ℕ) (bytes : List ℕ) (other : ℕ) where
  pub with_it : other ≡ index → HasPart (with_part held index bytes) other
  with_it same =
      subst (HasPart (with_part held index bytes)) (sym same) (subst IsSome (sym (part_here held index bytes)) refl)

  pub still_has : HasPart held other → HasPart (with_part held index bytes) other
  still_has has = pick (cases_eq other index)
    where
      pick : (other ≡ index) ⊎ (other ≢ index) → HasPart (with_part held index bytes) other
      pick (inl same) = with_it same
      pick (inr differs) = subst IsSome (sym (part_elsewhere held index bytes other differs)) has

-- a piece more is held once it is taken
module _ (volume : Volume) (H : List Event) (r serve index : ℕ) (held : HeldParts) (bytes : List ℕ)
    (rising : RisesFrom 0 held.pieces held.have) (below : index < held.pieces) (lacks : HasPart held index → ⊥)
    (taken : (other : ℕ) → HasTaken H r other → HasPart held other)
    (each : (other : ℕ) (part : List ℕ) → part_at held other ≡ Some part
    → (has : HasTaken H r other) × IsPieceOfServe volume H has.serve other held.state held.pieces part)
    (is : IsPieceOfServe volume H serve index held.state held.pieces bytes) where
  abbrev after : List Event
  after = H ++ Take r serve index ∷ []

  abbrev more : HeldParts
  more = with_part held index bytes

  has_taken : HasTaken after r index
  has_taken = record {
    position = length H;
    serve = serve;
    taken = at_end H (Take r serve index);
    latest = λ later found behind at closes. omega (arith, at_within at, length_push H (Take r serve index), behind);
  }

  has_more : (other : ℕ) → (other ≡ index) ⊎ HasPart held other → HasPart more other
  has_more other (inl same) = with_it held index bytes other same
  has_more other (inr has) = still_has held index bytes other has

  taken_more : (other : ℕ) → HasTaken after r other → HasPart more other
  taken_more other has = go (taken_cases H (Take r serve index) r has)
    where
      go : HasTaken H r other ⊎ (Take r serve index ≡ Take r has.serve other) → HasPart more other
      go (inl was) = has_more other (inr (taken other was))
      go (inr same) = has_more other (inl (cc))

  each_more : (other : ℕ) (part : List ℕ) → part_at more other ≡ Some part
      → (has : HasTaken after r other) × IsPieceOfServe volume after has.serve other held.state held.pieces part
  unfolding taken_kept has_taken
  each_more other part at = go (cases_eq other index)
    where
      kept : other ≢ index
          → (has : HasTaken after r other) × IsPieceOfServe volume after has.serve other held.state held.pieces part
      kept differs =
          let found = each other part (sym (part_elsewhere held index bytes other differs) ∙ at) in (
            taken_kept H (Take r serve index) r (λ closes. closes) found.0,
            piece_later H (Take r serve index) r volume found.1,
          )

      new : other ≡ index
          → (has : HasTaken after r other) × IsPieceOfServe volume after has.serve other held.state held.pieces part
      new same =
          let here : part_at more index ≡ Some part = subst (λ n. part_at more n ≡ Some part) same at in
          let bytes_are : bytes ≡ part = let both = sym (part_here held index bytes) ∙ here in cc in
          subst (λ n. (has : HasTaken after r n) × IsPieceOfServe volume after has.serve n held.state held.pieces part)
          (sym same) (
            has_taken,
            subst (IsPieceOfServe volume after serve index held.state held.pieces) bytes_are
                (piece_later H (Take r serve index) r volume is),
          )

      go : (other ≡ index) ⊎ (other ≢ index)
          → (has : HasTaken after r other) × IsPieceOfServe volume after has.serve other held.state held.pieces part
      go (inl same) = new same
      go (inr differs) = kept differs

  pub parts_more : PartsStandFor volume after r (Some more)
  parts_more = record {
    rising = still_rises index bytes 0 held.pieces held.have (omega arith) below rising;
    some = omega (arith, one_more_part held index bytes lacks);
    taken = taken_more;
    each = each_more;
  }
