-- The pieces that a replica has taken are all of one state of one server.
use Rattle.std.proofs.Common.{◌≡◌, ◌⊎◌, ℕ, ◌<◌, List, refl, sym, ap, ◌∙◌, subst, inl, inr}
use Rattle.std.proofs.lemmas.Bool.{cases_order}
use Rattle.ficus_model.specs.declared.event.Event.{Event}
use Rattle.ficus_model.specs.declared.event.Event.TheVariants.{Ask, Serve, Take}
use Rattle.ficus_model.specs.Events.{IsAt, before, through, is_saved, generation_of}
use Rattle.ficus_model.specs.Lawful.{Volume, IsLawful, IsOpenAsk, AnswersOpenAsk, HasTaken, IsWantedPiece}
use Rattle.ficus_durable_state.specs.declared.saved.Saved.{Saved}
use Rattle.ficus_laws.proofs.Counts.{counted_none}
use Rattle.ficus_laws.proofs.Positions.{at_same, at_before, at_from_before, through_is}
use Rattle.ficus_laws.proofs.OpenAsk.{open_once}
use Rattle.ficus_replica.specs.SavedOf.{IsSavedOf}
use Rattle.ficus_runs.proofs.pieces.Saving.{saved_same}

-- a Serve has the generation of its server in its state
pub served_generation : {volume : Volume} {H : List Event} {serve server ask state pieces : ℕ} → IsLawful volume H →
    IsAt H serve (Serve server ask state pieces) → generation_of server (through serve H) ≡ state
served_generation {volume} {H} {serve} {server} {ask} {state} {pieces} lawful at =
    ap (generation_of server) (through_is at)
    ∙ counted_none (is_saved server) (before serve H) (Serve server ask state pieces) refl
    ∙ sym (lawful.each serve (Serve server ask state pieces) at).generation

-- servings of one ask with one state have the same number of pieces
pub one_count : {volume : Volume} {H : List Event} {serve again server ask state pieces other : ℕ} → IsLawful volume H →
    IsAt H serve (Serve server ask state pieces) → IsAt H again (Serve server ask state other) → other ≡ pieces
one_count {volume} {H} {serve} {again} {server} {ask} {state} {pieces} {other} lawful a b = go (cases_order serve again)
  where
    go : (serve ≡ again) ⊎ ((serve < again) ⊎ (again < serve)) → other ≡ pieces
    go (inl h) = let e : Serve server ask state other ≡ Serve server ask state pieces = at_same b (rw (← h) a) in cc
    go (inr (inl h)) = sym ((lawful.each again (Serve server ask state other) b).alike serve pieces (at_before h a))
    go (inr (inr h)) = (lawful.each serve (Serve server ask state pieces) a).alike again other (at_before h b)

-- What is taken since the open ask that is answered at this position.
module _ (volume : Volume) (H : List Event) (r serve : ℕ) (lawful : IsLawful volume H) where
  module _ (answer : AnswersOpenAsk H serve r) {index : ℕ} (taken : HasTaken H r index) where
    -- it is taken after the ask, since the ask would have closed what was taken before
    after_ask : answer.ask < taken.position
    after_ask = go (cases_order answer.ask taken.position)
      where
        go : (answer.ask ≡ taken.position) ⊎ ((answer.ask < taken.position) ⊎ (taken.position < answer.ask)) →
            answer.ask < taken.position
        go (inl h) =
            let e : Ask r answer.server ≡ Take r taken.serve index =
            at_same answer.open_ask.ask (rw h taken.taken) in
            cc
        go (inr (inl h)) = h
        go (inr (inr h)) = absurd (taken.latest answer.ask (Ask r answer.server) h answer.open_ask.ask refl)

    open_then : IsOpenAsk (before taken.position H) answer.ask r answer.server
    open_then = record {
      ask = at_before after_ask answer.open_ask.ask;
      latest = λ later event h a closes.
          answer.open_ask.latest later event h (at_from_before taken.position a).1 closes;
    }

    abbrev was : IsWantedPiece (before taken.position H) r taken.serve index
    was = (lawful.each taken.position (Take r taken.serve index) taken.taken).wanted

    -- so it is of the same server's answer to the same ask
    pub taken_served : IsAt H taken.serve (Serve answer.server answer.ask was.answer.state was.answer.pieces)
    taken_served =
        let once = open_once was.answer.open_ask open_then in
        let served : IsAt H taken.serve (Serve was.answer.server was.answer.ask was.answer.state was.answer.pieces) =
        (at_from_before taken.position was.answer.served).1 in
        subst (λ x. IsAt H taken.serve (Serve answer.server x was.answer.state was.answer.pieces)) once.0
        (subst (λ x. IsAt H taken.serve (Serve x was.answer.ask was.answer.state was.answer.pieces)) once.1 served)

    pub taken_answers : AnswersOpenAsk H taken.serve r
    taken_answers = record {
      server = answer.server;
      ask = answer.ask;
      state = was.answer.state;
      pieces = was.answer.pieces;
      served = taken_served;
      open_ask = answer.open_ask;
    }

  module _ (piece : ℕ) (wanted : IsWantedPiece H r serve piece) {index : ℕ} (taken : HasTaken H r index) where
    abbrev answer : AnswersOpenAsk H serve r
    answer = wanted.answer

    -- where a piece is wanted, it is of the same state and number of pieces
    pub taken_alike : IsAt H taken.serve (Serve answer.server answer.ask answer.state answer.pieces)
    taken_alike =
        let mine = (lawful.each taken.position (Take r taken.serve index) taken.taken).wanted.answer in
        let served : IsAt H taken.serve (Serve answer.server answer.ask mine.state mine.pieces) =
        taken_served answer taken in
        let of_state = wanted.of_state taken.position taken.serve index (after_ask answer taken) taken.taken in
        let e : Serve answer.server answer.ask mine.state mine.pieces ≡
        Serve of_state.server of_state.ask answer.state of_state.pieces = at_same served of_state.served in
        let state : mine.state ≡ answer.state = cc in
        let same : IsAt H taken.serve (Serve answer.server answer.ask answer.state mine.pieces) =
        subst (λ x. IsAt H taken.serve (Serve answer.server answer.ask x mine.pieces)) state served in
        subst (λ x. IsAt H taken.serve (Serve answer.server answer.ask answer.state x))
        (one_count lawful answer.served same) same

    -- so its tables are those of the Serve whose piece is wanted
    pub taken_tables : {saved again : Saved} → IsSavedOf volume (through serve H) answer.server saved →
        IsSavedOf volume (through taken.serve H) answer.server again → again ≡ saved
    taken_tables is is_too =
        saved_same H taken.serve serve
        (served_generation lawful taken_alike ∙ sym (served_generation lawful answer.served)) is_too is
