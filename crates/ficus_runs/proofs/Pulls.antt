-- What is served in a pull is taken, piece by piece: a pull is refused only as asking, serving and saving are.
use Rattle.std.proofs.Common.{◌≡◌, ◌≢◌, ℕ, zero, suc, ◌+◌, ◌-◌, ◌<◌, ◌≤◌, Bool, true, false, if◌then◌else◌, List, [], ◌∷◌, ◌++◌, length, map, Result, Ok, Err, refl, sym, ap, subst, ◌∙◌, inl, inr, ◌⊎◌, arith}
use Rattle.std.specs.List.{range_with_len}
use Rattle.std.proofs.lemmas.Bool.{cases_eq, ne_eqb}
use Rattle.std.proofs.lemmas.List.{length-map, length_push}
use Rattle.std.proofs.lemmas.List.FromFn.{length-range_with_len}
use Rattle.ficus_ids.specs.declared.refusal.Refusal.{Refusal}
use Rattle.ficus_model.specs.declared.event.Event.{Event}
use Rattle.ficus_model.specs.declared.event.Event.TheVariants as event
use Rattle.ficus_model.specs.Events.{IsAt}
use Rattle.ficus_model.specs.Lawful.{Volume, MayCome, AnswersOpenAsk, ClosesAsk, HasTaken, IsOfState, IsOpenAsk}
use Rattle.ficus_laws.proofs.OpenAsk.{open_end, open_kept}
use Rattle.ficus_laws.proofs.Positions.{at_cases, at_end, at_more, at_same, at_within}
use Rattle.ficus_rules.specs.Rule.{Gives}
use Rattle.ficus_script.specs.declared.answer.Answer.{Answer}
use Rattle.ficus_script.specs.declared.answer.Answer.TheVariants.{Done, Mail, Mails}
use Rattle.ficus_script.specs.declared.command.Command.TheVariants as command
use Rattle.ficus_runs.specs.Actions.{ModelAction, Adds, GivesOnly, Posts, next_mail, next_position, with_event, with_post}
use Rattle.ficus_runs.specs.Actions.Adds.{Added}
use Rattle.ficus_runs.specs.Actions.Saves.{Saved, NotSaved}
use Rattle.ficus_runs.specs.Actions.Posts.{IsPosted}
use Rattle.ficus_runs.specs.Actions.Fetches.{Fetched, NotFetched}
use Rattle.ficus_runs.specs.Exchange.{Asks, Behind, AnAsk, APiece, ComesToTaking, GivesEach, GivesMail, Handles, IsOneState, IsServedNow, LiesBehind, PostsEach, Served, Serves, Taken, Taking, Again, OneMore, TakesPiece, TheLast, behind, mailed, mails_of, size_of}
use Rattle.ficus_runs.specs.Exchange.ComesToTaking.{IsTaken, IsMissing, Completes}
use Rattle.ficus_runs.specs.Exchange.LiesBehind.{IsAsk, IsPiece}
use Rattle.ficus_runs.specs.ModelWorld.{ModelWorld, Posted}
use Rattle.ficus_runs.specs.Numbered.{IsNumbered}
use Rattle.ficus_runs.specs.Run.{Does}
use Rattle.ficus_runs.specs.Sequence.{ByRule, First, Effect}
use Rattle.ficus_runs.specs.Sequence.First.{Ends, Goes}
use Rattle.ficus_runs.specs.Sequence.ByRule.{Says}
use Rattle.ficus_runs.proofs.Never.{of_asking, of_taking, also_asking, at_peers_never, asks_never, serves_never}
use Rattle.ficus_runs.proofs.Numbers.{number_end, number_more}
use Rattle.ficus_runs.proofs.Rules.{behind_once}
use Rattle.ficus_runs.proofs.Serving.{some_messages}
use Rattle.ficus_runs.proofs.Taking.{taken_behind}

-- messages with these numbers were posted, with the pieces of what was served at a position behind them, from an index on
abbrev pub ArePosted : ModelWorld → ℕ → ℕ → List ℕ → Type 0
ArePosted W serve index [] = Unit {0}
ArePosted W serve index (number ∷ numbers) =
    IsNumbered W.posted number (behind serve index) × ArePosted W serve (index + 1) numbers

-- Of the answer at a position the first pieces are taken, and the messages with these numbers bring all others.
pub record IsTaking (W : ModelWorld) (serve asker next : ℕ) (numbers : List ℕ) : Type 0 where
  pub answer : AnswersOpenAsk W.events serve asker
  pub first : (piece : ℕ) → HasTaken W.events asker piece → piece < next
  pub all : (piece : ℕ) → piece < next → HasTaken W.events asker piece
  pub alone : (position of piece : ℕ) → answer.ask < position → IsAt W.events position (event.Take asker of piece)
      → of ≡ serve
  pub rest : next + length numbers ≡ answer.pieces
  pub posted : ArePosted W serve next numbers

-- what is posted stays posted as events come
posted_later : (W : ModelWorld) (event : Event) (serve index : ℕ) (numbers : List ℕ)
    → ArePosted W serve index numbers → ArePosted (with_event W event) serve index numbers
posted_later W event serve index [] posted = tt
posted_later W event serve index (number ∷ numbers) posted =
    (posted.0, posted_later W event serve (index + 1) numbers posted.1)

module _ (W : ModelWorld) (serve asker next number : ℕ) (numbers : List ℕ)
    (is : IsTaking W serve asker next (number ∷ numbers)) where
  -- those taken are of its state
  one_state : IsOneState W.events asker serve
  one_state state piece of taken =
      subst (λ n. IsOfState W.events n state)
      (sym (is.alone taken.position taken.serve piece (taken_behind is.answer taken) taken.taken)) of

  -- once the next piece is taken too, the same holds of the others
  abbrev taken_one : ModelWorld
  taken_one = with_event W (event.Take asker serve next)

  answer_later : AnswersOpenAsk taken_one.events serve asker
  answer_later = record {
    server = is.answer.server;
    ask = is.answer.ask;
    state = is.answer.state;
    pieces = is.answer.pieces;
    served = at_more (event.Take asker serve next ∷ []) is.answer.served;
    open_ask = open_kept (event.Take asker serve next) (λ closes. closes) is.answer.open_ask;
  }

  first_later : (piece : ℕ) → HasTaken taken_one.events asker piece → piece < next + 1
  first_later piece taken = go (at_cases (event.Take asker serve next) taken.taken)
    where
      go : IsAt W.events taken.position (event.Take asker taken.serve piece)
          ⊎ ((taken.position ≡ length W.events) × (event.Take asker taken.serve piece ≡ event.Take asker serve next))
          → piece < next + 1
      go (inl was) =
          let before = is.first piece (record {
            position = taken.position;
            serve = taken.serve;
            taken = was;
            latest = λ later found after at closes.
                taken.latest later found after (at_more (event.Take asker serve next ∷ []) at) closes;
          }) in
          omega (arith, before)
      go (inr (end, same)) = let pieces : piece ≡ next = cc in omega (arith, pieces)

  all_later : (piece : ℕ) → piece < next + 1 → HasTaken taken_one.events asker piece
  all_later piece below = go (cases_eq piece next)
    where
      kept : HasTaken W.events asker piece → HasTaken taken_one.events asker piece
      kept taken = record {
        position = taken.position;
        serve = taken.serve;
        taken = at_more (event.Take asker serve next ∷ []) taken.taken;
        latest = λ later found after at closes. still later found after closes (at_cases (event.Take asker serve next) at);
      }
        where
          still : (later : ℕ) (found : Event) → taken.position < later → ClosesAsk asker found
              → IsAt W.events later found ⊎ ((later ≡ length W.events) × (found ≡ event.Take asker serve next)) → ⊥
          still later found after closes (inl was) = taken.latest later found after was closes
          still later found after closes (inr (end, same)) = subst (ClosesAsk asker) same closes

      go : (piece ≡ next) ⊎ (piece ≢ next) → HasTaken taken_one.events asker piece
      go (inl same) =
          subst (HasTaken taken_one.events asker) (sym same)
          (record {
            position = length W.events;
            serve = serve;
            taken = at_end W.events (event.Take asker serve next);
            latest = λ later found after at closes.
                omega (arith, after, at_within at, length_push W.events (event.Take asker serve next));
          })
      go (inr differs) = kept (is.all piece (omega (arith, below, differs)))

  alone_later : (position of piece : ℕ) → is.answer.ask < position
      → IsAt taken_one.events position (event.Take asker of piece) → of ≡ serve
  alone_later position of piece after at = go (at_cases (event.Take asker serve next) at)
    where
      go : IsAt W.events position (event.Take asker of piece)
          ⊎ ((position ≡ length W.events) × (event.Take asker of piece ≡ event.Take asker serve next)) → of ≡ serve
      go (inl was) = is.alone position of piece after was
      go (inr (end, same)) = cc

  taking_later : IsTaking taken_one serve asker (next + 1) numbers
  unfolding answer_later
  taking_later = record {
    answer = answer_later;
    first = first_later;
    all = all_later;
    alone = alone_later;
    rest = omega (arith, is.rest);
    posted = posted_later W (event.Take asker serve next) serve (next + 1) numbers is.posted.1;
  }

  module _ (volume : Volume) where
    -- taking the next piece ends only where its save fails
    taking_ends : (taking : Taking) (r : Refusal) (left : Effect ModelWorld)
        → Taken asker serve next is.answer.pieces taking W (Err r) left → of_taking r ≡ true
    taking_ends (Again have) r left (Says none) = absurd none
    taking_ends (OneMore have) r left none = elim none [ ]
    taking_ends TheLast r left NotSaved = refl

    piece_ends : (r : Refusal) (left : Effect ModelWorld)
        → TakesPiece volume serve asker next is.answer.pieces W (Err r) left → of_taking r ≡ true
    piece_ends r left (Ends (Says (inl stale))) = absurd (stale.0 is.answer)
    piece_ends r left (Ends (Says (inr none))) = absurd none.1
    piece_ends r left (Goes (Says answers) (Ends (Says (inl mixed)))) = absurd (mixed.0 one_state)
    piece_ends r left (Goes (Says answers) (Ends (Says (inr none)))) = absurd none.1
    piece_ends r left (Goes (Says answers) (Goes (Says one) (Ends (Says none)))) = absurd none
    piece_ends r left (Goes (Says answers) (Goes (Says one) (Goes {a = taking} (Says comes) (taken)))) =
        taking_ends taking r _ taken

    -- and otherwise the others are taken next, or it was the last
    pub record GoesFurther (V : ModelWorld) : Type 0 where
      pub taking : IsTaking V serve asker (next + 1) numbers
      pub events : V.events ≡ W.events ++ event.Take asker serve next ∷ []
      pub some : length numbers ≢ 0

    pub record GoesNoFurther (given : Answer) (V : ModelWorld) : Type 0 where
      pub none : length numbers ≡ 0
      pub done : given ≡ Done
      pub events : V.events ≡ W.events ++ event.Accept asker serve next ∷ []

    abbrev pub GoesOn : Answer → ModelWorld → Type 0
    GoesOn given V = GoesFurther V ⊎ GoesNoFurther given V

    as_many : (answer : AnswersOpenAsk W.events serve asker) → answer.pieces ≡ is.answer.pieces
    as_many answer = let same = at_same answer.served is.answer.served in cc

    one_left : MayCome volume W.events (event.Take asker serve next) → length numbers ≢ 0
    one_left may none =
        may.missing (is.all may.other
        (omega (arith, may.other_below, may.differs, as_many may.wanted.answer, is.rest, none)))

    none_left : MayCome volume W.events (event.Accept asker serve next) → length numbers ≡ 0
    none_left may = go (cases_eq (length numbers) 0)
      where
        go : (length numbers ≡ 0) ⊎ (length numbers ≢ 0) → length numbers ≡ 0
        go (inl none) = none
        go (inr some) =
            let other = is.first (next + 1)
            (may.others (next + 1) (omega (arith, as_many may.wanted.answer, is.rest, some)) (omega arith)) in
            absurd (omega (arith, other))

    taking_goes : (taking : Taking) (given : Answer) (left : Effect ModelWorld)
        → ComesToTaking volume W.events asker serve next is.answer.pieces taking
        → Taken asker serve next is.answer.pieces taking W (Ok given) left → GoesOn given left.after
    taking_goes (Again have) given left (IsTaken taken counts) does = absurd (omega (arith, is.first next taken))
    taking_goes (OneMore have) given left (IsMissing may counts) Added =
        inl (record { taking = taking_later; events = refl; some = one_left may })
    taking_goes TheLast given left (Completes may) Saved =
        inr (record { none = none_left may; done = refl; events = refl })

    piece_goes : (given : Answer) (left : Effect ModelWorld)
        → TakesPiece volume serve asker next is.answer.pieces W (Ok given) left → GoesOn given left.after
    piece_goes given left (Goes (Says answers) (Goes (Says one) (Goes {a = taking} {left = l} (Says comes) taken))) =
        taking_goes taking given l
        (subst (ComesToTaking volume W.events asker serve next is.answer.pieces) (sym comes.2) comes.1) taken

    -- the piece lies behind its message
    abbrev the_piece : Behind
    the_piece = APiece serve asker next is.answer.pieces

    piece_behind : (found : Behind) → LiesBehind W number found → found ≡ the_piece
    piece_behind found lies =
        behind_once W number found the_piece lies
        (IsPiece is.posted.0 is.answer.served is.answer.open_ask.ask)

    handled : (found : Behind) (result : Result Answer Refusal) (left : Effect ModelWorld) → LiesBehind W number found
        → Handles volume found W result left → TakesPiece volume serve asker next is.answer.pieces W result left
    handled found result left lies handles =
        subst (λ b. Handles volume b W result left) (piece_behind found lies) handles

    mail_ends : (r : Refusal) (left : Effect ModelWorld) → GivesMail volume number W (Err r) left
        → of_taking r ≡ true
    mail_ends r left (Ends (Says (inl none))) = absurd (none.0 is.posted.0.member)
    mail_ends r left (Ends (Says (inr none))) = absurd none.1
    mail_ends r left (Goes (Says some) (Ends NotFetched)) = refl
    mail_ends r left (Goes (Says some) (Goes Fetched (Ends (Says none)))) = absurd none
    mail_ends r left (Goes (Says some) (Goes Fetched (Goes (Says found) (Ends (Says (inl down)))))) =
        ap of_taking down.1
    mail_ends r left (Goes (Says some) (Goes Fetched (Goes (Says found) (Ends (Says (inr none)))))) = absurd none.1
    mail_ends r left
        (Goes (Says some) (Goes Fetched (Goes {a = it} (Says found) (Goes {left = l} (Says up) handles)))) =
        piece_ends r l (handled it (Err r) l (subst (LiesBehind W number) (sym found.2) found.1) handles)

    pub mail_goes : (given : Answer) (left : Effect ModelWorld) → GivesMail volume number W (Ok given) left
        → GoesOn given left.after
    mail_goes given left
        (Goes (Says some) (Goes Fetched (Goes {a = it} (Says found) (Goes {left = l} (Says up) handles)))) =
        piece_goes given l (handled it (Ok given) l (subst (LiesBehind W number) (sym found.2) found.1) handles)

module _ (volume : Volume) (serve asker : ℕ) where
  nothing_given : (numbers : List ℕ) → length numbers ≡ 0 → (W : ModelWorld) (r : Refusal) (left : Effect ModelWorld)
      → GivesEach volume numbers W (Err r) left → ⊥
  nothing_given [] none W r left (Says refused) = refused
  nothing_given (number ∷ numbers) none W r left gives = omega (arith, none)

  -- the gives of the pieces end only so
  pub gives_end : (numbers : List ℕ) (next : ℕ) (W : ModelWorld) → IsTaking W serve asker next numbers → (r : Refusal)
      (left : Effect ModelWorld) → GivesEach volume numbers W (Err r) left → of_taking r ≡ true
  gives_end [] next W is r left (Says refused) = absurd refused
  gives_end (number ∷ numbers) next W is r left (Ends gives) = mail_ends W serve asker next number numbers is volume r _ gives
  gives_end (number ∷ numbers) next W is r left (Goes {a = given} {middle = m} {left = l} gives rest) =
      elim (mail_goes W serve asker next number numbers is volume given m gives) [
        | inl later ↦ gives_end numbers (next + 1) m.after later.taking r l rest
        | inr last ↦ absurd (nothing_given numbers last.none m.after r l rest)
      ]

-- What the posts of so many pieces leave: the events as they were, and each piece behind its message.
pub record AreSent (W V : ModelWorld) (position index count : ℕ) : Type 0 where
  pub events : V.events ≡ W.events
  pub posted : (k : ℕ) → k < count → IsNumbered V.posted (length W.posted + 1 + k) (behind position (index + k))
  pub kept : (number : ℕ) (posted : Posted) → IsNumbered W.posted number posted → IsNumbered V.posted number posted

module _ (W V : ModelWorld) (position index size count : ℕ)
    (rest : AreSent (with_post W (behind position index) size) V position (index + 1) count) where
  piece_sent : (k : ℕ) → k < suc count → (k ≡ 0) ⊎ (k ≢ 0)
      → IsNumbered V.posted (length W.posted + 1 + k) (behind position (index + k))
  piece_sent k below (inl first) =
      let number : length W.posted + 1 ≡ length W.posted + 1 + k = omega (arith, first) in
      let place : index ≡ index + k = omega (arith, first) in
      subst (λ n. IsNumbered V.posted n (behind position (index + k))) number
      (subst (λ n. IsNumbered V.posted (length W.posted + 1) (behind position n)) place
      (rest.kept (length W.posted + 1) (behind position index) (number_end W.posted (behind position index))))
  piece_sent k below (inr later) =
      let number : length (W.posted ++ behind position index ∷ []) + 1 + (k - 1) ≡ length W.posted + 1 + k =
      omega (arith, later, length_push W.posted (behind position index)) in
      let place : index + 1 + (k - 1) ≡ index + k = omega (arith, later) in
      subst (λ n. IsNumbered V.posted n (behind position (index + k))) number
      (subst (λ n. IsNumbered V.posted (length (W.posted ++ behind position index ∷ []) + 1 + (k - 1))
      (behind position n)) place
      (rest.posted (k - 1) (omega (arith, below, later))))

  one_sent : AreSent W V position index (suc count)
  one_sent = record {
    events = rest.events;
    posted = λ k below. piece_sent k below (cases_eq k 0);
    kept = λ number posted numbered. rest.kept number posted (number_more W.posted (behind position index) numbered);
  }

pub posts_sent : (position index : ℕ) (sizes : List ℕ) (W : ModelWorld) (done : Unit {0}) (left : Effect ModelWorld)
    → PostsEach position index sizes W (Ok done) left → AreSent W left.after position index (length sizes)
posts_sent position index [] W done left (Says is) =
    record { events = refl; posted = λ k below. absurd (omega (arith, below)); kept = λ number posted numbered. numbered }
posts_sent position index (size ∷ sizes) W done left (Goes {left = l} IsPosted next) =
    one_sent W l.after position index size (length sizes)
    (posts_sent position (index + 1) sizes (with_post W (behind position index) size) done l next)

-- as many messages in a row
pub in_a_row : (V : ModelWorld) (serve first count index : ℕ)
    → ((k : ℕ) → k < count → IsNumbered V.posted (first + k) (behind serve (index + k)))
    → ArePosted V serve index (range_with_len first count)
in_a_row V serve first zero index posted = tt
in_a_row V serve first (suc count) index posted = (
  let number : first + 0 ≡ first = omega arith in
      let place : index + 0 ≡ index = omega arith in
      subst (λ n. IsNumbered V.posted n (behind serve index)) number
      (subst (λ n. IsNumbered V.posted (first + 0) (behind serve n)) place (posted 0 (omega arith))),
  in_a_row V serve (first + 1) count (index + 1) (λ k below.
      let number : first + (k + 1) ≡ first + 1 + k = omega arith in
      let place : index + (k + 1) ≡ index + 1 + k = omega arith in
      subst (λ n. IsNumbered V.posted n (behind serve (index + 1 + k))) number
      (subst (λ n. IsNumbered V.posted (first + (k + 1)) (behind serve n)) place (posted (k + 1) (omega (arith, below))))),
)

-- the numbers that the answer to a give of an ask tells of
pub mails_are : (first count : ℕ) → 1 ≤ count → 1 ≤ first → mails_of (mailed first count) ≡ range_with_len first count
mails_are first count some one = go (cases_eq count 1)
  where
    go : (count ≡ 1) ⊎ (count ≢ 1) → mails_of (mailed first count) ≡ range_with_len first count
    go (inl single) = subst (λ n. mails_of (mailed first n) ≡ range_with_len first n) (sym single) refl
    go (inr several) =
        let counted : first + count - 1 + 1 - first ≡ count = omega (arith, some, one) in
        ap (λ (test : Bool). mails_of (if test then Mail first else Mails first (first + count - 1))) (ne_eqb count 1 several)
        ∙ ap (range_with_len first) counted

-- what isn't apart from asking, serving and saving is of it
only_asking : (r : Refusal) → (of_asking r ≡ false → ⊥) → of_asking r ≡ true
only_asking r of = go (of_asking r) of
  where
    go : (asking : Bool) → (asking ≡ false → ⊥) → asking ≡ true
    go true of = refl
    go false of = absurd (of refl)

module _ (volume : Volume) (W : ModelWorld) (by to size : ℕ) where
  -- once the ask is posted
  abbrev pub one : ModelWorld
  one = with_post (with_event W (event.Ask by to)) (behind (length W.events) 0) size

  abbrev ask_behind : Behind
  ask_behind = AnAsk (length W.events) to

  pub the_ask : (found : Behind) → LiesBehind one (length W.posted + 1) found → found ≡ ask_behind
  the_ask found lies =
      behind_once one (length W.posted + 1) found ask_behind lies
      (IsAsk (number_end W.posted (behind (length W.events) 0)) (at_end W.events (event.Ask by to)))

  module _ (served : Served) where
    abbrev pub the_serve : Event
    the_serve = event.Serve to (length W.events) served.state (length served.messages)

    -- once it is served
    abbrev pub two : ModelWorld
    two = with_event one the_serve

    no_take : {position of piece : ℕ} → length W.events < position
        → IsAt two.events position (event.Take by of piece) → ⊥
    no_take {position} {of} {piece} behind at = go (at_cases the_serve at)
      where
        asked : IsAt W.events position (event.Take by of piece)
            ⊎ ((position ≡ length W.events) × (event.Take by of piece ≡ event.Ask by to)) → ⊥
        asked (inl was) = omega (arith, at_within was, behind)
        asked (inr (end, is)) = cc

        go : IsAt one.events position (event.Take by of piece)
            ⊎ ((position ≡ length one.events) × (event.Take by of piece ≡ the_serve)) → ⊥
        go (inl was) = asked (at_cases (event.Ask by to) was)
        go (inr (end, is)) = cc

    module _ (V : ModelWorld) (same : V.events ≡ two.events) where
      abbrev answered : AnswersOpenAsk V.events (length one.events) by
      answered = record {
        server = to;
        ask = length W.events;
        state = served.state;
        pieces = length served.messages;
        served = subst (λ H. IsAt H (length one.events) the_serve) (sym same) (at_end one.events the_serve);
        open_ask = subst (λ H. IsOpenAsk H (length W.events) by to) (sym same)
            (open_kept the_serve (λ closes. closes) (open_end W.events by to));
      }

      -- nothing of the answer is taken, and each piece lies behind its message
      pub begins : (numbers : List ℕ) → length numbers ≡ length served.messages
          → ArePosted V (length one.events) 0 numbers → IsTaking V (length one.events) by 0 numbers
      begins numbers counted posted = record {
        answer = answered;
        first = λ piece taken. absurd (no_take (taken_behind answered taken)
            (subst (λ H. IsAt H taken.position (event.Take by taken.serve piece)) same taken.taken));
        all = λ piece below. absurd (omega (arith, below));
        alone = λ position of piece behind at.
            absurd (no_take behind (subst (λ H. IsAt H position (event.Take by of piece)) same at));
        rest = omega (arith, counted);
        posted = posted;
      }

  -- What a give of the ask leaves where it isn't refused: the Serve of what the server saves, and behind it the messages
  -- that bring its pieces.
  pub record IsServing (given : Answer) (V : ModelWorld) : Type 0 where
    pub served : Served
    pub now : IsServedNow volume one.events to (length W.events) served
    pub counted : length (mails_of given) ≡ length served.messages
    pub events : V.events ≡ (two served).events
    pub taking : IsTaking V (length one.events) by 0 (mails_of given)

  module _ (served : Served) (now : IsServedNow volume one.events to (length W.events) served) where
    numbers_are : (given : Answer) (first : ℕ) → first ≡ next_mail (two served)
        → given ≡ mailed first (length served.messages)
        → mails_of given ≡ range_with_len first (length served.messages)
    numbers_are given first numbered is =
        ap mails_of is
        ∙ mails_are first (length served.messages) (some_messages now)
        (subst (λ n. 1 ≤ n) (sym numbered) (omega arith))

    posted_row : (first : ℕ) → first ≡ next_mail (two served) → (V : ModelWorld)
        → AreSent (two served) V (length one.events) 0 (length (map size_of served.messages))
        → ArePosted V (length one.events) 0 (range_with_len first (length served.messages))
    posted_row first numbered V sent =
        in_a_row V (length one.events) first (length served.messages) 0
        (λ k below. subst (λ n. IsNumbered V.posted (n + k) (behind (length one.events) (0 + k))) (sym numbered)
        (sent.posted k (omega (arith, below, length-map served.messages size_of))))

    serve_begins : (given : Answer) (middle : Effect ModelWorld)
        → First (Adds next_position (the_serve served))
        (λ position. First (ByRule (λ W. Gives (next_mail W)))
        (λ first. First (PostsEach position 0 (map size_of served.messages))
        (λ posted. GivesOnly (mailed first (length served.messages))))) one (Ok given) middle
        → IsServing given middle.after
    serve_begins given middle
        (Goes Added (Goes {a = first} (Says numbered) (Goes {a = done} {middle = m} posts (Says is)))) =
        let numbers = numbers_are given first numbered is in
        let counted = ap length numbers ∙ length-range_with_len first (length served.messages) in
        let sent = posts_sent (length one.events) 0 (map size_of served.messages) (two served) done m posts in
        record {
          served = served;
          now = now;
          counted = counted;
          events = sent.events;
          taking = begins served m.after sent.events (mails_of given) counted
              (subst (ArePosted m.after (length one.events) 0) (sym numbers) (posted_row first numbered m.after sent));
        }

  serves_begin : (given : Answer) (middle : Effect ModelWorld) → Serves volume to (length W.events) one (Ok given) middle
      → IsServing given middle.after
  serves_begin given middle (Goes {a = served} (Says cut) (Goes {left = l} (Says room) serves)) =
      serve_begins served (subst (IsServedNow volume one.events to (length W.events)) (sym cut.2) cut.1) given l serves

  ask_ends : (r : Refusal) (left : Effect ModelWorld) → GivesMail volume (length W.posted + 1) one (Err r) left
      → of_asking r ≡ true
  ask_ends r left (Ends (Says (inl none))) =
      absurd (none.0 (number_end W.posted (behind (length W.events) 0)).member)
  ask_ends r left (Ends (Says (inr none))) = absurd none.1
  ask_ends r left (Goes (Says some) (Ends NotFetched)) = refl
  ask_ends r left (Goes (Says some) (Goes Fetched (Ends (Says none)))) = absurd none
  ask_ends r left (Goes (Says some) (Goes Fetched (Goes (Says found) (Ends (Says (inl down)))))) = ap of_asking down.1
  ask_ends r left (Goes (Says some) (Goes Fetched (Goes (Says found) (Ends (Says (inr none)))))) = absurd none.1
  ask_ends r left
      (Goes (Says some) (Goes Fetched (Goes {a = it} (Says found) (Goes {left = l} (Says up) handles)))) =
      only_asking r (λ apart. serves_never r apart volume to (length W.events) one (Err r) l
      (subst (λ b. Handles volume b one (Err r) l) (the_ask it (subst (LiesBehind one (length W.posted + 1)) (sym found.2) found.1))
      handles) refl)

  pub ask_serves : (given : Answer) (middle : Effect ModelWorld)
      → GivesMail volume (length W.posted + 1) one (Ok given) middle → IsServing given middle.after
  ask_serves given middle
      (Goes (Says some) (Goes Fetched (Goes {a = it} (Says found) (Goes {left = l} (Says up) handles)))) =
      serves_begin given l
      (subst (λ b. Handles volume b one (Ok given) l)
      (the_ask it (subst (LiesBehind one (length W.posted + 1)) (sym found.2) found.1)) handles)

module _ (volume : Volume) (W : ModelWorld) (by to : ℕ) where
  -- the two gives behind an ask that isn't refused
  abbrev pub BothGive : ℕ → ModelAction Answer
  BothGive number = First (GivesMail volume number) (λ given. GivesEach volume (mails_of given))

  posted_end : (size number : ℕ) (middle : Effect ModelWorld)
      → Posts (behind (length W.events) 0) size (with_event W (event.Ask by to)) (Ok number) middle
      → (r : Refusal) (left : Effect ModelWorld) → BothGive number middle.after (Err r) left → of_asking r ≡ true
  posted_end size number middle IsPosted r left (Ends gives) = ask_ends volume W by to size r _ gives
  posted_end size number middle IsPosted r left (Goes {a = given} {middle = m} {left = l} gives rest) =
      let serving = ask_serves volume W by to size given m gives in
      also_asking r
      (gives_end volume (length (W.events ++ event.Ask by to ∷ [])) by (mails_of given) 0 m.after serving.taking r l rest)

  asked_end : (number : ℕ) (middle : Effect ModelWorld) → Asks volume by to W (Ok number) middle → (r : Refusal)
      (left : Effect ModelWorld) → BothGive number middle.after (Err r) left → of_asking r ≡ true
  asked_end number middle
      (Goes (Says may) (Goes (Says up) (Goes (Says message) (Goes (Says room) (Goes {left = l} Saved posts))))) r left
      gives = posted_end _ number l posts r left gives

  -- a pull is refused only as asking, serving and saving are
  pub pull_refused : (r : Refusal) (left : Effect ModelWorld) → Does volume (command.Pull by to) W (Err r) left
      → of_asking r ≡ true
  pull_refused r left (Ends peers) =
      only_asking r (λ apart. at_peers_never r apart volume by to W (Err r) _ peers refl)
  pull_refused r left (Goes (Goes (Says peers) (Says up)) (Ends asks)) =
      only_asking r (λ apart. asks_never r apart volume by to W (Err r) _ asks refl)
  pull_refused r left (Goes (Goes (Says peers) (Says up)) (Goes {a = number} {middle = m} {left = l} asks gives)) =
      asked_end number m asks r l gives

  -- What a pull does that isn't refused: the server serves, and the messages with its pieces are given, in order.
  pub record PullsOn (given : Answer) (after : ModelWorld) : Type 0 where
    pub size : ℕ
    pub answer : Answer
    pub middle : ModelWorld
    pub left : Effect ModelWorld
    pub serving : IsServing volume W by to size answer middle
    pub gives : GivesEach volume (mails_of answer) middle (Ok given) left
    pub after_is : after ≡ left.after

  posted_on : (size number : ℕ) (middle : Effect ModelWorld)
      → Posts (behind (length W.events) 0) size (with_event W (event.Ask by to)) (Ok number) middle
      → (given : Answer) (left : Effect ModelWorld) → BothGive number middle.after (Ok given) left
      → PullsOn given left.after
  posted_on size number middle IsPosted given left (Goes {a = answer} {middle = m} {left = l} gives rest) = record {
    size = size;
    answer = answer;
    middle = m.after;
    left = l;
    serving = ask_serves volume W by to size answer m gives;
    gives = rest;
    after_is = refl;
  }

  asked_on : (number : ℕ) (middle : Effect ModelWorld) → Asks volume by to W (Ok number) middle → (given : Answer)
      (left : Effect ModelWorld) → BothGive number middle.after (Ok given) left → PullsOn given left.after
  asked_on number middle
      (Goes (Says may) (Goes (Says up) (Goes (Says message) (Goes (Says room) (Goes {left = l} Saved posts))))) given left
      gives = posted_on _ number l posts given left gives

  pub pull_goes : (given : Answer) (left : Effect ModelWorld) → Does volume (command.Pull by to) W (Ok given) left
      → PullsOn given left.after
  pull_goes given left (Goes (Goes (Says peers) (Says up)) (Goes {a = number} {middle = m} {left = l} asks gives)) =
      asked_on number m asks given l gives
