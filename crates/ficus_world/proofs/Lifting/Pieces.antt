-- What the taking of a piece does to a world that stands for one of the model, it does to that one.
use Rattle.std.proofs.Common.{◌≡◌, ◌≢◌, ℕ, ◌+◌, ◌<◌, ◌≤◌, List, [], ◌++◌, length, Result, Ok, Err, refl, sym, ap, subst, ◌∙◌, inl, inr, ◌⊎◌, arith}
use Rattle.std.specs.Prelude.{Option, Some, None, IsSome}
use Rattle.std.proofs.lemmas.Bool.{cases_eq}
use Rattle.ficus_codec.specs.Formats.{tables_bytes}
use Rattle.ficus_codec.proofs.TableFormats.{tables_once}
use Rattle.ficus_entry.specs.declared.entry.Entry.{Entry}
use Rattle.ficus_file.specs.declared.file.FileReplica.{FileReplica}
use Rattle.ficus_formats.specs.Pieces.{piece_at, piece_count}
use Rattle.ficus_held_file_laws.proofs.Entries.{entries_once}
use Rattle.ficus_held_file_laws.proofs.Files.{files_once}
use Rattle.ficus_ids.specs.Members.{IsMember}
use Rattle.ficus_ids.specs.declared.refusal.Refusal.{Refusal}
use Rattle.ficus_ids.specs.declared.refusal.Refusal.TheVariants as refusal
use Rattle.ficus_model.specs.declared.event.Event.{Event}
use Rattle.ficus_model.specs.declared.event.Event.TheVariants.{Accept, Serve, Take}
use Rattle.ficus_model.specs.Events.{IsAt, through}
use Rattle.ficus_model.specs.Lawful.{Volume, AnswersOpenAsk, HasTaken, IsOfState, IsOpenAsk, IsWantedPiece, MayAccept, MayCome}
use Rattle.ficus_laws.proofs.Positions.{at_same}
use Rattle.ficus_runs.specs.Pieces.Laws.{HasServedAll}
use Rattle.ficus_runs.proofs.pieces.Taken.{one_count, taken_served, taken_tables}
use Rattle.ficus_replica.specs.declared.replica.Replica.{Replica}
use Rattle.ficus_replica.specs.Accept.{AcceptGives, AcceptStands, IsOpen, IsServed}
use Rattle.ficus_replica.specs.SavedOf.{IsSavedOf, StandsFor}
use Rattle.ficus_replica.proofs.Accepts.{accept_gives_stands, open_taken, taken_open}
use Rattle.ficus_runs.proofs.Numbers.{number_once}
use Rattle.ficus_runs.proofs.Taking.{one_of_state, taking_exists}
use Rattle.ficus_runs.specs.Actions.{ModelAction, Wants, with_event, with_standing}
use Rattle.ficus_runs.specs.Actions.Adds.{Added}
use Rattle.ficus_runs.specs.Actions.Saves.{NotSaved, Saved as HasSaved}
use Rattle.ficus_runs.specs.Exchange.{APiece, Again, ComesToTaking, Handles, Have, IsOneState, OneMore, Taken, Taking, TheLast}
use Rattle.ficus_runs.specs.Exchange.ComesToTaking.{Completes, IsMissing, IsTaken}
use Rattle.ficus_runs.specs.ModelWorld.{ModelWorld, IsUp}
use Rattle.ficus_runs.specs.ModelWorld as model
use Rattle.ficus_runs.specs.Numbered.{IsNumbered}
use Rattle.ficus_runs.specs.Sequence.{Effect, First, unchanged}
use Rattle.ficus_runs.specs.Sequence.ByRule.{Says}
use Rattle.ficus_runs.specs.Sequence.First.{Ends, Goes}
use Rattle.ficus_durable_state.specs.Tables.{FitsTables}
use Rattle.ficus_durable_state.specs.declared.saved.Saved.{Saved}
use Rattle.ficus_script.specs.declared.answer.Answer.{Answer}
use Rattle.ficus_script.specs.declared.answer.Answer.TheVariants.{Done, Part}
use Rattle.ficus_version_laws.proofs.Counting.{counts_none, counts_once}
use Rattle.ficus_wire.specs.Message.{head_of}
use Rattle.ficus_wire.specs.Parts.{HasAll, HasAllBut, HasPart, HeldParts, RisesFrom, joined as joined_parts, part_at, with_part}
use Rattle.ficus_wire.specs.declared.message.PieceHead.{PieceHead}
use Rattle.ficus_wire.proofs.Holding.{joined_pieces, part_elsewhere, part_here}
use Rattle.ficus_world.specs.declared.exchange.Delivery.{Delivery}
use Rattle.ficus_opening.specs.declared.member.Member.{Member}
use Rattle.ficus_opening.specs.declared.member.MemberState.TheVariants as state
use Rattle.ficus_world.specs.declared.post.Behind.{Behind}
use Rattle.ficus_world.specs.Follows.{FollowsIn}
use Rattle.ficus_world.specs.Moves.{TakesFitting, TakesPiece, TakesSpelled, TakesTables, gathered, parts_held}
use Rattle.ficus_world.specs.Moves.FindsTaker.{AnswersNone, FindsIt, OfAnotherState, OfOtherPieces, TakerDown}
use Rattle.ficus_world.specs.Moves.TakesFitting.{IsHeld, IsOneMore, IsTheLast}
use Rattle.ficus_world.specs.Moves.TakesSpelled.{SpellsNone, SpellsTables}
use Rattle.ficus_world.specs.Moves.TakesTables.{Refuses, Takes, TakesNot}
use Rattle.ficus_world.specs.World.{Whole, IsPieceOfServe, PartsStandFor, WorldStandsFor}
use Rattle.ficus_world.proofs.Lifting.Held.{held_counted, some_held, taken_once}
use Rattle.ficus_world.proofs.Lifting.Lifts.{one_stored, stays}
use Rattle.ficus_world.proofs.Lifting.Outcomes.{steady_caused}
use Rattle.ficus_world.proofs.Lifting.Parts.{accept_long, parts_more, still_has, with_it}
use Rattle.ficus_world.proofs.Lifting.Pending.{served_long}
use Rattle.ficus_world.proofs.Lifting.Standing.{Comes, member_of, parts_stand, piece_stands, raise, replica_stands, saved_stands, unsaved_stands, up_from, up_in}

-- The piece with an index of what was served at a position in the run.
module _ (volume : Volume) (W : ModelWorld) (old : Whole) (stands : WorldStandsFor volume W old)
    (number position : ℕ) (place : Behind) (lies : IsNumbered old.post.behind number place)
    (raises : place.position + raise volume W old stands ≡ position) (asker server asked_with served_state index : ℕ)
    (entries : List Entry) (files : List FileReplica)
    (served : IsServed volume W.events asker server asked_with entries files position)
    (same : served_state ≡ served.state) (within : index < piece_count (tables_bytes volume.members entries files)) where
  abbrev tables : List ℕ
  tables = tables_bytes volume.members entries files

  abbrev came : Delivery
  came = record { mail = number; from = server; to = asker; ask = asked_with }

  abbrev head : PieceHead
  head = head_of server asker asked_with served_state (piece_count tables) index

  abbrev bytes : List ℕ
  bytes = piece_at tables index

  -- it is taken where its receiver is up
  abbrev TakesUp : ModelAction Answer
  TakesUp = First (Wants (IsUp asker) refusal.Down) (λ up. Handles volume (APiece position asker index served.pieces))

  abbrev Follows : Result Answer Refusal → Effect Whole → Type 0
  Follows result left = FollowsIn volume W old TakesUp result left

  since : W.earlier ≤ position
  since = omega (arith, stands.began, raises)

  -- it was served in all pieces of what the server saved there
  abbrev all : HasServedAll (tables_bytes volume.members) volume W.events position server served.pieces
  all = stands.run.serves.each position server served.ask served.state served.pieces since served.served

  same_entries : all.saved.entries ≡ entries
  same_entries = entries_once all.is.entries served.held

  same_files : all.saved.files ≡ files
  same_files = files_once all.is.files served.held_files

  same_tables : tables_bytes volume.members all.saved.entries all.saved.files ≡ tables
  same_tables = λ i. tables_bytes volume.members (same_entries i) (same_files i)

  all_pieces : served.pieces ≡ piece_count tables
  all_pieces = all.count ∙ ap piece_count same_tables

  fits : FitsTables volume.members entries files
  fits =
      subst (λ (es : List Entry). FitsTables volume.members es files) same_entries
      (subst (λ (fs : List FileReplica). FitsTables volume.members all.saved.entries fs) same_files
      (stands.served position server served.ask served.state served.pieces all.saved since served.served all.is))

  piece_is : IsPieceOfServe volume W.events position index served_state (piece_count tables) bytes
  piece_is = record {
    server = server;
    ask = served.ask;
    served =
        subst (λ n. IsAt W.events position (Serve server served.ask n (piece_count tables))) (sym same)
        (subst (λ n. IsAt W.events position (Serve server served.ask served.state n)) all_pieces served.served);
    saved = all.saved;
    is = all.is;
    piece = ap (λ (list : List ℕ). piece_at list index) (sym same_tables);
  }

  -- what is held of an answer, or nothing, before a piece
  record AreHeld (held : HeldParts) : Type 0 where
    pub rising : RisesFrom 0 held.pieces held.have
    pub taken : (other : ℕ) → HasTaken W.events asker other → HasPart held other
    pub each : (other : ℕ) (part : List ℕ) → part_at held other ≡ Some part
        → (has : HasTaken W.events asker other) × IsPieceOfServe volume W.events has.serve other held.state held.pieces part

  are_held : (parts : Option HeldParts) → PartsStandFor volume W.events asker parts → AreHeld (parts_held parts head)
  are_held None none = record {
    rising = tt;
    taken = λ other taken. absurd (none other taken);
    each = λ other part at. absurd (cc);
  }
  are_held (Some parts) are = record { rising = are.rising; taken = are.taken; each = are.each }

  -- they are of this state where the history has taken none of another
  other_state : (parts : Option HeldParts) → PartsStandFor volume W.events asker parts
      → (parts_held parts head).state ≢ served_state → IsOneState W.events asker position → ⊥
  other_state None none differs one = differs refl
  other_state (Some parts) are differs one =
      let first = some_held parts are in
      let found = are.each first.0 first.1 first.2 in
      let of = one served.state first.0
      (record { server = server; ask = served.ask; pieces = served.pieces; served = served.served }) found.0 in
      let alike = at_same of.served found.1.served in
      let states : served.state ≡ parts.state = cc in
      differs (sym states ∙ sym same)

  module _ (held : HeldParts) (are : AreHeld held) where
    held_was : (other : ℕ) → HasPart held other → HasTaken W.events asker other
    held_was other has = go (part_at held other) refl has
      where
        go : (found : Option (List ℕ)) → part_at held other ≡ found → IsSome found → HasTaken W.events asker other
        go None at some = absurd (cc)
        go (Some part) at some = (are.each other part at).0

    one_state : held.state ≡ served_state → IsOneState W.events asker position
    one_state states state piece of taken = go (part_at held piece) refl (are.taken piece taken)
      where
        go : (found : Option (List ℕ)) → part_at held piece ≡ found → IsSome found → IsOfState W.events taken.serve state
        go None at some = absurd (cc)
        go (Some part) at some =
            let found = are.each piece part at in
            let alike = at_same of.served served.served in
            let state_is : state ≡ served.state = cc in
            record {
              server = found.1.server;
              ask = found.1.ask;
              pieces = held.pieces;
              served =
                  subst (λ n. IsAt W.events n (Serve found.1.server found.1.ask state held.pieces))
                  (taken_once volume W.events stands.lawful asker found.0 taken)
                  (subst (λ n. IsAt W.events found.0.serve (Serve found.1.server found.1.ask n held.pieces))
                  (states ∙ same ∙ sym state_is) found.1.served);
            }

  module _ (was : Member) (is : IsNumbered old.members asker was) (up : was.state ≡ state.Up) where
    here : StandsFor volume W.events asker was.replica
    here = replica_stands volume W old stands asker was is

    parts_are : PartsStandFor volume W.events asker was.parts
    parts_are = parts_stand volume W old stands asker was is

    is_up : IsUp asker W
    is_up = up_in volume W old stands asker was is up

    member : IsMember volume.members asker
    member = member_of volume W old stands asker is.member

    abbrev held : HeldParts
    held = parts_held was.parts head

    are : AreHeld held
    are = are_held was.parts parts_are

    module _ (open_ask : IsOpen was.replica server asked_with) where
      open_is : IsOpenAsk W.events served.ask asker server
      open_is =
          let found = open_taken volume W.events asker server asked_with entries files position was.replica stands.lawful
          here served open_ask in
          let alike = at_same found.served served.served in
          let servers : found.server ≡ server = cc in
          let asks : found.ask ≡ served.ask = cc in
          subst (λ n. IsOpenAsk W.events n asker server) asks
          (subst (λ n. IsOpenAsk W.events found.ask asker n) servers found.open_ask)

      abbrev answers : AnswersOpenAsk W.events position asker
      answers = record {
        server = server;
        ask = served.ask;
        state = served.state;
        pieces = served.pieces;
        served = served.served;
        open_ask = open_is;
      }

      -- what is held was served in answer to the same ask
      module _ (parts : HeldParts) (parts_of : AreHeld parts) (other : ℕ) (part : List ℕ)
          (at : part_at parts other ≡ Some part) where
        abbrev found : (has : HasTaken W.events asker other)
            × IsPieceOfServe volume W.events has.serve other parts.state parts.pieces part
        found = parts_of.each other part at

        alike : (server ≡ found.1.server) × (served.ask ≡ found.1.ask)
        alike =
            let both = at_same (taken_served volume W.events asker position stands.lawful answers found.0) found.1.served in
            let servers : server ≡ found.1.server = cc in
            let asks : served.ask ≡ found.1.ask = cc in
            (servers, asks)

        served_too : IsAt W.events found.0.serve (Serve server served.ask parts.state parts.pieces)
        served_too =
            subst (λ n. IsAt W.events found.0.serve (Serve server n parts.state parts.pieces)) (sym alike.1)
            (subst (λ n. IsAt W.events found.0.serve (Serve n found.1.ask parts.state parts.pieces)) (sym alike.0)
            found.1.served)

        saved_there : IsSavedOf volume (through found.0.serve W.events) server found.1.saved
        saved_there =
            subst (λ n. IsSavedOf volume (through found.0.serve W.events) n found.1.saved) (sym alike.0) found.1.is

        same_count : parts.state ≡ served_state → parts.pieces ≡ served.pieces
        same_count states =
            one_count stands.lawful served.served
            (subst (λ n. IsAt W.events found.0.serve (Serve server served.ask n parts.pieces)) (states ∙ same) served_too)

      -- where they are of this state, they are of as many pieces
      held_pieces : (parts : Option HeldParts) → PartsStandFor volume W.events asker parts
          → (parts_held parts head).state ≡ served_state → (parts_held parts head).pieces ≡ piece_count tables
      held_pieces None none states = refl
      held_pieces (Some parts) parts_of states =
          let first = some_held parts parts_of in
          same_count parts (are_held (Some parts) parts_of) first.0 first.1 first.2 states ∙ all_pieces

      -- and as many were taken as are held
      held_have : (parts : Option HeldParts) → PartsStandFor volume W.events asker parts
          → Have W.events asker (parts_held parts head).pieces (length (parts_held parts head).have)
      held_have None none = counts_none (piece_count tables) (λ other below taken. none other taken)
      held_have (Some parts) parts_of = held_counted parts parts_of

      module _ (states : held.state ≡ served_state) where
        counts : held.pieces ≡ piece_count tables
        counts = held_pieces was.parts parts_are states

        counts_too : held.pieces ≡ served.pieces
        counts_too = counts ∙ sym all_pieces

        have : Have W.events asker served.pieces (length held.have)
        have = subst (λ n. Have W.events asker n (length held.have)) counts_too (held_have was.parts parts_are)

        one : IsOneState W.events asker position
        one = one_state held are states

        below : index < served.pieces
        below = omega (arith, within, all_pieces)

        -- where taking it comes to this, the model does that
        goes : (taking : Taking) (result : Result Answer Refusal) (left : Effect ModelWorld)
            → ComesToTaking volume W.events asker position index served.pieces taking
            → Taken asker position index served.pieces taking W result left → TakesUp W result left
        goes taking result left comes takes =
            Goes (Says (is_up, refl)) (Goes (Says (answers, refl))
            (Goes (Says (one, refl)) (Goes (Says (taking, comes, refl)) takes)))

        same_part : (count : ℕ) → Part count served.pieces ≡ Part count (piece_count tables)
        same_part count = ap (λ n. Part count n) all_pieces

        -- it is held already
        follow_again : HasPart held index → Follows (Ok (Part (length held.have) (piece_count tables))) (unchanged old)
        follow_again has =
            stays volume W old stands
            (goes (Again (length held.have)) (Ok (Part (length held.have) (piece_count tables))) (unchanged W)
            (IsTaken (held_was held are index has) have) (Says (sym (same_part (length held.have)))))

        module _ (lacks : HasPart held index → ⊥) where
          wanted : IsWantedPiece W.events asker position index
          wanted = record {
            answer = answers;
            below = below;
            untaken = λ taken. lacks (are.taken index taken);
            of_state = one_of_state answers one;
          }

          piece_held : IsPieceOfServe volume W.events position index held.state held.pieces bytes
          piece_held =
              subst (λ n. IsPieceOfServe volume W.events position index held.state n bytes) (sym counts)
              (subst (λ n. IsPieceOfServe volume W.events position index n (piece_count tables) bytes) (sym states) piece_is)

          -- it is one more
          module _ (stored : Behind) (stored_is : IsNumbered old.post.behind number stored) where
            stored_raises : stored.position + raise volume W old stands ≡ position
            stored_raises = ap (λ (p : Behind). p.position + raise volume W old stands) (number_once stored_is lies) ∙ raises

            more_stands : MayCome volume W.events (Take asker position index)
                → WorldStandsFor volume (with_event W (Take asker position index))
                (gathered old asker was (with_part held index bytes) (Take asker stored.position index))
            more_stands may =
                piece_stands volume W old stands asker stored.position position index was (with_part held index bytes) is up
                stored_raises may
                (parts_more volume W.events asker position index held bytes are.rising (omega (arith, within, counts)) lacks
                are.taken are.each piece_held)

            abbrev after_more : Effect Whole
            after_more = record {
              outcomes = [];
              after = gathered old asker was (with_part held index bytes) (Take asker stored.position index);
            }

            follow_missing : (taken : ℕ) → MayCome volume W.events (Take asker position index)
                → Have W.events asker served.pieces taken
                → Follows (Ok (Part (length held.have + 1) (piece_count tables))) after_more
            follow_missing taken may count =
                let counted : taken ≡ length held.have = counts_once count have in
                record {
                  after = with_event W (Take asker position index);
                  does =
                      subst (λ n. TakesUp W (Ok (Part (length held.have + 1) n))
                      (record { outcomes = []; after = with_event W (Take asker position index) })) all_pieces
                      (goes (OneMore (length held.have + 1)) (Ok (Part (length held.have + 1) served.pieces))
                      (record { outcomes = []; after = with_event W (Take asker position index) })
                      (IsMissing may have) Added);
                  caused = steady_caused old.post.faults;
                  stored = one_stored W.events old.events (Take asker position index) (Take asker stored.position index);
                  stands = more_stands may;
                }

            follow_more : (HasAllBut held index → ⊥)
                → Follows (Ok (Part (length held.have + 1) (piece_count tables))) after_more
            follow_more not_last =
                go (taking_exists volume W.events asker position index member answers one below)
              where
                go : (taking : Taking) × ComesToTaking volume W.events asker position index served.pieces taking
                    → Follows (Ok (Part (length held.have + 1) (piece_count tables))) after_more
                go (taking, IsTaken taken count) = absurd (lacks (are.taken index taken))
                go (taking, IsMissing {have = taken} may count) = follow_missing taken may count
                go (taking, Completes may) =
                    absurd (not_last (λ other less differs.
                    let alike = at_same may.wanted.answer.served served.served in
                    let pieces : may.wanted.answer.pieces ≡ served.pieces = cc in
                    are.taken other (may.others other (omega (arith, less, counts_too, pieces)) differs)))

          -- it is the last
          module _ (last : HasAllBut held index) where
            all_held : HasAll (with_part held index bytes)
            all_held other less = go (cases_eq other index)
              where
                go : (other ≡ index) ⊎ (other ≢ index) → HasPart (with_part held index bytes) other
                go (inl same) = with_it held index bytes other same
                go (inr differs) = still_has held index bytes other (last other less differs)

            -- each was a piece of the same tables
            part_of_tables : (other : ℕ) (part : List ℕ) → part_at held other ≡ Some part → part ≡ piece_at tables other
            unfolding wanted
            part_of_tables other part at =
                let found = are.each other part at in
                let saves : found.1.saved ≡ all.saved =
                taken_tables volume W.events asker position stands.lawful index wanted found.0 all.is
                (saved_there held are other part at) in
                found.1.piece
                ∙ ap (λ (s : Saved). piece_at (tables_bytes volume.members s.entries s.files) other) saves
                ∙ ap (λ (list : List ℕ). piece_at list other) same_tables

            joins : joined_parts (with_part held index bytes) ≡ tables
            joins =
                joined_pieces tables (with_part held index bytes) counts all_held
                (λ other part at. pick other part at (cases_eq other index))
              where
                pick : (other : ℕ) (part : List ℕ) → part_at (with_part held index bytes) other ≡ Some part
                    → (other ≡ index) ⊎ (other ≢ index) → part ≡ piece_at tables other
                pick other part at (inr differs) =
                    part_of_tables other part (sym (part_elsewhere held index bytes other differs) ∙ at)
                pick other part at (inl same) =
                    let found : part_at (with_part held index bytes) index ≡ Some part =
                    subst (λ n. part_at (with_part held index bytes) n ≡ Some part) same at in
                    let both : Some bytes ≡ Some part = sym (part_here held index bytes) ∙ found in
                    let parts : bytes ≡ part = cc in
                    sym parts ∙ ap (λ n. piece_at tables n) (sym same)

            abbrev accept : Event
            accept = Accept asker position index

            may_accept : MayAccept volume W.events asker position index
            unfolding wanted
            may_accept = record {
              member = member;
              wanted = wanted;
              others = λ other less differs. held_was held are other (last other (omega (arith, less, counts_too)) differs);
            }

            last_goes : (result : Result Answer Refusal) (left : Effect ModelWorld)
                → Taken asker position index served.pieces TheLast W result left → TakesUp W result left
            last_goes result left takes = goes TheLast result left (Completes may_accept) takes

            accepts : (taker : Member) → IsNumbered old.members asker taker → (result : Result Replica Refusal)
                → AcceptGives taker.replica server asked_with entries files result
                → AcceptStands volume W.events asker position result
            accepts taker taker_is result gives =
                accept_gives_stands volume W.events asker server asked_with entries files position taker.replica result
                stands.count.at_most stands.lawful (replica_stands volume W old stands asker taker taker_is) served gives

            -- it may come later too
            comes_later : (taker : Member) (taker_is : IsNumbered old.members asker taker)
                (taker_up : taker.state ≡ state.Up) (next : Replica) (stored : Behind)
                (raises_too : stored.position + raise volume W old stands ≡ position)
                → AcceptGives taker.replica server asked_with entries files (Ok next)
                → Comes volume W old stands asker taker next taker_is taker_up (Accept asker stored.position index) accept
                (ap (λ n. Accept asker n index) raises_too) refl refl
            comes_later taker taker_is taker_up next stored raises_too gives later others lawful so =
                let may = accept_long volume W.events asker position index later others may_accept in
                record {
                  lawful = may;
                  stands =
                      (accept_gives_stands volume (W.events ++ later) asker server asked_with entries files position
                      taker.replica (Ok next) stands.count.at_most lawful so (served_long volume W.events later served)
                      gives).stands index may;
                }

            refused : (r : Refusal) → r ≢ refusal.Memory → AcceptStands volume W.events asker position (Err r)
                → Follows (Err r) (unchanged old)
            refused refusal.Stale no_memory never = absurd (never answers)
            refused refusal.Memory no_memory so = absurd (no_memory refl)
            refused r no_memory none = absurd none

            stored_at : (stored : Behind) → IsNumbered old.post.behind number stored
                → stored.position + raise volume W old stands ≡ position
            stored_at stored stored_is =
                ap (λ (p : Behind). p.position + raise volume W old stands) (number_once stored_is lies) ∙ raises

            follow_tables : (result : Result Answer Refusal) (left : Effect Whole)
                → TakesTables came index entries files old result left → Follows result left
            follow_tables result left (Refuses {was = taker} {r = r} taker_is taker_up no_memory gives) =
                refused r no_memory (accepts taker taker_is (Err r) gives)
            follow_tables result left
                (Takes {was = taker} {new = next} {place = stored} taker_is taker_up stored_is gives) = record {
                  after = with_event W accept;
                  does = last_goes (Ok Done) _ HasSaved;
                  caused = steady_caused old.post.faults;
                  stored = one_stored W.events old.events accept (Accept asker stored.position index);
                  stands =
                      saved_stands volume W old stands asker taker next taker_is taker_up
                      (Accept asker stored.position index) accept
                      (ap (λ n. Accept asker n index) (stored_at stored stored_is)) refl refl
                      (comes_later taker taker_is taker_up next stored (stored_at stored stored_is) gives);
                }
            follow_tables result left
                (TakesNot {was = taker} {new = next} {place = stored} taker_is taker_up stored_is gives) = record {
                  after = with_standing W asker (model.Down (Some accept));
                  does = last_goes (Err refusal.Store) _ NotSaved;
                  caused = steady_caused old.post.faults;
                  stored = refl;
                  stands =
                      unsaved_stands volume W old stands asker taker next taker_is taker_up
                      (Accept asker stored.position index) accept
                      (ap (λ n. Accept asker n index) (stored_at stored stored_is)) refl refl
                      (comes_later taker taker_is taker_up next stored (stored_at stored stored_is) gives);
                }

            follow_spelled : (result : Result Answer Refusal) (left : Effect Whole)
                → TakesSpelled came index (joined_parts (with_part held index bytes)) old result left
                → Follows result left
            follow_spelled result left (SpellsNone none) =
                absurd (none entries files (subst (λ n. FitsTables n entries files) (sym stands.members) fits)
                (joins ∙ ap (λ n. tables_bytes n entries files) (sym stands.members)))
            follow_spelled result left (SpellsTables {entries = es} {files = fs} fits_too is_spelled takes) =
                let spelled : tables_bytes volume.members es fs ≡ tables =
                sym (is_spelled ∙ ap (λ n. tables_bytes n es fs) stands.members) ∙ joins in
                let alike = tables_once volume.members stands.count es entries fs files [] []
                (subst (λ n. FitsTables n es fs) stands.members fits_too) fits
                (ap (λ (list : List ℕ). list ++ []) spelled) in
                follow_tables result left
                (subst (λ (e : List Entry). TakesTables came index e files old result left) alike.0
                (subst (λ (f : List FileReplica). TakesTables came index es f old result left) alike.1 takes))

        follow_fitting : (result : Result Answer Refusal) (left : Effect Whole)
            → TakesFitting came head bytes was old result left → Follows result left
        follow_fitting result left (IsHeld has) = follow_again has
        follow_fitting result left (IsOneMore {place = stored} lacks not_last stored_is) =
            follow_more lacks stored stored_is not_last
        follow_fitting result left (IsTheLast lacks last spelled) = follow_spelled lacks last result left spelled

  pub piece_follows : (result : Result Answer Refusal) (left : Effect Whole)
      → TakesPiece came head bytes old result left → Follows result left
  piece_follows result left (Ends (TakerDown {was = was} is down)) =
      stays volume W old stands
      (Ends (Says (inl (λ up. down (up_from volume W old stands asker was is up), refl))))
  piece_follows result left (Ends (AnswersNone {was = was} is up none)) =
      stays volume W old stands
      (Goes (Says (is_up was is up, refl))
      (Ends (Says (inl (
        λ answering. none (taken_open volume W.events asker server asked_with entries files position was.replica
            (here was is up) served answering),
        refl,
      )))))
  piece_follows result left (Ends (OfAnotherState {was = was} waiting differs)) =
      stays volume W old stands
      (Goes (Says (is_up was waiting.is waiting.up, refl))
      (Goes (Says (answers was waiting.is waiting.up waiting.open_ask, refl))
      (Ends (Says (inl (
        other_state was.parts (parts_are was waiting.is waiting.up) differs,
        refl,
      ))))))
  piece_follows result left (Ends (OfOtherPieces {was = was} waiting states differs)) =
      absurd (differs (counts was waiting.is waiting.up waiting.open_ask states))
  piece_follows result left (Goes {left = last} (FindsIt {was = was} waiting states counted) takes) =
      follow_fitting was waiting.is waiting.up waiting.open_ask states result last takes
