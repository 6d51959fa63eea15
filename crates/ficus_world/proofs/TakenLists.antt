-- What is taken with an answer are the tables that its sender had each time that it served one of the pieces.
use Rattle.std.proofs.Common.{◌≡◌, ◌≢◌, ℕ, ◌+◌, ◌-◌, ◌<◌, List, [], ◌++◌, length, Result, Ok, Err, Option, Some, None, Bool, true, false, refl, sym, ap, subst, ◌∙◌, inl, inr, ◌⊎◌, arith}
use Rattle.std.specs.Prelude.{◌==◌, if◌then◌else◌, IsSome}
use Rattle.std.proofs.lemmas.Bool.{cases_eq}
use Rattle.ficus_codec.specs.Formats.{tables_bytes}
use Rattle.ficus_codec.proofs.TableFormats.{tables_once}
use Rattle.ficus_durable_state.specs.Tables.{FitsTables}
use Rattle.ficus_durable_state.specs.declared.saved.Saved.{Saved}
use Rattle.ficus_entry.specs.declared.entry.Entry.{Entry}
use Rattle.ficus_file.specs.declared.file.FileReplica.{FileReplica}
use Rattle.ficus_formats.specs.Pieces.{piece_at, piece_count}
use Rattle.ficus_ids.specs.Members.{IsCount}
use Rattle.ficus_ids.specs.declared.refusal.Refusal.{Refusal}
use Rattle.ficus_model.specs.declared.event.Event.{Event}
use Rattle.ficus_replica.specs.Accept.{Accepted, MakesMerged}
use Rattle.ficus_replica.specs.declared.replica.Replica.{Replica}
use Rattle.ficus_script.specs.declared.answer.Answer.{Answer}
use Rattle.ficus_script.specs.declared.answer.Answer.TheVariants.{Done, Mail, Mails}
use Rattle.ficus_script.specs.declared.command.Command.TheVariants.{Give}
use Rattle.ficus_wire.specs.Message.{head_of, message_bytes, piece_message}
use Rattle.ficus_wire.specs.Parts.{HasAll, HasAllBut, HeldParts, joined as joined_parts, part_at, with_part}
use Rattle.ficus_wire.specs.declared.message.Message.{Message}
use Rattle.ficus_wire.specs.declared.message.Message.TheVariants as message
use Rattle.ficus_wire.specs.declared.message.PieceHead.{PieceHead}
use Rattle.ficus_wire.proofs.Holding.{joined_pieces, part_elsewhere, part_here}
use Rattle.ficus_runs.specs.Answers.{answer_as}
use Rattle.ficus_runs.specs.Exchange.{mailed}
use Rattle.ficus_runs.specs.Message.{IsSpelled}
use Rattle.ficus_runs.specs.Numbered.{IsNumbered}
use Rattle.ficus_runs.specs.Outcome.{Outcome}
use Rattle.ficus_runs.specs.Sequence.{Effect}
use Rattle.ficus_runs.specs.Sequence.ByRule.{Says}
use Rattle.ficus_runs.specs.Sequence.First.{Ends, Goes}
use Rattle.ficus_opening.specs.declared.member.Member.{Member}
use Rattle.ficus_world.specs.declared.exchange.Delivery.{Delivery}
use Rattle.ficus_world.specs.Generations.{Chain, HasTakenServed, IsCutFrom, IsFresh, IsServed, SomeLink}
use Rattle.ficus_world.specs.Moves.{GivesMessage, HandlesMessage, IsWaiting, Moves, ServesAsk, TakesFitting, TakesSpelled, advanced, parts_after, parts_held}
use Rattle.ficus_world.specs.Moves.FetchesBytes.{Fetched}
use Rattle.ficus_world.specs.Moves.FindsTaker.{FindsIt}
use Rattle.ficus_world.specs.Moves.ServesAsk.{NoRoomToServe, ServerDown, Serves}
use Rattle.ficus_world.specs.Moves.TakesFitting.{IsHeld, IsOneMore, IsTheLast}
use Rattle.ficus_world.specs.Moves.TakesSpelled.{SpellsNone, SpellsTables}
use Rattle.ficus_world.specs.Moves.TakesTables.{Refuses, Takes, TakesNot}
use Rattle.ficus_world.specs.World.{Whole}
use Rattle.ficus_world.proofs.Ages.{chain_ages}
use Rattle.ficus_world.proofs.Lifting.Sets.{number_set}
use Rattle.ficus_world.proofs.ServedLists.{Ever, cut_in_chain, held_served, held_was_served, posted_ever, served_same}

-- only what is taken is answered so
never_mailed : (first count : ℕ) → Done ≡ mailed first count → ⊥
never_mailed first count same = go (count == 1) same
  where
    go : (one : Bool) → Done ≡ (if one then Mail first else Mails first (first + count - 1)) → ⊥
    go true same = cc
    go false same = cc

serves_never : {tells : Type 0} {came : Delivery} {old : Whole} (result : Result Answer Refusal) {left : Effect Whole}
    → ServesAsk tells came old result left → Done ≡ answer_as result → ⊥
serves_never result (ServerDown is down) same = cc
serves_never result (NoRoomToServe serving full) same = cc
serves_never result (Serves serving place room fits (Ends sends)) same = cc
serves_never {old = old} (Ok given) (Serves serving place room fits (Goes sends (Says is))) same =
    never_mailed _ _ (same ∙ is)
serves_never (Err refused) (Serves serving place room fits (Goes sends (Says none))) same = none

module _ {tells disks_tell : Type 0} (told : tells) (disks_told : disks_tell) {start old : Whole}
    (chain : Chain tells disks_tell start old) (fresh : IsFresh start) (mail : ℕ) where
  few : IsCount (length old.members)
  few = subst IsCount (sym (chain_ages disks_told chain).count) fresh.sound.count

  -- a last piece came
  module _ (from to ask state pieces index : ℕ) (bytes fetched : List ℕ)
      (at : IsNumbered old.post.posts mail fetched)
      (spelled : IsSpelled (length old.members) fetched (message.Piece from to ask state pieces index bytes)) where
    abbrev came : Delivery
    came = record { mail = mail; from = from; to = to; ask = ask }

    abbrev head : PieceHead
    head = head_of from to ask state pieces index

    abbrev piece_with : ℕ → List ℕ → Message
    piece_with i part = message.Piece from to ask state pieces i part

    -- it was served, by a member that has saved this
    this : Ever chain (piece_with index bytes)
    this = posted_ever told chain mail fetched (piece_with index bytes) fresh.posts at spelled tt

    abbrev saved : Saved
    saved = this.0

    abbrev tables : List ℕ
    tables = tables_bytes (length old.members) saved.entries saved.files

    cut : (state ≡ saved.generation) × IsCutFrom tables pieces index bytes
        × FitsTables (length old.members) saved.entries saved.files
    cut = cut_in_chain disks_told chain fresh.sound from to ask state pieces index bytes saved this.1

    -- so was each other piece of this state, while the member had saved the same
    module _ (i : ℕ) (part : List ℕ) (served : Ever chain (piece_with i part)) where
      same_saved : saved ≡ served.0
      same_saved =
          served_same disks_told chain fresh.sound from state to ask pieces index bytes saved to ask pieces i part
          served.0 this.1 served.1

      part_is : part ≡ piece_at tables i
      part_is =
          (cut_in_chain disks_told chain fresh.sound from to ask state pieces i part served.0 served.1).1.piece
          ∙ ap (λ (s : Saved). piece_at (tables_bytes (length old.members) s.entries s.files) i) (sym same_saved)

      served_with : SomeLink (IsServed (piece_message from to ask saved.generation tables i) saved) chain
      served_with =
          subst (λ m. SomeLink (IsServed m saved) chain)
          (λ j. message.Piece from to ask (cut.0 j) (cut.1.count j) i (part_is j))
          (subst (λ s. SomeLink (IsServed (piece_with i part) s) chain) (sym same_saved) served.1)

    posted : IsNumbered old.post.posts mail (message_bytes (piece_message from to ask saved.generation tables index))
    posted =
        subst (λ list. IsNumbered old.post.posts mail list)
        (spelled.is ∙ ap message_bytes (λ j. message.Piece from to ask (cut.0 j) (cut.1.count j) index (cut.1.piece j)))
        at

    module _ (was : Member) (waits : IsWaiting old came was) (states : (parts_held was.parts head).state ≡ state)
        (counted : (parts_held was.parts head).pieces ≡ pieces) where
      abbrev held : HeldParts
      held = parts_held was.parts head

      abbrev all_parts : HeldParts
      all_parts = with_part held index bytes

      other_served : (i : ℕ) (part : List ℕ) → part_at held i ≡ Some part → Ever chain (piece_with i part)
      other_served i part found =
          subst (Ever chain) (λ j. message.Piece from to ask (states j) (counted j) i part)
          (held_served (Ever chain) to was head was.parts refl (held_was_served told chain fresh to was waits.is) i part
          from ask found waits.open_ask)

      each_served : (i : ℕ) (part : List ℕ) → part_at all_parts i ≡ Some part → Ever chain (piece_with i part)
      each_served i part found = go (cases_eq i index)
        where
          go : (i ≡ index) ⊎ (i ≢ index) → Ever chain (piece_with i part)
          go (inr differs) =
              other_served i part (sym (part_elsewhere held index bytes i differs) ∙ found)
          go (inl same) =
              let here : part_at all_parts index ≡ Some part =
              subst (λ n. part_at all_parts n ≡ Some part) same found in
              let both : Some bytes ≡ Some part = sym (part_here held index bytes) ∙ here in
              let part_is : bytes ≡ part = cc in
              subst (Ever chain) (λ j. piece_with (sym same j) (part_is j)) this

      -- and it was the last
      module _ (last : HasAllBut held index) where
        all_held : HasAll all_parts
        all_held i below = go (cases_eq i index)
          where
            go : (i ≡ index) ⊎ (i ≢ index) → IsSome (part_at all_parts i)
            go (inl same) =
                subst (λ n. IsSome (part_at all_parts n)) (sym same)
                (subst IsSome (sym (part_here held index bytes)) refl)
            go (inr differs) =
                subst IsSome (sym (part_elsewhere held index bytes i differs)) (last i below differs)

        all_counted : held.pieces ≡ piece_count tables
        all_counted = counted ∙ cut.1.count

        joins : joined_parts all_parts ≡ tables
        joins =
            joined_pieces tables all_parts all_counted all_held
            (λ i part found. part_is i part (each_served i part found))

        each : (i : ℕ) → i < piece_count tables
            → SomeLink (IsServed (piece_message from to ask saved.generation tables i) saved) chain
        each i below = go (part_at all_parts i) refl (all_held i (omega (arith, below, all_counted)))
          where
            go : (found : Option (List ℕ)) → part_at all_parts i ≡ found → IsSome found
                → SomeLink (IsServed (piece_message from to ask saved.generation tables i) saved) chain
            go None found some = absurd (cc)
            go (Some part) found some = served_with i part (each_served i part found)

        -- so these tables are taken
        has_taken : (taker : Member) → IsNumbered old.members to taker → (new : Replica) (event : Event)
            (entries : List Entry) (files : List FileReplica) → FitsTables (length old.members) entries files
            → joined_parts all_parts ≡ tables_bytes (length old.members) entries files
            → Accepted taker.replica from ask entries files new
            → HasTakenServed chain (advanced old to taker new event) mail
        has_taken taker taker_is new event entries files fits is gives =
            let alike = tables_once (length old.members) few entries saved.entries files saved.files [] [] fits cut.2
            (ap (λ (list : List ℕ). list ++ []) (sym is ∙ joins)) in
            record {
              from = from;
              to = to;
              ask = ask;
              index = index;
              served = saved;
              was = taker.replica.saved;
              now = new.saved;
              posted = posted;
              each = each;
              had = record { member = taker; is = taker_is; saves = refl };
              has = record {
                member = record taker { replica = new; parts = parts_after event taker.parts };
                is =
                    number_set old.members to taker (record taker { replica = new; parts = parts_after event taker.parts })
                    taker_is;
                saves = refl;
              };
              merges =
                  subst (λ (es : List Entry). MakesMerged taker.replica.saved es saved.files new.saved) alike.0
                  (subst (λ (fs : List FileReplica). MakesMerged taker.replica.saved entries fs new.saved) alike.1 (record {
                    merged = gives.merged;
                    both = gives.both;
                    tables = gives.tables;
                    saved = ap (λ (r : Replica). r.saved) gives.replica;
                  }));
            }

        spelled_taken : (result : Result Answer Refusal) (left : Effect Whole)
            → TakesSpelled came index (joined_parts all_parts) old result left → Done ≡ answer_as result
            → HasTakenServed chain left.after mail
        spelled_taken result left (SpellsNone none) same = absurd (cc)
        spelled_taken result left
            (SpellsTables {entries = entries} {files = files} fits is
            (Takes {was = taker} {new = new} taker_is up place gives)) same =
            has_taken taker taker_is new _ entries files fits is gives
        spelled_taken result left (SpellsTables fits is (TakesNot taker_is up place gives)) same = absurd (cc)
        spelled_taken result left (SpellsTables fits is (Refuses taker_is up no_memory gives)) same = absurd (cc)

      fitting_taken : (result : Result Answer Refusal) (left : Effect Whole)
          → TakesFitting came head bytes was old result left → Done ≡ answer_as result
          → HasTakenServed chain left.after mail
      fitting_taken result left (IsHeld has) same = absurd (cc)
      fitting_taken result left (IsOneMore lacks others lies) same = absurd (cc)
      fitting_taken result left (IsTheLast lacks others takes) same = spelled_taken others result left takes same

  handles_taken : (m : Message) (fetched : List ℕ) → IsNumbered old.post.posts mail fetched
      → IsSpelled (length old.members) fetched m → (result : Result Answer Refusal) (left : Effect Whole)
      → HandlesMessage tells mail m old result left → Done ≡ answer_as result → HasTakenServed chain left.after mail
  handles_taken (message.Ask from to ask) fetched at spelled result left handles same =
      absurd (serves_never result handles same)
  handles_taken (message.Piece from to ask state pieces index bytes) fetched at spelled result left (Ends finds) same =
      absurd (cc)
  handles_taken (message.Piece from to ask state pieces index bytes) fetched at spelled result left
      (Goes {a = was} {left = behind} (FindsIt waits states counted) takes) same =
      fitting_taken from to ask state pieces index bytes fetched at spelled was waits states counted result behind takes
      same

  pub give_taken : (outcomes : List Outcome) (new : Whole) → Moves tells disks_tell old (Give mail) outcomes Done new
      → HasTakenServed chain new mail
  give_taken outcomes new moves =
      go moves.result (record { outcomes = outcomes; after = new }) moves.does moves.answer_is
    where
      go : (result : Result Answer Refusal) (left : Effect Whole) → GivesMessage tells mail old result left
          → Done ≡ answer_as result → HasTakenServed chain left.after mail
      go result left (Ends finds) same = absurd (cc)
      go result left (Goes {a = m} {left = behind} (Goes {a = fetched} (Fetched are) (Says reads)) handles) same =
          handles_taken m fetched (are.told told) reads result behind handles same
