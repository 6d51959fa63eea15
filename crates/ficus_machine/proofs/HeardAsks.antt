-- What a machine does that hears an ask, and gives it to its member.
use Rattle.std.proofs.Common.{◌≡◌, ℕ, ◌+◌, ◌-◌, List, [], ◌∷◌, ◌++◌, length, map, Result, Ok, Err, Some, refl, sym, ap, subst, ◌∙◌, arith}
use Rattle.std.specs.Prelude.{All, Contains, slice_get}
use Rattle.std.specs.Option.{option_map}
use Rattle.std.proofs.lemmas.List.Elements.{All-cons, All-nil}
use Rattle.std.proofs.lemmas.Option.{get_or_from_slice_get, slice_get-map, slice_get_within}
use Rattle.ficus_envelope.specs.Envelope.{name_of}
use Rattle.ficus_ids.specs.declared.refusal.Refusal.{Refusal}
use Rattle.ficus_mailbox.specs.declared.found.Given.{Given}
use Rattle.ficus_mailbox.specs.declared.mailbox.Mailbox.{Ghosts as Mailbox}
use Rattle.ficus_mailbox.specs.declared.message_name.MessageName.TheVariants as name
use Rattle.ficus_replica.specs.declared.replica.Replica.{Replica}
use Rattle.ficus_opening.specs.declared.member.Member.{Member}
use Rattle.ficus_runs.specs.Answers.{answer_as}
use Rattle.ficus_runs.specs.Message.{IsSpelled}
use Rattle.ficus_runs.specs.Numbered.{IsNumbered}
use Rattle.ficus_runs.specs.Outcome.{Outcome}
use Rattle.ficus_runs.proofs.Numbers.{number_end}
use Rattle.ficus_script.specs.declared.answer.Answer.{Answer}
use Rattle.ficus_script.specs.declared.answer.Answer.TheVariants.{Refused}
use Rattle.ficus_script.specs.declared.command.Command.TheVariants as command
use Rattle.ficus_wire.specs.Message.{FitsMessage, ask_of, message_bytes, messages_of_tables}
use Rattle.ficus_codec.specs.Formats.{tables_bytes}
use Rattle.ficus_wire.specs.declared.message.Message.{Message}
use Rattle.ficus_wire.specs.declared.message.Route.{Route}
use Rattle.ficus_world.specs.Moves.{CarriesOut, with_post}
use Rattle.ficus_world.specs.Post.{IsSent, lies_behind}
use Rattle.ficus_world.specs.World.{IsReplica, Whole}
use Rattle.ficus_world.specs.Machines.Part.{Deed, Gives, IsOwnMail, goes_to}
use Rattle.ficus_world.specs.Machines.Together.Alone.{Acted, Ended, Heard}
use Rattle.ficus_world.proofs.Lifting.Spelling.{one_message}
use Rattle.ficus_machine.specs.Acting.{MovesSomehow}
use Rattle.ficus_machine.specs.Answers.{pieces_of}
use Rattle.ficus_machine.specs.Came.{CameIn, IsLetterOfOne, letter_of}
use Rattle.ficus_machine.specs.Line.{GoesOn, Grows, GrowsBy, told_of}
use Rattle.ficus_machine.specs.Machine.{MachineState}
use Rattle.ficus_machine.specs.Posting.{ArePosted, IsPosted, Puts}
use Rattle.ficus_machine.specs.declared.serving.Serving.{Serving}
use Rattle.ficus_machine.proofs.Going.{by_none, grows_none}
use Rattle.ficus_machine.proofs.Putting.{letters_of_posted, number_behind, piece_named}
use Rattle.ficus_machine.proofs.Served.{GivesAsk, IsServed, gives_ask}

-- an answer that is no refusal is what was given, and a refusal is why nothing was
given_fine : (answer : Answer) (result : Result Answer Refusal) → answer ≡ answer_as result
    → ((r : Refusal) → answer ≡ Refused r → ⊥) → (given : Answer) × (result ≡ Ok given)
given_fine answer (Ok given) is fine = (given, refl)
given_fine answer (Err r) is fine = absurd (fine r is)

given_refused : (r : Refusal) (result : Result Answer Refusal) → Refused r ≡ answer_as result
    → ((again : Refusal) → result ≡ Ok (Refused again) → ⊥) → result ≡ Err r
given_refused r (Ok given) is never = absurd (never r (ap (λ (a : Answer). Ok a) (sym is)))
given_refused r (Err again) is never = cc

module _ (disks_tell : Type 0) (me : ℕ) (way : Route) (old heard : Whole) (number : ℕ) (own : way.to ≡ me)
    (fits : FitsMessage (length old.members) (ask_of way))
    (sent : IsSent (Unit {0}) old.post (lies_behind 0 0) (message_bytes (ask_of way)) number heard.post)
    (rest : heard ≡ with_post old heard.post) where
  heard_count : length heard.members ≡ length old.members
  heard_count = ap (λ (w : Whole). length w.members) rest

  heard_fits : FitsMessage (length heard.members) (ask_of way)
  heard_fits = subst (λ n. FitsMessage n (ask_of way)) (sym heard_count) fits

  numbered : IsNumbered heard.post.posts number (message_bytes (ask_of way))
  numbered =
      subst (λ n. IsNumbered heard.post.posts n (message_bytes (ask_of way))) (sym sent.number_is)
      (subst (λ (posts : List (List ℕ)). IsNumbered posts (length old.post.posts + 1) (message_bytes (ask_of way))) (sym (sent.told tt))
      (number_end old.post.posts (message_bytes (ask_of way))))

  mail : IsOwnMail me heard number (message_bytes (ask_of way))
  mail = record {
    is = numbered;
    own = λ m spells.
        ap goes_to (one_message (length heard.members) m (ask_of way) spells.fits heard_fits (sym spells.is)) ∙ own;
  }

  gives_heard : {answer : Answer} {after : Whole}
      → (moves : MovesSomehow disks_tell heard (command.Give number) answer after)
      → GivesAsk me way heard moves.moves.result after
  gives_heard {after = after} moves =
      gives_ask disks_tell me number way heard own heard_fits numbered moves.moves.result (record { outcomes = moves.outcomes; after = after })
      moves.moves.does

  -- which changes no member
  pub heard_members : {answer : Answer} {after : Whole}
      → MovesSomehow disks_tell heard (command.Give number) answer after → after.members ≡ heard.members
  heard_members moves = (gives_heard moves).members

  module _ {M : Type 0} (mailbox : Mailbox M) (tag : List ℕ) (now : M)
      (came : mailbox.tells → CameIn tag (length old.members) me (mailbox.given now) (message_bytes (ask_of way))) where
    came_each : {later : M} → mailbox.given later ≡ mailbox.given now → mailbox.tells
        → All (CameIn tag (length old.members) me (mailbox.given later)) ((message_bytes (ask_of way)) ∷ [])
    came_each {later} same tells =
        All-cons (CameIn tag (length old.members) me (mailbox.given later)) (message_bytes (ask_of way)) []
        (subst (λ (list : List Given). CameIn tag (length old.members) me list (message_bytes (ask_of way))) (sym same) (came tells))
        (All-nil (CameIn tag (length old.members) me (mailbox.given later)))

    -- it is heard, and then memory was refused
    pub goes_heard : GoesOn mailbox disks_tell me tag [] old heard now now
    goes_heard = record {
      came = (message_bytes (ask_of way)) ∷ [];
      posted = [];
      alone = Heard heard (record { post = heard.post; posts = sent.told tt; is = rest }) Ended;
      count = heard_count;
      given = λ tells. grows_none (mailbox.given now);
      each_came = came_each refl;
      put = λ tells. by_none (IsLetterOfOne tag (length old.members) []) refl;
    }

    -- it is given, and letters are put of what was posted
    goes_put : {answer : Answer} {after : Whole}
        (moves : MovesSomehow disks_tell heard (command.Give number) answer after) (later : M)
        → (mailbox.tells → GrowsBy (IsLetterOfOne tag (length old.members) ((gives_heard moves).more ++ []))
        (mailbox.posted now) (mailbox.posted later)) → mailbox.given later ≡ mailbox.given now
        → GoesOn mailbox disks_tell me tag (told_of me (Gives number (message_bytes (ask_of way))) moves.moves.result ∷ []) old after now later
    goes_put {after = after} moves later puts same =
        let gives = gives_heard moves in
        record {
          came = (message_bytes (ask_of way)) ∷ [];
          posted = gives.more ++ [];
          alone =
              Heard heard (record { post = heard.post; posts = sent.told tt; is = rest })
              (Acted {deed = (Gives number (message_bytes (ask_of way)))} after moves.outcomes gives.more mail moves.moves.does gives.posts Ended);
          count = ap (λ (list : List Member). length list) gives.members ∙ heard_count;
          given = λ tells.
              subst (λ (list : List Given). Grows (mailbox.given now) list) (sym same)
              (grows_none (mailbox.given now));
          each_came = came_each same;
          put = puts;
        }

    -- the world refuses it
    pub goes_refused : {r : Refusal} {after : Whole}
        → MovesSomehow disks_tell heard (command.Give number) (Refused r) after
        → GoesOn mailbox disks_tell me tag (told_of me (Gives number (message_bytes (ask_of way))) (Err r) ∷ []) old after now now
    goes_refused {r} {after} moves =
        let gives = gives_heard moves in
        subst (λ (result : Result Answer Refusal). GoesOn mailbox disks_tell me tag (told_of me (Gives number (message_bytes (ask_of way))) result ∷ []) old
        after now now) (given_refused r moves.moves.result moves.moves.answer_is gives.no_refusal)
        (goes_put moves now (λ tells. by_none (IsLetterOfOne tag (length old.members) (gives.more ++ [])) refl) refl)

    -- it is answered: with the pieces of what the member has saved, which are posted, and put or not
    pub record GoesServed (after : Whole) : Type 0 where
      pub given : Answer
      pub more : List (List ℕ)
      pub posts : after.post.posts ≡ heard.post.posts ++ more
      pub served : IsServed me way old after more
      pub goes : (later : M) → (mailbox.tells → GrowsBy (IsLetterOfOne tag (length old.members) (more ++ []))
          (mailbox.posted now) (mailbox.posted later)) → mailbox.given later ≡ mailbox.given now
          → GoesOn mailbox disks_tell me tag (told_of me (Gives number (message_bytes (ask_of way))) (Ok given) ∷ []) old after now later

    served_old : {after : Whole} {more : List (List ℕ)} → IsServed me way heard after more
        → IsServed me way old after more
    served_old {after} {more} served =
        let there = subst (λ (w : Whole). IsServed me way w after more) rest served in
        record {
          replica = there.replica;
          is = there.is;
          members = there.members;
          more_are = there.more_are;
          fits = there.fits;
        }

    served_at : (result : Result Answer Refusal) (given : Answer) {after : Whole} (gives : GivesAsk me way heard result after)
        → result ≡ Ok given → IsServed me way old after gives.more
    served_at (Ok again) given gives same = served_old gives.served
    served_at (Err r) given gives same = absurd (cc)

    pub goes_served : {answer : Answer} {after : Whole}
        → MovesSomehow disks_tell heard (command.Give number) answer after
        → ((r : Refusal) → answer ≡ Refused r → ⊥) → GoesServed after
    goes_served {answer} {after} moves fine =
        let gives = gives_heard moves in
        let is = given_fine answer moves.moves.result moves.moves.answer_is fine in
        record {
          given = is.0;
          more = gives.more;
          posts = gives.posts;
          served = served_at moves.moves.result is.0 gives is.1;
          goes = λ later puts same.
              subst (λ (result : Result Answer Refusal). GoesOn mailbox disks_tell me tag (told_of me (Gives number (message_bytes (ask_of way))) result ∷ [])
              old after now later) is.1 (goes_put moves later puts same);
        }

    pub goes_letters : {after : Whole} (on : GoesServed after) (later : M)
        → (mailbox.tells → GrowsBy (Contains (map (letter_of tag) (pieces_of old me way on.served.replica)))
        (mailbox.posted now) (mailbox.posted later)) → mailbox.given later ≡ mailbox.given now
        → GoesOn mailbox disks_tell me tag (told_of me (Gives number (message_bytes (ask_of way))) (Ok on.given) ∷ []) old after now later
    goes_letters on later only same =
        on.goes later
        (λ tells.
        letters_of_posted tag (length old.members) (pieces_of old me way on.served.replica) on.more on.served.more_are
        on.served.fits (only tells)) same

-- the pieces stand behind the ask, each in its place
pub are_posted : {K : Type 0} {machine : MachineState K} {serving : Serving} {me : ℕ} {way : Route} {old : Whole}
    (front : List (List ℕ)) {more : List (List ℕ)} (served : IsServed me way old machine.world.whole more)
    → machine.me ≡ me
    → serving.way ≡ way → machine.world.whole.post.posts ≡ front ++ more → serving.behind ≡ length front
    → serving.state ≡ served.replica.saved.generation → ArePosted machine serving (pieces_of old me way served.replica)
are_posted {K} {machine} {serving} {me} {way} {old} front {more} served here routed posts behind state = record {
  each = λ index message at. record {
    fits =
        subst (λ n. FitsMessage n message) (sym (ap length served.members))
        (fitting index message at);
    is =
        subst (λ n. IsNumbered machine.world.whole.post.posts (n + 1 + index) (message_bytes message)) (sym behind)
        (subst (λ (list : List (List ℕ)). IsNumbered list (length front + 1 + index) (message_bytes message)) (sym posts)
        (number_behind front more index (message_bytes message) (stands index message at)));
    named = naming index message at;
  };
} where
  fitting : (index : ℕ) (message : Message) → slice_get (pieces_of old me way served.replica) index ≡ Some message
      → FitsMessage (length old.members) message
  fitting index message at =
      subst (FitsMessage (length old.members)) (get_or_from_slice_get (pieces_of old me way served.replica) index message message at)
      (served.fits index message (slice_get_within (pieces_of old me way served.replica) index message at))

  stands : (index : ℕ) (message : Message) → slice_get (pieces_of old me way served.replica) index ≡ Some message
      → slice_get more index ≡ Some (message_bytes message)
  stands index message at =
      ap (λ (list : List (List ℕ)). slice_get list index) served.more_are ∙ slice_get-map message_bytes (pieces_of old me way served.replica) index
      ∙ ap (option_map message_bytes) at

  turned : (index : ℕ) → name.Piece me way.from way.number served.replica.saved.generation index
      ≡ name.Piece machine.me serving.way.from serving.way.number serving.state index
  turned index i = name.Piece (sym here i) (sym routed i).from (sym routed i).number (sym state i) index

  naming : (index : ℕ) (message : Message) → slice_get (pieces_of old me way served.replica) index ≡ Some message
      → name_of message ≡ name.Piece machine.me serving.way.from serving.way.number serving.state index
  naming index message at =
      piece_named me way.from way.number served.replica.saved.generation
      (tables_bytes (length old.members) served.replica.saved.entries served.replica.saved.files) index message at
      ∙ turned index
