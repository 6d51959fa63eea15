-- What a machine does that exchanges messages, the world of all does.
use Rattle.std.proofs.Common.{◌≡◌, ℕ, ◌+◌, ◌-◌, List, [], ◌∷◌, ◌++◌, length, map, Result, Ok, Err, Some, refl, sym, ap, subst}
use Rattle.std.specs.Prelude.{All, slice_set}
use Rattle.std.proofs.lemmas.List.{append-nil}
use Rattle.ficus_codec.specs.Formats.{tables_bytes}
use Rattle.ficus_durable_state.specs.Tables.{FitsTables}
use Rattle.ficus_entry.specs.declared.entry.Entry.{Entry}
use Rattle.ficus_file.specs.declared.file.FileReplica.{FileReplica}
use Rattle.ficus_ids.specs.Members.{IsMember}
use Rattle.ficus_ids.specs.declared.refusal.Refusal.{Refusal}
use Rattle.ficus_ids.specs.declared.refusal.Refusal.TheVariants as refusal
use Rattle.ficus_model.specs.declared.event.Event.{Event}
use Rattle.ficus_model.specs.declared.event.Event.TheVariants as event
use Rattle.ficus_replica.specs.declared.replica.Replica.{Replica}
use Rattle.ficus_script.specs.declared.answer.Answer.{Answer}
use Rattle.ficus_script.specs.declared.answer.Answer.TheVariants.{Done, Mail, Part}
use Rattle.ficus_script.specs.declared.command.Command.{Command}
use Rattle.ficus_script.specs.declared.command.Command.TheVariants as command
use Rattle.ficus_wire.specs.Message.{FitsMessage, head_of, message_bytes, messages_of_tables, sizes_of}
use Rattle.ficus_wire.specs.Parts.{HasAllBut, HasPart, with_part}
use Rattle.ficus_wire.specs.declared.message.Message.{Message}
use Rattle.ficus_wire.specs.declared.message.Message.TheVariants as message
use Rattle.ficus_wire.specs.declared.message.PieceHead.{PieceHead}
use Rattle.ficus_runs.specs.Exchange.{mailed}
use Rattle.ficus_runs.specs.Message.{IsSpelled, Reads}
use Rattle.ficus_runs.specs.Numbered.{IsNumbered}
use Rattle.ficus_runs.specs.Outcome.{Outcome, IsDone, LinkFails, IsSaved, SaveFails}
use Rattle.ficus_runs.specs.Sequence.{Effect}
use Rattle.ficus_runs.specs.Sequence.ByRule.{Says}
use Rattle.ficus_runs.specs.Sequence.First.{Ends, Goes}
use Rattle.ficus_runs.proofs.Numbers.{number_exists, number_once}
use Rattle.ficus_opening.specs.declared.member.Member.{Member}
use Rattle.ficus_opening.specs.declared.member.MemberState.TheVariants as state
use Rattle.ficus_world.specs.Moves.{CarriesOut, HandlesMessage, HasRoomFor, IsAsking, IsServing, IsWaiting, Sends, SendsAnswers, SendsEach, ServesAsk, TakesFitting, TakesPiece, TakesSpelled, TakesTables, answers_of, ask_of, parts_after, parts_held, pending_of, serve_of, spelled_with, with_event}
use Rattle.ficus_world.specs.Moves.FetchesBytes.{NoMail, NotFetched, Fetched}
use Rattle.ficus_world.specs.Moves.FindsTaker.{AnswersNone, FindsIt, OfAnotherState, OfOtherPieces, TakerDown}
use Rattle.ficus_world.specs.Moves.KeepsAsk.{NoPeers, AskerDown, NoRoomToAsk, NotAsked, Asked}
use Rattle.ficus_world.specs.Moves.Sends.{Sent, NotSent}
use Rattle.ficus_world.specs.Moves.ServesAsk.{ServerDown, NoRoomToServe, Serves}
use Rattle.ficus_world.specs.Moves.TakesFitting.{IsHeld, IsOneMore, IsTheLast}
use Rattle.ficus_world.specs.Moves.TakesSpelled.{SpellsNone, SpellsTables}
use Rattle.ficus_world.specs.Moves.TakesTables.{Refuses, Takes, TakesNot}
use Rattle.ficus_world.specs.Post.{AreFetched, HasFailed, Outbox, lies_behind}
use Rattle.ficus_world.specs.World.{Whole}
use Rattle.ficus_world.specs.Machines.Part.{AreAlike, Deed, IsAnswerLike, IsOwnMail, IsPartOf, IsStepOfAll, goes_to}
use Rattle.ficus_world.specs.Machines.Part.Deed.{Asks as DeedAsks, Gives as DeedGives}
use Rattle.ficus_world.specs.Machines.Part.IsAnswerLike.{Numbered, Same}
use Rattle.ficus_world.proofs.machines.Alike.{alike_self}
use Rattle.ficus_world.proofs.machines.Parts.{changes, changes_alone, found_there, idles, peers_here, peers_there, same_there, still, still_down, there}
use Rattle.ficus_world.proofs.machines.Sends.{Of, each_sent, failed_posts, failed_too, failed_with, posted_with, sent_with}

module _ (tells disks_tell : Type 0) (told : tells) (r : ℕ) (machine all : Whole) (part : IsPartOf r machine all) where
  abbrev world : Whole
  world = there r machine all part

  abbrev StepOfAll : Deed → Result Answer Refusal → Effect Whole → Type 0
  StepOfAll deed result left = IsStepOfAll tells disks_tell r machine all deed result left.outcomes left.after

  abbrev held_by : Member → Replica → Event → Member
  held_by was next event = record was { replica = next; parts = parts_after event was.parts }

  abbrev downed_by : Member → Replica → Event → Member
  downed_by was next event = record was { state = state.Down (Some (pending_of next event)) }

  -- an ask
  module _ (to : ℕ) (was : Member) (asked : Replica) (asking : IsAsking machine r to was asked) where
    asking_there : IsAsking world r to was asked
    asking_there = record {
      peers = peers_there r machine all part r to asking.peers;
      is = same_there r machine all part was asking.is asking.up;
      up = asking.up;
      gives = asking.gives;
      fits = subst (λ n. FitsMessage n (ask_of r to asked)) part.count asking.fits;
    }

    abbrev happens : Event
    happens = event.Ask r to

    abbrev spelled : List ℕ
    spelled = message_bytes (ask_of r to asked)

    abbrev next : Member
    next = held_by was asked happens

    sent_ask : HasRoomFor machine (length spelled) → (number : ℕ) (post : Outbox) (result : Result Answer Refusal)
        → result ≡ Ok (Mail number) → post.posts ≡ machine.post.posts ++ spelled ∷ []
        → IsStepOfAll tells disks_tell r machine all (DeedAsks to) result (IsSaved r ∷ IsDone ∷ [])
        (record {
          members = slice_set machine.members (r - 1) next;
          events = machine.events ++ happens ∷ [];
          post = post;
        })
    sent_ask room number post result is posts =
        let behind = lies_behind (length world.events) 0 in
        changes r machine all part tells disks_tell (DeedAsks to) (command.Ask r to) refl result
        (Ok (Mail (length all.post.posts + 1)))
        (subst (λ (one : Result Answer Refusal). IsAnswerLike one (Ok (Mail (length all.post.posts + 1)))) (sym is)
        (Numbered number (length all.post.posts + 1) 1)) (IsSaved r ∷ IsDone ∷ []) post
        (posted_with world.post behind spelled) (spelled ∷ []) posts refl was next next asking.is (alike_self next)
        (machine.events ++ happens ∷ []) (all.events ++ happens ∷ [])
        (Goes (Asked asking_there room (Sent (sent_with tells world.post behind spelled))) (Says refl))

    unsent_ask : HasRoomFor machine (length spelled) → (post : Outbox) → post.posts ≡ machine.post.posts ++ []
        → HasFailed world.post (failed_with world.post post)
        → IsStepOfAll tells disks_tell r machine all (DeedAsks to) (Err refusal.Link) (IsSaved r ∷ LinkFails ∷ [])
        (record {
          members = slice_set machine.members (r - 1) next;
          events = machine.events ++ happens ∷ [];
          post = post;
        })
    unsent_ask room post posts failed =
        changes r machine all part tells disks_tell (DeedAsks to) (command.Ask r to) refl (Err refusal.Link)
        (Err refusal.Link) Same (IsSaved r ∷ LinkFails ∷ []) post (failed_with world.post post) [] posts
        (sym (append-nil all.post.posts)) was next next asking.is (alike_self next)
        (machine.events ++ happens ∷ []) (all.events ++ happens ∷ [])
        (Ends (Asked asking_there room (NotSent failed)))

    -- the link fails
    asking_fails : HasRoomFor machine (length spelled) → (refused : Refusal) (left : Effect Whole)
        → Sends tells (lies_behind (length machine.events) 0) spelled
        (record machine {
          members = slice_set machine.members (r - 1) next;
          events = machine.events ++ happens ∷ [];
        }) (Err refused) left
        → IsStepOfAll tells disks_tell r machine all (DeedAsks to) (Err refused) (IsSaved r ∷ left.outcomes) left.after
    asking_fails room refused left (NotSent {post = post} failed) =
        unsent_ask room post (failed_posts machine.post post failed)
        (failed_too machine.post world.post post refl failed)

    asking_posts : HasRoomFor machine (length spelled) → (number : ℕ) (left : Effect Whole)
        → Sends tells (lies_behind (length machine.events) 0) spelled
        (record machine {
          members = slice_set machine.members (r - 1) next;
          events = machine.events ++ happens ∷ [];
        }) (Ok number) left → (result : Result Answer Refusal) → result ≡ Ok (Mail number)
        → IsStepOfAll tells disks_tell r machine all (DeedAsks to) result (IsSaved r ∷ (left.outcomes ++ [])) left.after
    asking_posts room number left (Sent {post = post} sent) result is =
        sent_ask room number post result is (sent.told told)

  pub ask_steps : (to : ℕ) (result : Result Answer Refusal) (left : Effect Whole)
      → CarriesOut tells disks_tell (command.Ask r to) machine result left → StepOfAll (DeedAsks to) result left
  ask_steps to result left (Ends (NoPeers none)) =
      idles r machine all part tells disks_tell (DeedAsks to) (command.Ask r to) refl (Err refusal.Member)
      (Ends (NoPeers (λ peers. none (peers_here r machine all part r to peers))))
  ask_steps to result left (Ends (AskerDown {was = was} peers is down)) =
      idles r machine all part tells disks_tell (DeedAsks to) (command.Ask r to) refl (Err refusal.Down)
      (Ends (AskerDown (peers_there r machine all part r to peers) (found_there r machine all part was is).1
      (still_down r machine all part was is down)))
  ask_steps to result left (Ends (NoRoomToAsk {was = was} {asked = asked} asking full)) =
      idles r machine all part tells disks_tell (DeedAsks to) (command.Ask r to) refl (Err refusal.LinkFull)
      (Ends (NoRoomToAsk (asking_there to was asked asking) full))
  ask_steps to result left (Ends (NotAsked {was = was} {asked = asked} asking room)) =
      let down = downed_by was asked (event.Ask r to) in
      changes_alone r machine all part tells disks_tell (DeedAsks to) (command.Ask r to) refl (Err refusal.Store)
      (SaveFails r ∷ []) was down down asking.is (alike_self down) machine.events all.events
      (Ends (NotAsked (asking_there to was asked asking) room))
  ask_steps to result left
      (Ends {refusal = refused} (Asked {was = was} {asked = asked} {left = last} asking room sends)) =
      asking_fails to was asked asking room refused last sends
  ask_steps to (Ok given) left
      (Goes {a = number} (Asked {was = was} {asked = asked} {left = last} asking room sends) (Says gives)) =
      asking_posts to was asked asking room number last sends (Ok given) (ap (λ (a : Answer). Ok a) gives)
  ask_steps to (Err refused) left (Goes asks (Says gives)) = absurd gives

  -- A message that the machine has, for its own member. It was posted, and has a number there.
  module _ (counted : length all.post.posts ≡ length all.post.behind) (number : ℕ) (bytes : List ℕ)
      (mail : IsOwnMail r machine number bytes) where
    abbrev number_there : ℕ
    number_there = (part.genuine number bytes mail.is).0

    is_there : IsNumbered all.post.posts number_there bytes
    is_there = (part.genuine number bytes mail.is).1

    abbrev asked : Command
    asked = command.Give number_there

    abbrev gives : Deed
    gives = DeedGives number bytes

    fetched_there : AreFetched tells world.post.posts number_there bytes
    fetched_there = record { some = is_there.member; told = λ tells. is_there }

    place_there : (place : Of all.post.behind) × IsNumbered all.post.behind number_there place
    place_there =
        number_exists all.post.behind number_there (subst (λ n. IsMember n number_there) counted is_there.member)

    -- it spells the same there
    handled : (m : Message) → IsSpelled (length machine.members) bytes m → (again : Result Answer Refusal)
        (outcomes : List Outcome) (new : Whole)
        → HandlesMessage tells number_there m world again (record { outcomes = outcomes; after = new })
        → CarriesOut tells disks_tell asked world again (record { outcomes = IsDone ∷ outcomes; after = new })
    handled m spelled again outcomes new handles =
        let spelled_there : IsSpelled (length all.members) bytes m =
        subst (λ n. IsSpelled n bytes m) part.count spelled in
        Goes (Goes (Fetched fetched_there) (Says {result = Ok m} spelled_there)) handles

    module _ (m : Message) (spelled : IsSpelled (length machine.members) bytes m) where
      idly : (result : Result Answer Refusal)
          → HandlesMessage tells number_there m world result (record { outcomes = []; after = world })
          → IsStepOfAll tells disks_tell r machine all gives result (IsDone ∷ []) machine
      idly result handles =
          still r machine all part tells disks_tell gives asked (number_there, is_there, refl) result result Same
          (IsDone ∷ []) machine.post world.post [] (sym (append-nil machine.post.posts))
          (sym (append-nil all.post.posts)) machine.events all.events (handled m spelled result [] world handles)

      changing : (result : Result Answer Refusal) (outcomes : List Outcome) (was next next_there : Member)
          → IsNumbered machine.members r was → AreAlike next next_there → (events events_there : List Event)
          → HandlesMessage tells number_there m world result
          (record {
            outcomes = outcomes;
            after = record world {
              members = slice_set all.members (r - 1) next_there;
              events = events_there;
            };
          })
          → IsStepOfAll tells disks_tell r machine all gives result (IsDone ∷ outcomes)
          (record machine { members = slice_set machine.members (r - 1) next; events = events })
      changing result outcomes was next next_there is alike events events_there handles =
          changes_alone r machine all part tells disks_tell gives asked (number_there, is_there, refl) result
          (IsDone ∷ outcomes) was next next_there is alike events events_there
          (handled m spelled result outcomes
          (record world { members = slice_set all.members (r - 1) next_there; events = events_there }) handles)

    -- an ask is served
    module _ (from ask : ℕ) (spelled : IsSpelled (length machine.members) bytes (message.Ask from r ask)) where
      abbrev asks : Message
      asks = message.Ask from r ask

      module _ (peer : Member) (serving : IsServing machine (record { mail = number; from = from; to = r; ask = ask }) peer) where
        abbrev answers : List Message
        answers = answers_of machine (record { mail = number; from = from; to = r; ask = ask }) peer

        abbrev answers_there : List Message
        answers_there = answers_of world (record { mail = number_there; from = from; to = r; ask = ask }) peer

        same_answers : answers_there ≡ answers
        same_answers =
            ap (λ n. messages_of_tables r from ask peer.replica.saved.generation
            (tables_bytes n peer.replica.saved.entries peer.replica.saved.files)) (sym part.count)

        serving_there : IsServing world (record { mail = number_there; from = from; to = r; ask = ask }) peer
        serving_there = record {
          is = same_there r machine all part peer serving.is serving.up;
          up = serving.up;
          fits =
              subst (λ n. FitsTables n peer.replica.saved.entries peer.replica.saved.files) part.count serving.fits;
        }

        module _ (place : Of machine.post.behind) (place_is : IsNumbered machine.post.behind number place)
            (room : HasRoomFor machine (sizes_of answers)) (fits : All (FitsMessage (length machine.members)) answers)
          where
            abbrev stored : Event
            stored = serve_of machine (record { mail = number; from = from; to = r; ask = ask }) peer place

            abbrev stored_there : Event
            stored_there = serve_of world (record { mail = number_there; from = from; to = r; ask = ask }) peer place_there.0

            room_there : HasRoomFor world (sizes_of answers_there)
            room_there =
                subst (λ (list : List Message). HasRoomFor machine (sizes_of list)) (sym same_answers) room

            fits_there : All (FitsMessage (length world.members)) answers_there
            fits_there =
                subst (λ n. All (FitsMessage n) answers_there) part.count
                (subst (λ (list : List Message). All (FitsMessage (length machine.members)) list) (sym same_answers) fits)

            -- the pieces are posted there too
            served : (again : Result Answer Refusal) (outcomes : List Outcome) (new : Whole)
                → SendsAnswers tells world answers_there (with_event world stored_there) again
                (record { outcomes = outcomes; after = new })
                → HandlesMessage tells number_there asks world again (record { outcomes = outcomes; after = new })
            served again outcomes new sends = Serves serving_there place_there.1 room_there fits_there sends

            serves : (result : Result Answer Refusal) (left : Effect Whole)
                → SendsAnswers tells machine answers (with_event machine stored) result left
                → IsStepOfAll tells disks_tell r machine all gives result (IsDone ∷ left.outcomes) left.after
            serves result left (Ends {refusal = refused} sends) =
                let too = each_sent tells told (length machine.events) (length world.events) 0 (map message_bytes answers)
                (with_event machine stored) (with_event world stored_there) refl (Err refused) left sends in
                let new : Whole = record (with_event world stored_there) { post = too.post_there } in
                subst (λ (after : Whole).
                IsStepOfAll tells disks_tell r machine all gives (Err refused) (IsDone ∷ left.outcomes) after)
                (sym too.is)
                (still r machine all part tells disks_tell gives asked (number_there, is_there, refl) (Err refused)
                (Err refused) Same (IsDone ∷ left.outcomes) too.post too.post_there too.more too.posted too.sent
                (machine.events ++ stored ∷ []) (all.events ++ stored_there ∷ [])
                (handled asks spelled (Err refused) left.outcomes new
                (served (Err refused) left.outcomes new
                (Ends (subst (λ (list : List Message). SendsEach tells (length world.events) 0
                (map message_bytes list) (with_event world stored_there) (Err refused)
                (record { outcomes = left.outcomes; after = new })) (sym same_answers) too.does)))))
            serves (Ok given) left (Goes {a = a} {middle = middle} sends (Says is)) =
                let too = each_sent tells told (length machine.events) (length world.events) 0 (map message_bytes answers)
                (with_event machine stored) (with_event world stored_there) refl (Ok a) middle sends in
                let new : Whole = record (with_event world stored_there) { post = too.post_there } in
                let first = length machine.post.posts + 1 in
                let first_there = length all.post.posts + 1 in
                let count = length answers in
                subst (λ (after : Whole).
                IsStepOfAll tells disks_tell r machine all gives (Ok given) (IsDone ∷ (middle.outcomes ++ [])) after)
                (sym too.is)
                (still r machine all part tells disks_tell gives asked (number_there, is_there, refl) (Ok given)
                (Ok (mailed first_there count))
                (subst (λ (one : Answer). IsAnswerLike (Ok one) (Ok (mailed first_there count))) (sym is)
                (Numbered first first_there count)) (IsDone ∷ (middle.outcomes ++ []))
                too.post too.post_there too.more too.posted too.sent (machine.events ++ stored ∷ [])
                (all.events ++ stored_there ∷ [])
                (handled asks spelled (Ok (mailed first_there count)) (middle.outcomes ++ []) new
                (served (Ok (mailed first_there count)) (middle.outcomes ++ []) new
                (Goes (subst (λ (list : List Message). SendsEach tells (length world.events) 0
                (map message_bytes list) (with_event world stored_there) (Ok a)
                (record { outcomes = middle.outcomes; after = new })) (sym same_answers) too.does)
                (Says (ap (λ (list : List Message). mailed first_there (length list)) (sym same_answers)))))))
            serves (Err refused) left (Goes sends (Says none)) = absurd none

      serve_steps : (result : Result Answer Refusal) (left : Effect Whole)
          → ServesAsk tells (record { mail = number; from = from; to = r; ask = ask }) machine result left
          → IsStepOfAll tells disks_tell r machine all gives result (IsDone ∷ left.outcomes) left.after
      serve_steps result left (ServerDown {peer = peer} is down) =
          idly asks spelled (Err refusal.Down)
          (ServerDown (found_there r machine all part peer is).1 (still_down r machine all part peer is down))
      serve_steps result left (NoRoomToServe {peer = peer} serving full) =
          idly asks spelled (Err refusal.LinkFull)
          (NoRoomToServe (serving_there peer serving)
          (λ room. full (subst (λ (list : List Message). HasRoomFor machine (sizes_of list)) (same_answers peer serving)
          room)))
      serve_steps result left
          (Serves {peer = peer} {asked = place} {result = served_as} {left = last} serving place_is room fits sends) =
          serves peer serving place place_is room fits served_as last sends

    -- a piece is taken
    module _ (from ask state_is pieces index : ℕ) (piece : List ℕ)
        (spelled : IsSpelled (length machine.members) bytes (message.Piece from r ask state_is pieces index piece))
      where
        abbrev brings : Message
        brings = message.Piece from r ask state_is pieces index piece

        abbrev head : PieceHead
        head = head_of from r ask state_is pieces index

        waiting_there : (was : Member) → IsWaiting machine (record { mail = number; from = from; to = r; ask = ask }) was
            → IsWaiting world (record { mail = number_there; from = from; to = r; ask = ask }) was
        waiting_there was waiting = record {
          is = same_there r machine all part was waiting.is waiting.up;
          up = waiting.up;
          open_ask = waiting.open_ask;
        }

        module _ (was : Member) (waiting : IsWaiting machine (record { mail = number; from = from; to = r; ask = ask }) was)
            (states : (parts_held was.parts head).state ≡ head.state)
            (counts : (parts_held was.parts head).pieces ≡ head.pieces) where
          -- it fits there too
          fitted : (again : Result Answer Refusal) (outcomes : List Outcome) (new : Whole)
              → TakesFitting (record { mail = number_there; from = from; to = r; ask = ask }) head piece was world again
              (record { outcomes = outcomes; after = new })
              → HandlesMessage tells number_there brings world again (record { outcomes = outcomes; after = new })
          fitted again outcomes new takes = Goes (FindsIt (waiting_there was waiting) states counts) takes

          module _ (lacks : HasPart (parts_held was.parts head) head.index → ⊥)
              (last : HasAllBut (parts_held was.parts head) head.index) where
            completed : (again : Result Answer Refusal) (outcomes : List Outcome) (new : Whole)
                → TakesSpelled (record { mail = number_there; from = from; to = r; ask = ask }) head.index (spelled_with was head piece) world again
                (record { outcomes = outcomes; after = new })
                → HandlesMessage tells number_there brings world again (record { outcomes = outcomes; after = new })
            completed again outcomes new takes = fitted again outcomes new (IsTheLast lacks last takes)

            module _ (entries : List Entry) (files : List FileReplica)
                (fits : FitsTables (length machine.members) entries files)
                (is : spelled_with was head piece ≡ tables_bytes (length machine.members) entries files) where
              tabled : (again : Result Answer Refusal) (outcomes : List Outcome) (new : Whole)
                  → TakesTables (record { mail = number_there; from = from; to = r; ask = ask }) head.index entries files world again
                  (record { outcomes = outcomes; after = new })
                  → HandlesMessage tells number_there brings world again (record { outcomes = outcomes; after = new })
              tabled again outcomes new takes =
                  completed again outcomes new
                  (SpellsTables (subst (λ n. FitsTables n entries files) part.count fits)
                  (subst (λ n. spelled_with was head piece ≡ tables_bytes n entries files) part.count is) takes)

              tables_step : (result : Result Answer Refusal) (left : Effect Whole)
                  → TakesTables (record { mail = number; from = from; to = r; ask = ask }) head.index entries files machine result left
                  → IsStepOfAll tells disks_tell r machine all gives result (IsDone ∷ left.outcomes) left.after
              tables_step result left (Refuses {was = taker} {r = refused} taker_is up no_memory refuses) =
                  idly brings spelled (Err refused)
                  (tabled (Err refused) [] world
                  (Refuses (same_there r machine all part taker taker_is up) up no_memory refuses))
              tables_step result left (Takes {was = taker} {new = new} {place = place} taker_is up place_is takes) =
                  let happens = event.Accept r place.position head.index in
                  let happens_there = event.Accept r place_there.0.position head.index in
                  let now = held_by taker new happens in
                  changing brings spelled (Ok Done) (IsSaved r ∷ []) taker now now taker_is (alike_self now)
                  (machine.events ++ happens ∷ []) (all.events ++ happens_there ∷ [])
                  (tabled (Ok Done) (IsSaved r ∷ [])
                  (record world {
                    members = slice_set all.members (r - 1) now;
                    events = all.events ++ happens_there ∷ [];
                  })
                  (Takes (same_there r machine all part taker taker_is up) up place_there.1 takes))
              tables_step result left (TakesNot {was = taker} {new = new} {place = place} taker_is up place_is takes) =
                  let happens = event.Accept r place.position head.index in
                  let happens_there = event.Accept r place_there.0.position head.index in
                  let now = downed_by taker new happens in
                  let now_there = downed_by taker new happens_there in
                  changing brings spelled (Err refusal.Store) (SaveFails r ∷ []) taker now now_there taker_is
                  (record { replica = refl; parts = refl; state = refl; fused = refl })
                  machine.events all.events
                  (tabled (Err refusal.Store) (SaveFails r ∷ [])
                  (record world { members = slice_set all.members (r - 1) now_there; events = all.events })
                  (TakesNot (same_there r machine all part taker taker_is up) up place_there.1 takes))

            spelled_step : (result : Result Answer Refusal) (left : Effect Whole)
                → TakesSpelled (record { mail = number; from = from; to = r; ask = ask }) head.index (spelled_with was head piece) machine result left
                → IsStepOfAll tells disks_tell r machine all gives result (IsDone ∷ left.outcomes) left.after
            spelled_step result left (SpellsNone none) =
                idly brings spelled (Err refusal.BadMessage)
                (completed (Err refusal.BadMessage) [] world
                (SpellsNone (subst (λ n. (entries : List Entry) (files : List FileReplica) → FitsTables n entries files
                → spelled_with was head piece ≡ tables_bytes n entries files → ⊥) part.count none)))
            spelled_step result left
                (SpellsTables {entries = entries} {files = files} {result = taken_as} {left = rest} fits is takes) =
                tables_step entries files fits is taken_as rest takes

          fitting_step : (result : Result Answer Refusal) (left : Effect Whole)
              → TakesFitting (record { mail = number; from = from; to = r; ask = ask }) head piece was machine result left
              → IsStepOfAll tells disks_tell r machine all gives result (IsDone ∷ left.outcomes) left.after
          fitting_step result left (IsHeld has) =
              let given : Answer = Part (length (parts_held was.parts head).have) head.pieces in
              idly brings spelled (Ok given) (fitted (Ok given) [] world (IsHeld has))
          fitting_step result left (IsOneMore {place = place} lacks not_last place_is) =
              let given : Answer = Part (length (parts_held was.parts head).have + 1) head.pieces in
              let now : Member = record was {
                parts = Some (with_part (parts_held was.parts head) head.index piece);
              } in
              changing brings spelled (Ok given) [] was now now waiting.is (alike_self now)
              (machine.events ++ event.Take r place.position head.index ∷ [])
              (all.events ++ event.Take r place_there.0.position head.index ∷ [])
              (fitted (Ok given) []
              (record world {
                members = slice_set all.members (r - 1) now;
                events = all.events ++ event.Take r place_there.0.position head.index ∷ [];
              })
              (IsOneMore lacks not_last place_there.1))
          fitting_step result left (IsTheLast {result = taken_as} {left = rest} lacks last takes) =
              spelled_step lacks last taken_as rest takes

        piece_steps : (result : Result Answer Refusal) (left : Effect Whole)
            → TakesPiece (record { mail = number; from = from; to = r; ask = ask }) head piece machine result left
            → IsStepOfAll tells disks_tell r machine all gives result (IsDone ∷ left.outcomes) left.after
        piece_steps result left (Ends (TakerDown {was = was} is down)) =
            idly brings spelled (Err refusal.Down)
            (Ends (TakerDown (found_there r machine all part was is).1 (still_down r machine all part was is down)))
        piece_steps result left (Ends (AnswersNone {was = was} is up none)) =
            idly brings spelled (Err refusal.Stale)
            (Ends (AnswersNone (same_there r machine all part was is up) up none))
        piece_steps result left (Ends (OfAnotherState {was = was} waiting differs)) =
            idly brings spelled (Err refusal.Mixed) (Ends (OfAnotherState (waiting_there was waiting) differs))
        piece_steps result left (Ends (OfOtherPieces {was = was} waiting states differs)) =
            idly brings spelled (Err refusal.BadMessage)
            (Ends (OfOtherPieces (waiting_there was waiting) states differs))
        piece_steps result left (Goes {left = last} (FindsIt {was = was} waiting states counts) takes) =
            fitting_step was waiting states counts result last takes

    -- what (record { mail = number; from = from; to = r; ask = ask }) is handled
    handle_steps : (m : Message) → IsSpelled (length machine.members) bytes m → goes_to m ≡ r
        → (result : Result Answer Refusal) (left : Effect Whole) → HandlesMessage tells number m machine result left
        → IsStepOfAll tells disks_tell r machine all gives result (IsDone ∷ left.outcomes) left.after
    handle_steps (message.Ask from to ask) spelled own result left handles =
        serve_steps from ask
        (subst (λ n. IsSpelled (length machine.members) bytes (message.Ask from n ask)) own spelled) result left
        (subst (λ n. HandlesMessage tells number (message.Ask from n ask) machine result left) own handles)
    handle_steps (message.Piece from to ask state_is pieces index piece) spelled own result left handles =
        piece_steps from ask state_is pieces index piece
        (subst (λ n. IsSpelled (length machine.members) bytes (message.Piece from n ask state_is pieces index piece)) own
        spelled) result left
        (subst (λ n. HandlesMessage tells number (message.Piece from n ask state_is pieces index piece) machine result
        left) own handles)

    same_bytes : (found : List ℕ) → AreFetched tells machine.post.posts number found → found ≡ bytes
    same_bytes found fetched = number_once (fetched.told told) mail.is

    pub give_steps : (result : Result Answer Refusal) (left : Effect Whole)
        → CarriesOut tells disks_tell (command.Give number) machine result left
        → IsStepOfAll tells disks_tell r machine all gives result left.outcomes left.after
    give_steps result left (Ends (Ends (NoMail none))) = absurd (none mail.is.member)
    give_steps result left (Ends (Ends (NotFetched {post = post} some failed))) =
        let post_there = failed_with world.post post in
        still r machine all part tells disks_tell gives asked (number_there, is_there, refl) (Err refusal.Link)
        (Err refusal.Link) Same (LinkFails ∷ []) post post_there [] (failed_posts machine.post post failed)
        (sym (append-nil all.post.posts)) machine.events all.events
        (Ends (Ends (NotFetched is_there.member (failed_too machine.post world.post post refl failed))))
    give_steps result left (Ends (Goes (Fetched {bytes = found} fetched) (Says {result = Err refused} none))) =
        let none_there : Reads (length all.members) bytes (Err refused) =
        subst (λ n. Reads n bytes (Err refused)) part.count
        (subst (λ (b : List ℕ). Reads (length machine.members) b (Err refused)) (same_bytes found fetched) none) in
        still r machine all part tells disks_tell gives asked (number_there, is_there, refl) (Err refused) (Err refused)
        Same (IsDone ∷ []) machine.post world.post [] (sym (append-nil machine.post.posts))
        (sym (append-nil all.post.posts)) machine.events all.events
        (Ends (Goes (Fetched fetched_there) (Says {result = Err refused} none_there)))
    give_steps result left
        (Goes {a = m} {left = last} (Goes (Fetched {bytes = found} fetched) (Says spelled)) handles) =
        let here : IsSpelled (length machine.members) bytes m =
        subst (λ (b : List ℕ). IsSpelled (length machine.members) b m) (same_bytes found fetched) spelled in
        handle_steps m here (mail.own m here) result last handles
