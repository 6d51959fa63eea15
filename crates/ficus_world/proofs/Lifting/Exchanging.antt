-- What an exchange of messages does to a world that stands for one of the model, it does to that one.
use Rattle.std.proofs.Common.{◌≡◌, ℕ, zero, suc, ◌+◌, ◌≤◌, List, [], ◌∷◌, ◌++◌, length, map, Result, Ok, Err, Some, refl, sym, ap, subst, ◌∙◌, inl, inr, arith}
use Rattle.std.specs.List.{range_with_len}
use Rattle.std.specs.Prelude.{All, sum_by}
use Rattle.std.proofs.lemmas.List.{length_push}
use Rattle.std.proofs.lemmas.List.Elements.{All-head, All-tail}
use Rattle.ficus_codec.specs.Formats.{tables_bytes}
use Rattle.ficus_formats.specs.Pieces.{piece_count}
use Rattle.ficus_ids.specs.Members.{IsMember}
use Rattle.ficus_ids.specs.declared.refusal.Refusal.{Refusal}
use Rattle.ficus_ids.specs.declared.refusal.Refusal.TheVariants as refusal
use Rattle.ficus_entry.specs.declared.entry.Entry.{Entry}
use Rattle.ficus_file.specs.declared.file.FileReplica.{FileReplica}
use Rattle.ficus_model.specs.declared.event.Event.{Event}
use Rattle.ficus_model.specs.declared.event.Event.TheVariants as event
use Rattle.ficus_model.specs.Events.{IsAt, through, generation_of}
use Rattle.ficus_model.specs.Lawful.{Volume, MayCome, MayServe}
use Rattle.ficus_laws.proofs.Positions.{at_end, at_more, at_within}
use Rattle.ficus_replica.specs.declared.replica.Replica.{Replica}
use Rattle.ficus_replica.specs.Accept.{IsServed}
use Rattle.ficus_replica.specs.SavedOf.{StandsFor}
use Rattle.ficus_replica.proofs.Asks.{asks_stands}
use Rattle.ficus_replica.proofs.Events.{quiet_stands}
use Rattle.ficus_replica.proofs.OpenAsks.{through_end, through_more}
use Rattle.ficus_rules.specs.Rule.{Gives}
use Rattle.ficus_script.specs.declared.answer.Answer.{Answer}
use Rattle.ficus_script.specs.declared.answer.Answer.TheVariants.{Done}
use Rattle.ficus_durable_state.specs.Tables.{FitsTables}
use Rattle.ficus_wire.specs.Message.{FitsMessage, message_bytes, messages_of_tables, piece_message, sizes_of}
use Rattle.ficus_wire.specs.declared.message.Message.{Message}
use Rattle.ficus_runs.specs.Actions.{GivesOnly, ModelAction, Wants, with_event, with_post, with_standing}
use Rattle.ficus_runs.specs.Actions.Adds.{Added}
use Rattle.ficus_runs.specs.Actions.Saves.{Saved, NotSaved}
use Rattle.ficus_runs.specs.Actions.Posts.{IsPosted as HasPosted, NotPosted}
use Rattle.ficus_runs.specs.Actions.Fetches.{Fetched, NotFetched}
use Rattle.ficus_runs.specs.Exchange.{total_limit, size_of, behind, Asks, Behind, AnAsk, APiece, Finds, Handles, GivesEach, GivesMail, GivesSome, IsServedNow, PostsEach, Served, mailed, receiver}
use Rattle.ficus_runs.specs.Exchange.LiesBehind.{IsAsk as LiesAnAsk, IsPiece as LiesAPiece}
use Rattle.ficus_runs.specs.Message.{IsMessageAt, IsSpelled}
use Rattle.ficus_runs.specs.Message.IsMessageAt.{IsAsk, IsPiece}
use Rattle.ficus_runs.specs.ModelWorld.{ModelWorld, IsUp}
use Rattle.ficus_runs.specs.ModelWorld as model
use Rattle.ficus_runs.specs.Numbered.{IsNumbered}
use Rattle.ficus_runs.specs.Outcome.{IsDone, IsSaved}
use Rattle.ficus_runs.specs.Peers.{ArePeers}
use Rattle.ficus_runs.specs.Sequence.{Effect, First}
use Rattle.ficus_runs.specs.Sequence.ByRule.{Says}
use Rattle.ficus_runs.specs.Sequence.First.{Ends, Goes}
use Rattle.ficus_world.specs.declared.exchange.Delivery.{Delivery}
use Rattle.ficus_opening.specs.declared.member.Member.{Member}
use Rattle.ficus_world.specs.declared.post.Behind.{Behind as Place}
use Rattle.ficus_world.specs.Causes.{AreCaused}
use Rattle.ficus_world.specs.Follows.{FollowsIn}
use Rattle.ficus_world.specs.Moves.{with_event as event_in, advanced, Sends, SendsAnswers, SendsEach, IsAsking, IsServing, ask_of, saved_then, HasRoomFor, KeepsAsk, answers_of, serve_of, ServesAsk, HandlesMessage, GivesMessage, GivesMessages, GivesSomeMessages}
use Rattle.ficus_world.specs.Moves.Sends.{Sent, NotSent}
use Rattle.ficus_world.specs.Moves.KeepsAsk.{NoPeers, AskerDown, NoRoomToAsk, NotAsked, Asked}
use Rattle.ficus_world.specs.Moves.FetchesBytes.{NoMail, NotFetched as NotFetchedIn, Fetched as FetchedIn}
use Rattle.ficus_world.specs.Moves.ServesAsk.{ServerDown, NoRoomToServe, Serves}
use Rattle.ficus_world.specs.Post.{Outbox, IsSent, AreFetched, lies_behind}
use Rattle.ficus_world.specs.World.{Whole, IsPosted, WorldStandsFor}
use Rattle.ficus_world.proofs.Lifting.Lifts.{one_stored, CutLifts, Lifts, cut_lifts, first_lifts, gives_lifts, nothing_lifts, stays}
use Rattle.ficus_runs.proofs.Numbers.{number_exists, number_once}
use Rattle.ficus_runs.proofs.Serving.{may_serve as serve_may_come}
use Rattle.ficus_world.proofs.Lifting.Outcomes.{steady_caused, one_caused, both_caused}
use Rattle.ficus_world.proofs.Sending.{ask_size}
use Rattle.ficus_world.proofs.Lifting.Spelling.{one_message}
use Rattle.ficus_world.proofs.Lifting.Pieces.{piece_follows}
use Rattle.ficus_world.proofs.Lifting.Standing.{Comes, member_of, member_from, replica_stands, raise, raised_length, up_in, up_from, saved_stands, unsaved_stands, served_stands, failed_stands, sent_stands}

-- behind a position stand these messages, from this index on, which may go between the members
abbrev pub AreMessagesAt : Volume → List Event → ℕ → ℕ → List Message → Type 0
AreMessagesAt volume H position index [] = Unit {0}
AreMessagesAt volume H position index (m ∷ more) =
    IsMessageAt volume H position index m × FitsMessage volume.members m
    × AreMessagesAt volume H position (index + 1) more

-- they are posted in the model where they are in the code
pub posts_follow : (tells : Type 0) (told : tells) (volume : Volume) (place position index : ℕ)
    (messages : List Message) (W : ModelWorld) (old : Whole) → WorldStandsFor volume W old
    → place + W.earlier ≡ position → AreMessagesAt volume W.events position index messages
    → (result : Result (Unit {0}) Refusal) (left : Effect Whole)
    → SendsEach tells place index (map message_bytes messages) old result left
    → FollowsIn volume W old (PostsEach position index (map size_of messages)) result left
posts_follow tells told volume place position index [] W old stands raises all result left (Says is) =
    stays volume W old stands (Says is)
posts_follow tells told volume place position index (m ∷ more) W old stands raises all result left
    (Ends (NotSent {post = post} failed)) = record {
      after = W;
      does = Ends NotPosted;
      caused = one_caused failed.rose failed.risen;
      stored = refl;
      stands = failed_stands volume W old stands post failed;
    }
posts_follow tells told volume place position index (m ∷ more) W old stands raises all result left
    (Goes {left = last} (Sent {number = number} {post = post} sent) sends) =
    let here : place + raise volume W old stands ≡ position = omega (arith, raises, stands.began) in
    let posted = sent_stands volume W old stands told place index position (size_of m) (message_bytes m) number post sent
    here m all.0 (record { fits = all.1; is = refl }) refl in
    let rest = posts_follow tells told volume place position (index + 1) more
    (with_post W (behind position index) (size_of m)) (record old { post = post }) posted raises all.2 result last
    sends in
    record {
      after = rest.after;
      does = Goes HasPosted rest.does;
      caused =
          both_caused (IsDone ∷ []) last.outcomes
          (subst (λ n. AreCaused old.post.faults n 0) (sym sent.faults) (steady_caused old.post.faults)) rest.caused;
      stored = rest.stored;
      stands = rest.stands;
    }

-- all pieces of what was served stand behind the Serve
pub pieces_stand : (volume : Volume) (H : List Event) (position : ℕ) {asker server number : ℕ} (state : ℕ)
    (entries : List Entry) (files : List FileReplica) (served : IsServed volume H asker server number entries files position)
    → state ≡ served.state → (index count : ℕ)
    → index + count ≡ piece_count (tables_bytes volume.members entries files)
    → All (FitsMessage volume.members)
    (map (piece_message server asker number state (tables_bytes volume.members entries files)) (range_with_len index count))
    → AreMessagesAt volume H position index
    (map (piece_message server asker number state (tables_bytes volume.members entries files)) (range_with_len index count))
pieces_stand volume H position state entries files served same index zero all fits = tt
pieces_stand volume H position {asker} {server} {number} state entries files served same index (suc count) all fits =
    let nth = piece_message server asker number state (tables_bytes volume.members entries files) in
    let more = map nth (range_with_len (index + 1) count) in (
      IsPiece served same (omega (arith, all)),
      All-head (FitsMessage volume.members) (nth index) more fits,
      pieces_stand volume H position state entries files served same (index + 1) count (omega (arith, all))
          (All-tail (FitsMessage volume.members) (nth index) more fits),
    )

module _ (tells : Type 0) (told : tells) (volume : Volume) (W : ModelWorld) (old : Whole)
    (stands : WorldStandsFor volume W old) where
  -- there is room in the model where there is in the code
  room_in : (size : ℕ) → HasRoomFor old size → W.total + size ≤ total_limit
  room_in size room = omega (arith, room, stands.total)

  full_in : (size : ℕ) → (HasRoomFor old size → ⊥) → W.total + size ≤ total_limit → ⊥
  full_in size full room = full (omega (arith, room, stands.total))

  same_posts : length old.post.posts ≡ length W.posted
  same_posts = stands.counted ∙ sym stands.posted

  -- the number of what is posted next
  next_number : {place : Place} {number : ℕ} {bytes : List ℕ} {post : Outbox} → IsSent tells old.post place bytes number post
      → length W.posted + 1 ≡ number
  next_number sent = ap (λ n. n + 1) (sym same_posts) ∙ sym sent.number_is

  -- what came is handled where its receiver is up
  abbrev HandlesUp : Behind → ModelAction Answer
  HandlesUp behind = First (Wants (IsUp (receiver behind)) refusal.Down) (λ up. Handles volume behind)

  module _ (by to : ℕ) where
    may_ask : ArePeers (length old.members) by to → MayCome volume W.events (event.Ask by to)
    may_ask peers = record {
      member = member_of volume W old stands by peers.first;
      other = member_of volume W old stands to peers.second;
      differ = peers.differ;
    }

    may_not_ask : (ArePeers (length old.members) by to → ⊥) → MayCome volume W.events (event.Ask by to) → ⊥
    may_not_ask none may =
        none (record {
          first = member_from volume W old stands by may.member;
          second = member_from volume W old stands to may.other;
          differ = may.differ;
        })

    module _ (was : Member) (asked : Replica) (asking : IsAsking old by to was asked) where
      abbrev ask : Message
      ask = ask_of by to asked

      -- it may come later too, and the member waits for an answer then
      comes : Comes volume W old stands by was asked asking.is asking.up (event.Ask by to) (event.Ask by to) refl refl refl
      comes later others lawful here = record {
        lawful = may_ask asking.peers;
        stands = asks_stands volume (W.events ++ later) by to was.replica asked here asking.gives;
      }

      waits : StandsFor volume (W.events ++ event.Ask by to ∷ []) by asked
      waits =
          asks_stands volume W.events by to was.replica asked (replica_stands volume W old stands by was asking.is)
          asking.gives

      ask_at : IsMessageAt volume (W.events ++ event.Ask by to ∷ []) (length W.events) 0 ask
      ask_at =
          IsAsk (at_end W.events (event.Ask by to))
          (waits.saved.generation ∙ ap (generation_of by) (sym (through_end W.events (event.Ask by to))))

      abbrev asked_model : ModelWorld
      asked_model = with_event W (event.Ask by to)

      abbrev asked_world : Whole
      asked_world = advanced old by was asked (event.Ask by to)

      asked_stand : WorldStandsFor volume asked_model asked_world
      asked_stand =
          saved_stands volume W old stands by was asked asking.is asking.up (event.Ask by to) (event.Ask by to) refl
          refl refl comes

      is_up : IsUp by W
      is_up = up_in volume W old stands by was asking.is asking.up

      follow_sending : HasRoomFor old (ask_size by to asked) → (result : Result ℕ Refusal) (left : Effect Whole)
          → Sends tells (lies_behind (length old.events) 0) (message_bytes ask) asked_world result left
          → FollowsIn volume W old (Asks volume by to) result (saved_then by left)
      follow_sending room result left (NotSent {post = post} failed) = record {
        after = asked_model;
        does =
            Goes (Says (may_ask asking.peers, refl))
            (Goes (Says (is_up, refl))
            (Goes (Says (ask, ask_at, refl)) (Goes (Says (room_in (size_of ask) room, refl)) (Goes Saved NotPosted))));
        caused = one_caused failed.rose failed.risen;
        stored = one_stored W.events old.events (event.Ask by to) (event.Ask by to);
        stands = failed_stands volume asked_model asked_world asked_stand post failed;
      }
      follow_sending room result left (Sent {number = number} {post = post} sent) =
          let after = with_post asked_model (behind (length W.events) 0) (size_of ask) in
          record {
            after = after;
            does =
                subst (λ n. Asks volume by to W (Ok n)
                (record { outcomes = IsSaved by ∷ IsDone ∷ []; after = after })) (next_number sent)
                (Goes (Says (may_ask asking.peers, refl))
                (Goes (Says (is_up, refl))
                (Goes (Says (ask, ask_at, refl))
                (Goes (Says (room_in (size_of ask) room, refl)) (Goes Saved HasPosted)))));
            caused = subst (λ n. AreCaused old.post.faults n 0) (sym sent.faults) (steady_caused old.post.faults);
            stored = one_stored W.events old.events (event.Ask by to) (event.Ask by to);
            stands =
                sent_stands volume asked_model asked_world asked_stand told (length old.events) 0 (length W.events)
                (size_of ask) (message_bytes ask) number post sent
                (omega (
                  arith,
                  raised_length volume asked_model asked_world asked_stand,
                  length_push old.events (event.Ask by to),
                  length_push W.events (event.Ask by to),
                )) ask ask_at
                (record { fits = subst (λ n. FitsMessage n ask) stands.members asking.fits; is = refl }) refl;
          }

    follow_ask : (result : Result ℕ Refusal) (left : Effect Whole) → KeepsAsk tells by to old result left
        → FollowsIn volume W old (Asks volume by to) result left
    follow_ask result left (NoPeers none) = stays volume W old stands (Ends (Says (inl (may_not_ask none, refl))))
    follow_ask result left (AskerDown {was = was} peers is down) =
        stays volume W old stands
        (Goes (Says (may_ask peers, refl))
        (Ends (Says (inl (λ up. down (up_from volume W old stands by was is up), refl)))))
    follow_ask result left (NoRoomToAsk {was = was} {asked = asked} asking full) =
        stays volume W old stands
        (Goes (Says (may_ask asking.peers, refl))
        (Goes (Says (is_up was asked asking, refl))
        (Goes (Says (ask_of by to asked, ask_at was asked asking, refl))
        (Ends (Says (inl (full_in (ask_size by to asked) full, refl)))))))
    follow_ask result left (NotAsked {was = was} {asked = asked} asking room) = record {
      after = with_standing W by (model.Down (Some (event.Ask by to)));
      does =
          Goes (Says (may_ask asking.peers, refl))
          (Goes (Says (is_up was asked asking, refl))
          (Goes (Says (ask_of by to asked, ask_at was asked asking, refl))
          (Goes (Says (room_in (ask_size by to asked) room, refl)) (Ends NotSaved))));
      caused = steady_caused old.post.faults;
      stored = refl;
      stands =
          unsaved_stands volume W old stands by was asked asking.is asking.up (event.Ask by to) (event.Ask by to) refl
          refl refl (comes was asked asking);
    }
    follow_ask result left (Asked {was = was} {asked = asked} {result = sent} {left = rest} asking room sending) =
        follow_sending was asked asking room sent rest sending

  -- a message, what lies behind it, and where that stands
  module _ (number position : ℕ) (place : Place) (lies : IsNumbered old.post.behind number place)
      (raises : place.position + raise volume W old stands ≡ position)
      (numbered : IsNumbered W.posted number (behind position place.index)) where
    place_is : {other : Place} → IsNumbered old.post.behind number other
        → other.position + raise volume W old stands ≡ position
    place_is other_is = ap (λ (p : Place). p.position + raise volume W old stands) (number_once other_is lies) ∙ raises

    -- an ask that came is served
    module _ (asker server asked_with : ℕ) (at : IsAt W.events position (event.Ask asker server))
        (counted : asked_with ≡ generation_of asker (through position W.events)) where
      abbrev came : Delivery
      came = record { mail = number; from = asker; to = server; ask = asked_with }

      module _ (peer : Member) (serving : IsServing old came peer) where
        abbrev entries : List Entry
        entries = peer.replica.saved.entries

        abbrev files : List FileReplica
        files = peer.replica.saved.files

        abbrev state_served : ℕ
        state_served = peer.replica.saved.generation

        -- in the model the same is served
        abbrev messages : List Message
        messages = messages_of_tables server asker asked_with state_served (tables_bytes volume.members entries files)

        same_messages : answers_of old came peer ≡ messages
        same_messages =
            ap (λ n. messages_of_tables server asker asked_with state_served (tables_bytes n entries files))
            stands.members

        abbrev served : Served
        served = record { state = state_served; messages = messages }

        here : StandsFor volume W.events server peer.replica
        here = replica_stands volume W old stands server peer serving.is

        since : W.earlier ≤ position
        since = omega (arith, raises, stands.began)

        allowed : MayServe volume W.events server position state_served (length messages)
        allowed =
            subst (λ n. MayServe volume W.events server position state_served
            (length (messages_of_tables server asker n state_served (tables_bytes volume.members entries files)))) (sym counted)
            (serve_may_come volume W stands.lawful stands.run.serves server asker position since at peer.replica.saved
            here.saved)

        served_now : IsServedNow volume W.events server position served
        served_now = record {
          asker = asker;
          asked = at;
          saved = peer.replica.saved;
          is = here.saved;
          state = refl;
          messages =
              ap (λ n. messages_of_tables server asker n state_served (tables_bytes volume.members entries files))
              counted;
          may = allowed;
        }

        up : IsUp server W
        up = up_in volume W old stands server peer serving.is serving.up

        sized : sizes_of (answers_of old came peer) ≡ sum_by size_of messages
        sized = ap (λ (list : List Message). sizes_of list) same_messages

        -- it happens, and then it is posted
        module _ (asked : Place) (asked_is : IsNumbered old.post.behind number asked)
            (room : HasRoomFor old (sizes_of (answers_of old came peer)))
            (fits : All (FitsMessage (length old.members)) (answers_of old came peer)) where
          abbrev serve : Event
          serve = event.Serve server position state_served (length messages)

          abbrev stored_serve : Event
          stored_serve = serve_of old came peer asked

          serve_raises : event.Serve server (asked.position + raise volume W old stands) state_served
              (length (answers_of old came peer)) ≡ serve
          serve_raises =
              ap (λ n. event.Serve server n state_served (length (answers_of old came peer))) (place_is asked_is)
              ∙ ap (λ (list : List Message). event.Serve server position state_served (length list)) same_messages

          abbrev served_model : ModelWorld
          served_model = with_event W serve

          abbrev served_world : Whole
          served_world = event_in old stored_serve

          served_stand : WorldStandsFor volume served_model served_world
          served_stand =
              served_stands volume W old stands server position stored_serve peer served serving.is serving.up
              serve_raises served_now
              (subst (λ n. FitsTables n peer.replica.saved.entries peer.replica.saved.files) stands.members serving.fits)

          after_serve : StandsFor volume (through (length W.events) served_model.events) server peer.replica
          after_serve =
              subst (λ K. StandsFor volume K server peer.replica) (sym (through_end W.events serve))
              (quiet_stands volume W.events server peer.replica serve here (inr tt))

          is_served : IsServed volume served_model.events asker server asked_with entries files (length W.events)
          is_served = record {
            ask = position;
            state = state_served;
            pieces = length messages;
            asked = at_more (serve ∷ []) at;
            served = at_end W.events serve;
            numbered = counted ∙ ap (generation_of asker) (through_more W.events serve position (at_within at));
            held = after_serve.saved.entries;
            held_files = after_serve.saved.files;
          }

          all_fit : All (FitsMessage volume.members) messages
          all_fit =
              subst (λ n. All (FitsMessage n) messages) stands.members
              (subst (λ (list : List Message). All (FitsMessage (length old.members)) list) same_messages fits)

          all_stand : AreMessagesAt volume served_model.events (length W.events) 0 messages
          unfolding is_served
          all_stand =
              pieces_stand volume served_model.events (length W.events) state_served entries files is_served refl 0
              (piece_count (tables_bytes volume.members entries files)) (omega arith) all_fit

          -- the posts follow
          posted : (result : Result (Unit {0}) Refusal) (left : Effect Whole)
              → SendsEach tells (length old.events) 0 (map message_bytes (answers_of old came peer)) served_world result
              left → FollowsIn volume served_model served_world (PostsEach (length W.events) 0 (map size_of messages))
              result left
          posted result left sends =
              posts_follow tells told volume (length old.events) (length W.events) 0 messages served_model served_world
              served_stand
              (omega (arith, raised_length volume W old stands, stands.began)) all_stand result left
              (subst (λ (list : List Message).
              SendsEach tells (length old.events) 0 (map message_bytes list) served_world result left) same_messages
              sends)

          -- before them all else was done
          serve_begins : {result : Result Answer Refusal} {left : Effect ModelWorld}
              → First (PostsEach (length W.events) 0 (map size_of messages))
              (λ posted. GivesOnly (mailed (length W.posted + 1) (length messages))) served_model result left
              → HandlesUp (AnAsk position server) W result left
          serve_begins posts =
              Goes (Says (up, refl))
              (Goes (Says (served, served_now, refl))
              (Goes (Says (room_in _ (subst (HasRoomFor old) sized room), refl)) (Goes Added (Goes (Says refl) posts))))

          follow_served : (result : Result Answer Refusal) (left : Effect Whole)
              → SendsAnswers tells old (answers_of old came peer) served_world result left
              → FollowsIn volume W old (HandlesUp (AnAsk position server)) result left
          follow_served result left (Ends {refusal = r} sends) =
              let follows = posted (Err r) left sends in
              record {
                after = follows.after;
                does = serve_begins (Ends follows.does);
                caused = follows.caused;
                stored = omega (arith, follows.stored, one_stored W.events old.events serve stored_serve);
                stands = follows.stands;
              }
          follow_served result left (Goes {a = a} {middle = middle} sends (Says is)) =
              let follows = posted (Ok a) middle sends in
              let first : length old.post.posts + 1 ≡ length W.posted + 1 = ap (λ n. n + 1) same_posts in
              let told_as = subst (λ (list : List Message).
              Gives (mailed (length old.post.posts + 1) (length list)) result) same_messages is in
              record {
                after = follows.after;
                does =
                    serve_begins
                    (Goes follows.does (Says (subst (λ n. Gives (mailed n (length messages)) result) first told_as)));
                caused =
                    both_caused middle.outcomes [] follows.caused (steady_caused middle.after.post.faults);
                stored = omega (arith, follows.stored, one_stored W.events old.events serve stored_serve);
                stands = follows.stands;
              }

      -- where the receiver is up, it handles what came; else it is refused
      follow_serving : (result : Result Answer Refusal) (left : Effect Whole) → ServesAsk tells came old result left
          → FollowsIn volume W old (HandlesUp (AnAsk position server)) result left
      follow_serving result left (ServerDown {peer = peer} is down) =
          stays volume W old stands
          (Ends (Says (inl (λ up. down (up_from volume W old stands server peer is up), refl))))
      follow_serving result left (NoRoomToServe {peer = peer} serving full) =
          stays volume W old stands
          (Goes (Says (up peer serving, refl))
          (Goes (Says (served peer serving, served_now peer serving, refl))
          (Ends (Says (inl (
            full_in _ (λ room. full (subst (HasRoomFor old) (sym (sized peer serving)) room)),
            refl,
          ))))))
      follow_serving result left (Serves {peer = peer} {asked = asked} {left = last} serving asked_is room fits sends) =
          follow_served peer serving asked asked_is room fits result last sends

    -- what came is handled
    follow_handling : (index : ℕ) → index ≡ place.index → (m : Message) → IsMessageAt volume W.events position index m
        → (result : Result Answer Refusal) (left : Effect Whole) → HandlesMessage tells number m old result left
        → FollowsIn volume W old (First (Finds number) HandlesUp) result left
    follow_handling index same m (IsAsk {asker = asker} {server = server} {number = asked_with} at counted) result left
        handles =
        let follows = follow_serving asker server asked_with at counted result left handles in
        record {
          after = follows.after;
          does = Goes (Says (AnAsk position server, LiesAnAsk numbered at, refl)) follows.does;
          caused = follows.caused;
          stored = follows.stored;
          stands = follows.stands;
        }
    follow_handling index same m
        (IsPiece {asker = asker} {server = server} {number = asked_with} {state = served_state} {entries = entries}
        {files = files} served state_is within) result left handles =
        let follows = piece_follows volume W old stands number position place lies raises asker server asked_with
        served_state index entries files served state_is within result left handles in
        record {
          after = follows.after;
          does =
              Goes (Says (
                APiece position asker index served.pieces,
                LiesAPiece (subst (λ n. IsNumbered W.posted number (behind position n)) (sym same) numbered)
                    served.served served.asked,
                refl,
              )) follows.does;
          caused = follows.caused;
          stored = follows.stored;
          stands = follows.stands;
        }

  -- a message is given
  module _ (number : ℕ) where
    some_posted : IsMember (length old.post.posts) number → IsMember (length W.posted) number
    some_posted some = subst (λ n. IsMember n number) same_posts some

    module _ (bytes : List ℕ) (fetched : AreFetched tells old.post.posts number bytes) where
      found : (place : Place) × IsNumbered old.post.behind number place
      found = number_exists old.post.behind number (subst (λ n. IsMember n number) stands.counted fetched.some)

      posted_so : IsPosted volume W number (found.0.position + raise volume W old stands) found.0.index bytes
      posted_so = stands.mail number found.0 bytes found.1 (fetched.told told)

      -- what the bytes spell is the message behind the position
      reads : (m : Message) → IsSpelled (length old.members) bytes m → m ≡ posted_so.message
      reads m spelled =
          let fits = subst (λ n. FitsMessage n m) stands.members spelled.fits in
          one_message volume.members m posted_so.message fits posted_so.spelled.fits
          (sym spelled.is ∙ posted_so.spelled.is)

      spells : IsSpelled (length old.members) bytes posted_so.message
      spells = subst (λ n. IsSpelled n bytes posted_so.message) (sym stands.members) posted_so.spelled

    follow_give : (result : Result Answer Refusal) (left : Effect Whole) → GivesMessage tells number old result left
        → FollowsIn volume W old (GivesMail volume number) result left
    follow_give result left (Ends (Ends (NoMail none))) =
        stays volume W old stands
        (Ends (Says (inl (λ some. none (subst (λ n. IsMember n number) (sym same_posts) some), refl))))
    follow_give result left (Ends (Ends (NotFetchedIn {post = post} some failed))) = record {
      after = W;
      does = Goes (Says (some_posted some, refl)) (Ends NotFetched);
      caused = one_caused failed.rose failed.risen;
      stored = refl;
      stands = failed_stands volume W old stands post failed;
    }
    -- each message is read
    follow_give result left (Ends (Goes (FetchedIn {bytes = bytes} fetched) (Says {result = Err refusal.BadMessage} none))) =
        absurd (none (posted_so bytes fetched).message (spells bytes fetched))
    follow_give result left (Ends (Goes (FetchedIn {bytes = bytes} fetched) (Says {result = Err other} none))) =
        absurd none
    follow_give result left (Goes {a = m} {left = last} (Goes (FetchedIn {bytes = bytes} fetched) (Says spelled)) handles) =
        let is = posted_so bytes fetched in
        let place = found bytes fetched in
        let position = place.0.position + raise volume W old stands in
        let follows = follow_handling number position place.0 place.1 refl is.numbered place.0.index refl m
        (subst (IsMessageAt volume W.events position place.0.index) (sym (reads bytes fetched m spelled)) is.is) result
        last handles in
        record {
          after = follows.after;
          does = Goes (Says (some_posted fetched.some, refl)) (Goes Fetched follows.does);
          caused = both_caused (IsDone ∷ []) last.outcomes (steady_caused old.post.faults) follows.caused;
          stored = follows.stored;
          stands = follows.stands;
        }

module _ (tells : Type 0) (told : tells) (volume : Volume) where
  pub ask_lifts : (by to : ℕ) → Lifts volume (KeepsAsk tells by to) (Asks volume by to)
  ask_lifts by to W old stands result left keeps = follow_ask tells told volume W old stands by to result left keeps

  pub give_lifts : (number : ℕ) → Lifts volume (GivesMessage tells number) (GivesMail volume number)
  give_lifts number W old stands result left gives = follow_give tells told volume W old stands number result left gives

  pub gives_each_lift : (numbers : List ℕ) → Lifts volume (GivesMessages tells numbers) (GivesEach volume numbers)
  gives_each_lift [] = gives_lifts volume Done
  gives_each_lift (number ∷ numbers) = first_lifts volume (give_lifts number) (λ given. gives_each_lift numbers)

  pub gives_some_lift : (numbers : List ℕ) → CutLifts volume (GivesSomeMessages tells numbers) (GivesSome volume numbers)
  gives_some_lift [] = nothing_lifts volume
  gives_some_lift (number ∷ numbers) =
      cut_lifts volume (give_lifts number) (nothing_lifts volume) (λ given. gives_some_lift numbers)
