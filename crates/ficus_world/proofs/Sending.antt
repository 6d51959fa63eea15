-- What the code of an exchange does moves the world as its action does.
use Rattle.std.proofs.Common.{Bool, None, Option, Some, zero, suc, ◌≡◌, ◌≢◌, ◌⊎◌, ℕ, ◌+◌, ◌-◌, ◌^◌, ◌<◌, ◌≤◌, if◌then◌else◌, List, [], ◌∷◌, ◌++◌, get_or, length, map, Result, Ok, Err, refl, sym, ap, ap₂, subst, ◌∙◌, inl, inr, arith}
use Rattle.std.specs.Prelude.{All, IfNone, IfOk, IfSome, OnErr, ok_or, sum_by}
use Rattle.std.specs.List.{range_with_len}
use Rattle.std.proofs.lemmas.Bool.{cases_eq, ne_eqb}
use Rattle.std.proofs.lemmas.List.{length-map, length_push}
use Rattle.std.proofs.lemmas.List.Elements.{All-map}
use Rattle.std.proofs.lemmas.List.FromFn.{get_or-map-range_with_len, length-map-range_with_len, length-range_with_len}
use Rattle.std.proofs.lemmas.List.Sums.{sum_by-cons}
use Rattle.ficus_ids.specs.Members.{IsMember}
use Rattle.ficus_ids.specs.declared.refusal.Refusal.{Refusal}
use Rattle.ficus_ids.specs.declared.refusal.Refusal.TheVariants as refusal
use Rattle.ficus_keeper.specs.declared.keep.Keep.{Ghosts as Keep}
use Rattle.ficus_codec.specs.Formats.{tables_bytes}
use Rattle.ficus_entry.specs.declared.entry.Entry.{Entry}
use Rattle.ficus_file.specs.declared.file.FileReplica.{FileReplica}
use Rattle.ficus_formats.specs.Pieces.{piece_at, piece_count}
use Rattle.ficus_formats.proofs.Joining.{has_size}
use Rattle.ficus_model.specs.declared.event.Event.{Event}
use Rattle.ficus_model.specs.declared.event.Event.TheVariants as event
use Rattle.ficus_replica.specs.declared.replica.Replica.{Replica}
use Rattle.ficus_durable_state.specs.Tables.{FitsTables}
use Rattle.ficus_script.specs.declared.answer.Answer.{Answer}
use Rattle.ficus_script.specs.declared.answer.Answer.TheVariants.{Mail, Mails}
use Rattle.ficus_wire.specs.Message.{FitsMessage, IsRoute, message_bytes, message_of, messages_of_tables, piece_limit, piece_message, piece_of, sizes_of, way}
use Rattle.ficus_wire.specs.declared.message.Letter.{Letter}
use Rattle.ficus_wire.specs.declared.message.Message.{Message}
use Rattle.ficus_wire.specs.declared.message.Message.TheVariants as message
use Rattle.ficus_wire.specs.declared.message.PieceHead.{PieceHead}
use Rattle.ficus_wire.specs.declared.message.Route.{Route}
use Rattle.ficus_wire.proofs.Sizes.{all_sizes}
use Rattle.ficus_world.specs.declared.exchange.Delivery.{Delivery}
use Rattle.ficus_opening.specs.declared.member.Member.{Member}
use Rattle.ficus_world.specs.declared.post.Behind.{Behind}
use Rattle.ficus_runs.specs.Answers.{OrMemory}
use Rattle.ficus_runs.specs.Message.{Reads}
use Rattle.ficus_runs.specs.Exchange.{mailed, mails_of, total_limit}
use Rattle.ficus_runs.specs.Outcome.{IsDone, IsSaved, LinkFails, SaveFails}
use Rattle.ficus_runs.specs.Sequence.{ByRule, Effect, unchanged}
use Rattle.ficus_runs.specs.Sequence.ByRule.{Says}
use Rattle.ficus_runs.specs.Sequence.First.{Ends, Goes}
use Rattle.ficus_world.specs.Disks.{Carried, CarriedOn, DisksComeTo}
use Rattle.ficus_disk.specs.declared.disk.Disk.{Ghosts as Disk}
use Rattle.ficus_disk.specs.declared.pair.Pair.{Pair}
use Rattle.ficus_world.specs.Moves.{FetchesBytes, FetchesMail, GivesMessage, HandlesMessage, HasRoomFor, IsAsking, IsServing, KeepsAsk, Sends, SendsEach, ServesAsk, WholeAction, advanced, answers_of, ask_of, downed, messages_read, pending_of, serve_of, tables_in, TakesFitting, TakesPiece, TakesSpelled, TakesTables, with_event, with_post}
use Rattle.ficus_world.specs.Moves.FetchesBytes.{Fetched, NoMail, NotFetched}
use Rattle.ficus_world.specs.Moves.KeepsAsk.{Asked, NoRoomToAsk, NotAsked}
use Rattle.ficus_world.specs.Moves.Sends.{Sent, NotSent}
use Rattle.ficus_world.specs.Moves.FindsTaker.{FindsIt}
use Rattle.ficus_world.specs.Moves.ServesAsk.{NoRoomToServe, ServerDown, Serves}
use Rattle.ficus_world.specs.Moves.TakesFitting.{IsHeld, IsOneMore, IsTheLast}
use Rattle.ficus_world.specs.Moves.TakesSpelled.{SpellsNone, SpellsTables}
use Rattle.ficus_world.specs.Moves.TakesTables.{Refuses, Takes, TakesNot}
use Rattle.ficus_runs.specs.Numbered.{IsNumbered}
use Rattle.ficus_runs.proofs.Serving.{some_pieces}
use Rattle.ficus_world.specs.Post.{Outbox, IsSent, HasFailed, lies_behind}
use Rattle.ficus_world.specs.World.{Backed, IsSound, IsWorld, Whole, smallest_message, whole_of}
use Rattle.ficus_world.proofs.Carrying.{AreQuiet, carried_first, carried_none, carried_then, goes_on, or_memory, quiet_carried, quiet_done, quiet_failure, quiet_follows, quiet_fuses, quiet_none, quiet_then, whole_is}
use Rattle.ficus_world.proofs.Disks.{follows_then}
use Rattle.ficus_world.proofs.Fuses.{fuses_then}
use Rattle.ficus_world.proofs.SoundWorlds.{AreCounted, counted_in, each_counted, more_stored, plain_with, world_posted}

-- where room was taken the world is as it was
pub as_reserved : (members : List Member) {events stored : List Event} {post posted : Outbox} → stored ≡ events
    → posted ≡ post → whole_of members stored posted ≡ whole_of members events post
as_reserved members e p = ap₂ (λ (stored : List Event) (posted : Outbox). whole_of members stored posted) e p

-- each message has as many bytes at least as the smallest
pub some_bytes : (m : Message) → smallest_message ≤ length (message_bytes m)
some_bytes (message.Ask from to number) = omega arith
some_bytes (message.Piece from to number state pieces index bytes) = omega arith

pub all_some : (messages : List Message) → All (λ bytes. smallest_message ≤ length bytes) (map message_bytes messages)
all_some messages =
    All-map (λ bytes. smallest_message ≤ length bytes) message_bytes messages
    (λ index default below. some_bytes (get_or messages index default))

-- their bytes are as many as those of the messages
pub sum_sizes : (messages : List Message) → sum_by length (map message_bytes messages) ≡ sizes_of messages
sum_sizes [] = refl
sum_sizes (m ∷ more) =
    sum_by-cons length (message_bytes m) (map message_bytes more)
    ∙ ap (λ n. length (message_bytes m) + n) (sum_sizes more)
    ∙ sym (sum_by-cons (λ (m : Message). length (message_bytes m)) m more)

-- an answer for which there is room has no more pieces than a message may tell of
pub few_pieces : (server asker number state : ℕ) (tables : List ℕ)
    → sizes_of (messages_of_tables server asker number state tables) ≤ total_limit → piece_count tables ≤ piece_limit
few_pieces server asker number state tables room = omega (arith, all_sizes server asker number state tables, room)

-- and its messages may go between the members
pub answers_fit : (members server asker number state : ℕ) (tables : List ℕ) → IsRoute members (way server asker number)
    → state < 2 ^ 64 → sizes_of (messages_of_tables server asker number state tables) ≤ total_limit
    → All (FitsMessage members) (messages_of_tables server asker number state tables)
answers_fit members server asker number state tables route small room = λ index default below.
    let nth : ℕ → Message = piece_message server asker number state tables in
    let within : index < piece_count tables =
    omega (arith, below, length-map-range_with_len nth 0 (piece_count tables)) in
    subst (FitsMessage members)
    (sym (get_or-map-range_with_len nth 0 (piece_count tables) index index default within (omega arith)))
    (record {
      head = record {
        route = route;
        state = small;
        index = within;
        most = few_pieces server asker number state tables room;
      };
      size = has_size tables index within;
    })

-- the message of the piece with this index, as the code spells it
abbrev pub spelled_piece : PieceHead → List ℕ → ℕ → List ℕ
spelled_piece head tables index = message_bytes (piece_of (record head { index = index }) (piece_at tables index))

-- what the code spells is the spelling of each piece in its message
pub pieces_spelled : (head : PieceHead) (tables : List ℕ) → head.pieces ≡ piece_count tables → (first count : ℕ)
    → map (λ (index : ℕ). message_bytes (piece_of (record head { index = index }) (piece_at tables index)))
    (range_with_len first count)
    ≡ map message_bytes
    (map (piece_message head.route.from head.route.to head.route.number head.state tables) (range_with_len first count))
pieces_spelled head tables counted first zero = refl
pieces_spelled head tables counted first (suc count) =
    let here = ap (λ n. message_bytes (message.Piece head.route.from head.route.to head.route.number head.state n first
    (piece_at tables first))) counted in
    ap₂ (λ (bytes : List ℕ) (more : List (List ℕ)). bytes ∷ more) here
    (pieces_spelled head tables counted (first + 1) count)

-- what a sound member holds fits tables
pub fits_tables : {count events r : ℕ} {replica : Replica} → IsSound count events r replica
    → FitsTables count replica.saved.entries replica.saved.files
fits_tables {replica = replica} sound =
    subst (λ n. FitsTables n replica.saved.entries replica.saved.files) sound.members sound.fits.tables

-- what a member serves, by the spelling of its tables
module _ (old : Whole) (came : Delivery) (peer : Member) (members : peer.replica.saved.members ≡ length old.members)
    (tables : List ℕ)
    (is : tables ≡ tables_bytes peer.replica.saved.members peer.replica.saved.entries peer.replica.saved.files) where
  same_tables : tables ≡ tables_in old peer
  same_tables = is ∙ ap (λ n. tables_bytes n peer.replica.saved.entries peer.replica.saved.files) members

  same_answers : messages_of_tables came.to came.from came.ask peer.replica.saved.generation tables
      ≡ answers_of old came peer
  same_answers =
      ap (λ (bytes : List ℕ). messages_of_tables came.to came.from came.ask peer.replica.saved.generation bytes)
      same_tables

  -- how long its messages are
  pub answers_size : (size : ℕ)
      → ((server asker number state : ℕ) → size ≡ sizes_of (messages_of_tables server asker number state tables))
      → size ≡ sizes_of (answers_of old came peer)
  answers_size size is =
      is came.to came.from came.ask peer.replica.saved.generation
      ∙ ap (λ (list : List Message). sizes_of list) same_answers

  -- how they are spelled
  pub answers_spelled : (head : PieceHead) → head.pieces ≡ piece_count tables
      → head.route ≡ way came.to came.from came.ask → head.state ≡ peer.replica.saved.generation
      → map (λ (index : ℕ). message_bytes (piece_of (record head { index = index }) (piece_at tables index)))
      (range_with_len 0 head.pieces) ≡ map message_bytes (answers_of old came peer)
  answers_spelled head pieces route state =
      ap (λ n. map (λ (index : ℕ). message_bytes (piece_of (record head { index = index }) (piece_at tables index)))
      (range_with_len 0 n)) pieces
      ∙ pieces_spelled head tables pieces 0 (piece_count tables)
      ∙ ap (λ (w : Route). map message_bytes (map (piece_message w.from w.to w.number head.state tables)
      (range_with_len 0 (piece_count tables)))) route
      ∙ ap (λ n. map message_bytes (messages_of_tables came.to came.from came.ask n tables)) state
      ∙ ap (λ (list : List Message). map message_bytes list) same_answers

  -- and that they may go between the members
  pub answers_may_go : IsRoute (length old.members) (way came.from came.to came.ask)
      → peer.replica.saved.generation < 2 ^ 64 → HasRoomFor old (sizes_of (answers_of old came peer))
      → All (FitsMessage (length old.members)) (answers_of old came peer)
  answers_may_go route small room =
      answers_fit (length old.members) came.to came.from came.ask peer.replica.saved.generation (tables_in old peer)
      (record { from = route.to; to = route.from; differ = λ same. route.differ (sym same); number = route.number }) small
      (omega (arith, room))

-- how many messages it has
module _ (old : Whole) (came : Delivery) (peer : Member) where
  answers_count : length (answers_of old came peer) ≡ piece_count (tables_in old peer)
  answers_count =
      length-map-range_with_len
      (piece_message came.to came.from came.ask peer.replica.saved.generation (tables_in old peer)) 0
      (piece_count (tables_in old peer))

  pub answers_some : 1 ≤ length (answers_of old came peer)
  answers_some =
      omega (
        arith,
        answers_count,
        some_pieces (length old.members) peer.replica.saved.entries peer.replica.saved.files,
      )

  pub answers_few : HasRoomFor old (sizes_of (answers_of old came peer))
      → length (answers_of old came peer) ≤ piece_limit
  answers_few room =
      omega (
        arith,
        answers_count,
        few_pieces came.to came.from came.ask peer.replica.saved.generation (tables_in old peer) (omega (arith, room)),
      )

  module _ (messages : List (List ℕ)) (is : messages ≡ map message_bytes (answers_of old came peer)) where
    pub spelled_count : length messages ≡ length (answers_of old came peer)
    spelled_count =
        ap (λ (list : List (List ℕ)). length list) is ∙ length-map (answers_of old came peer) message_bytes

    pub spelled_size : sum_by length messages ≡ sizes_of (answers_of old came peer)
    spelled_size = ap (λ (list : List (List ℕ)). sum_by length list) is ∙ sum_sizes (answers_of old came peer)

-- the answer to a give of an ask tells of as many messages as were posted
pub mails_are : (first count : ℕ) → 1 ≤ first → mails_of (mailed first count) ≡ range_with_len first count
mails_are first count some = go (cases_eq count 1)
  where
    go : (count ≡ 1) ⊎ (count ≢ 1) → mails_of (mailed first count) ≡ range_with_len first count
    go (inl single) = subst (λ n. mails_of (mailed first n) ≡ range_with_len first n) (sym single) refl
    go (inr several) =
        let counted : first + count - 1 + 1 - first ≡ count = omega (arith, some) in
        ap (λ (test : Bool). mails_of (if test then Mail first else Mails first (first + count - 1)))
        (ne_eqb count 1 several) ∙ ap (range_with_len first) counted

pub mails_count : (first count : ℕ) → 1 ≤ first → length (mails_of (mailed first count)) ≡ count
mails_count first count some =
    ap (λ (numbers : List ℕ). length numbers) (mails_are first count some) ∙ length-range_with_len first count

-- what a fetch, a post, or the serving of an ask asks of the outside, it asks of the link
pub fetches_quiet : {tells : Type 0} {number : ℕ} {old : Whole} {result : Result (List ℕ) Refusal}
    {left : Effect Whole} → FetchesBytes tells number old result left → AreQuiet left.outcomes
fetches_quiet (NoMail none) = quiet_none
fetches_quiet (NotFetched some failed) = quiet_failure
fetches_quiet (Fetched fetched) = quiet_done

pub sends_quiet : (tells : Type 0) (position index : ℕ) (messages : List (List ℕ)) (old : Whole)
    (result : Result (Unit {0}) Refusal) (left : Effect Whole) → SendsEach tells position index messages old result left
    → AreQuiet left.outcomes
sends_quiet tells position index [] old result left (Says is) = quiet_none
sends_quiet tells position index (bytes ∷ more) old result left (Ends (NotSent failed)) = quiet_failure
sends_quiet tells position index (bytes ∷ more) old result left (Goes {left = last} (Sent {post = post} sent) sends) =
    quiet_then quiet_done
    (sends_quiet tells position (index + 1) more (record old { post = post }) result last sends)

pub serves_quiet : {tells : Type 0} {came : Delivery} {old : Whole} {result : Result Answer Refusal}
    {left : Effect Whole} → ServesAsk tells came old result left → AreQuiet left.outcomes
serves_quiet (ServerDown is down) = quiet_none
serves_quiet (NoRoomToServe serving full) = quiet_none
serves_quiet {tells} {came} {old} {left = left}
    (Serves {peer = peer} {asked = asked} serving place room fits (Ends {refusal = r} sends)) =
    sends_quiet tells (length old.events) 0 (map message_bytes (answers_of old came peer))
    (with_event old (serve_of old came peer asked)) (Err r) left sends
serves_quiet {tells} {came} {old}
    (Serves {peer = peer} {asked = asked} serving place room fits (Goes {a = a} {middle = middle} sends (Says is))) =
    quiet_then (sends_quiet tells (length old.events) 0 (map message_bytes (answers_of old came peer))
    (with_event old (serve_of old came peer asked)) (Ok a) middle sends) quiet_none

-- refused, in place of nothing
abbrev pub refused : Refusal → Result (Unit {0}) Refusal
refused r = Err r

-- how long the message of an ask is
abbrev pub ask_size : ℕ → ℕ → Replica → ℕ
ask_size by to asked = length (message_bytes (ask_of by to asked))

-- an ask that isn't saved
module _ {K D : Type 0} {keep : Keep K} {disk : Disk D} (tells : Type 0) (old : Whole) (by to : ℕ) (was : Member)
    (asked : Replica) (asking : IsAsking old by to was asked) (x y : List (Pair D))
    (ready : DisksComeTo keep disk [] old.members old.members x y) where
  -- there is no room for its message, or memory was refused
  pub unready : (size : ℕ) → size ≡ ask_size by to asked → (r : Refusal)
      → (refused r ≢ refused refusal.Memory
      → (refused r ≡ refused refusal.LinkFull) × (old.post.total + size ≤ total_limit → ⊥))
      → CarriedOn keep disk (KeepsAsk tells by to) (Err r) old old x y
  unready size sized refusal.Memory full = record { outcomes = []; does = tt; disks = ready.disks; fuses = tt }
  unready size sized refusal.LinkFull full = record {
    outcomes = [];
    does = NoRoomToAsk asking (λ room. (full (λ e. cc)).1 (omega (arith, sized, room)));
    disks = ready.disks;
    fuses = ready.fuses;
  }
  unready size sized r full = let e = (full (λ e. cc)).0 in absurd (cc)

  -- or the disks failed
  pub unsaved : HasRoomFor old (ask_size by to asked) → (z : List (Pair D)) → (r : Refusal)
      → refused r ≡ refused refusal.Store
      → DisksComeTo keep disk (SaveFails by ∷ []) old.members
      (downed old by was (Some (pending_of asked (event.Ask by to)))).members y z
      → CarriedOn keep disk (KeepsAsk tells by to) (Err r) old
      (downed old by was (Some (pending_of asked (event.Ask by to)))) x z
  unsaved room z refusal.Store store fails = record {
    outcomes = SaveFails by ∷ [];
    does = NotAsked asking room;
    disks = follows_then ready.disks fails.disks;
    fuses = fuses_then ready.fuses fails.fuses;
  }
  unsaved room z r store fails = absurd (cc)

module _ (tells : Type 0) (old : Whole) (by to : ℕ) (was : Member) (asked : Replica)
    (asking : IsAsking old by to was asked) (room : HasRoomFor old (ask_size by to asked)) (post : Outbox) where
  -- the members once it has asked
  abbrev members : List Member
  members = (advanced old by was asked (event.Ask by to)).members

  -- the ask that is saved is kept, whether it is sent or not
  pub ask_sent : {K D : Type 0} {keep : Keep K} {disk : Disk D} (x y : List (Pair D))
      → DisksComeTo keep disk (IsSaved by ∷ []) old.members members x y
      → (result : Result ℕ Refusal)
      → IfOk result (λ n. IsSent tells old.post (lies_behind (length old.events) 0) (message_bytes (ask_of by to asked)) n post)
      → OnErr result (HasFailed old.post post) → OnErr result (result ≡ Err refusal.Link)
      → CarriedOn keep disk (KeepsAsk tells by to) result old
      (with_post (advanced old by was asked (event.Ask by to)) post) x y
  ask_sent x y saves (Ok n) sent failed link = record {
    outcomes = IsSaved by ∷ IsDone ∷ [];
    does = Asked asking room (Sent sent);
    disks = follows_then saves.disks (quiet_follows y quiet_done);
    fuses = fuses_then saves.fuses (quiet_fuses y quiet_done refl);
  }
  ask_sent x y saves (Err refusal.Link) sent failed link = record {
    outcomes = IsSaved by ∷ LinkFails ∷ [];
    does = Asked asking room (NotSent failed);
    disks = follows_then saves.disks (quiet_follows y quiet_failure);
    fuses = fuses_then saves.fuses (quiet_fuses y quiet_failure refl);
  }
  ask_sent x y saves (Err other) sent failed link = absurd (cc)

-- an ask that is served, whose answer is posted whole or in part
module _ (tells : Type 0) (old : Whole) (came : Delivery) (peer : Member) (asked : Behind)
    (serving : IsServing old came peer) (place : IsNumbered old.post.behind came.mail asked)
    (room : HasRoomFor old (sizes_of (answers_of old came peer)))
    (fits : All (FitsMessage (length old.members)) (answers_of old came peer)) (new : Whole) where
  abbrev pub SendsAll : Result (Unit {0}) Refusal → Type 0
  SendsAll result =
      Carried (SendsEach tells (length old.events) 0 (map message_bytes (answers_of old came peer))
      (with_event old (serve_of old came peer asked))) result new

  pub serve_sent : SendsAll (Ok tt) → Carried (ServesAsk tells came old)
      (Ok (mailed (length old.post.posts + 1) (length (answers_of old came peer)))) new
  serve_sent sends = record {
    outcomes = sends.outcomes ++ [];
    does = Serves serving place room fits (Goes sends.does (Says refl));
  }

  pub serve_unsent : (r : Refusal) → refused r ≡ refused refusal.Link → SendsAll (Err r)
      → Carried (ServesAsk tells came old) (Err r) new
  serve_unsent refusal.Link link sends = record {
    outcomes = sends.outcomes;
    does = Serves serving place room fits (Ends sends.does);
  }
  serve_unsent r link sends = absurd (cc)

  -- what is posted then is counted
  pub serve_counted : IsWorld old → (result : Result (Unit {0}) Refusal) → OnErr result (result ≡ Err refusal.Link)
      → SendsAll result → AreCounted new.post
  serve_counted world result link sends = go result link sends.does
    where
      counts : (given : Result (Unit {0}) Refusal) (left : Effect Whole)
          → SendsEach tells (length old.events) 0 (map message_bytes (answers_of old came peer))
          (with_event old (serve_of old came peer asked)) given left → AreCounted left.after.post
      counts given left does =
          each_counted tells (length old.events) 0 (map message_bytes (answers_of old came peer))
          (with_event old (serve_of old came peer asked)) given left (all_some (answers_of old came peer))
          (omega (arith, room, sum_sizes (answers_of old came peer))) (counted_in world) does

      go : (given : Result (Unit {0}) Refusal) → OnErr given (given ≡ Err refusal.Link)
          → OrMemory (λ g. SendsEach tells (length old.events) 0 (map message_bytes (answers_of old came peer))
          (with_event old (serve_of old came peer asked)) g (record { outcomes = sends.outcomes; after = new })) given
          → AreCounted new.post
      go (Ok sent) link does = counts (Ok sent) _ does
      go (Err refusal.Link) link does = counts (Err refusal.Link) _ does
      go (Err r) link does = absurd (cc)

-- what a member serves, as its code gives it: the state, and its messages, for which there is room
abbrev pub HasServed : Whole → Delivery → ℕ → List (List ℕ) → Type 0
HasServed old came state messages =
    (peer : Member) × IsServing old came peer × (state ≡ peer.replica.saved.generation)
    × (messages ≡ map message_bytes (answers_of old came peer)) × HasRoomFor old (sizes_of (answers_of old came peer))
    × All (FitsMessage (length old.members)) (answers_of old came peer)

-- the serving of it
module _ (tells : Type 0) (old : Whole) (came : Delivery) (state pieces : ℕ) (messages : List (List ℕ))
    (serves : HasServed old came state messages) (counted : pieces ≡ length messages) where
  abbrev peer : Member
  peer = serves.0

  pieces_are : pieces ≡ length (answers_of old came peer)
  pieces_are = counted ∙ spelled_count old came peer messages serves.3

  -- it has some pieces, and not too many
  pub served_some : 1 ≤ pieces
  served_some = omega (arith, pieces_are, answers_some old came peer)

  pub served_few : pieces ≤ piece_limit
  served_few = omega (arith, pieces_are, answers_few old came peer serves.4)

  module _ (asked : Behind) (place : IsNumbered old.post.behind came.mail asked) (new : Outbox) where
    -- the world, where it is stored and this was posted
    abbrev stored : Event
    stored = event.Serve came.to asked.position state pieces

    abbrev pub after_serving : Whole
    after_serving = with_post (with_event old stored) new

    -- what the posts of its messages come to
    abbrev pub HasSentEach : Result (Unit {0}) Refusal → Type 0
    HasSentEach result =
        (world : Whole)
        → Carried (SendsEach tells (length old.events) 0 messages (with_post world old.post)) result (with_post world new)

    stored_is : stored ≡ serve_of old came peer asked
    stored_is = ap₂ (λ (n k : ℕ). event.Serve came.to asked.position n k) serves.2 pieces_are

    sends_all : (result : Result (Unit {0}) Refusal) → HasSentEach result
        → SendsAll tells old came peer asked serves.1 place serves.4 serves.5 after_serving result
    sends_all result sent =
        subst (λ (e : Event).
        Carried (SendsEach tells (length old.events) 0 (map message_bytes (answers_of old came peer)) (with_event old e))
        result after_serving) stored_is
        (subst (λ (list : List (List ℕ)).
        Carried (SendsEach tells (length old.events) 0 list (with_event old stored)) result after_serving) serves.3
        (sent (with_event old stored)))

    pub served_done : HasSentEach (Ok tt) → (first : ℕ) → first ≡ length old.post.posts + 1
        → Carried (ServesAsk tells came old) (Ok (mailed first pieces)) after_serving
    served_done sent first is =
        subst (λ n. Carried (ServesAsk tells came old) (Ok (mailed n pieces)) after_serving) (sym is)
        (subst (λ n. Carried (ServesAsk tells came old) (Ok (mailed (length old.post.posts + 1) n)) after_serving)
        (sym pieces_are)
        (serve_sent tells old came peer asked serves.1 place serves.4 serves.5 after_serving (sends_all (Ok tt) sent)))

    pub served_failed : (r : Refusal) → refused r ≡ refused refusal.Link → HasSentEach (Err r)
        → Carried (ServesAsk tells came old) (Err r) after_serving
    served_failed r link sent =
        serve_unsent tells old came peer asked serves.1 place serves.4 serves.5 after_serving r link
        (sends_all (Err r) sent)

    pub served_world : IsWorld old → (result : Result (Unit {0}) Refusal) → OnErr result (result ≡ Err refusal.Link)
        → HasSentEach result → IsWorld after_serving
    served_world world result link sent =
        world_posted (with_event old stored)
        (more_stored old world (old.events ++ stored ∷ []) (omega (arith, length_push old.events stored))
        (plain_with world stored serves.1.is.member refl)) new
        (serve_counted tells old came peer asked serves.1 place serves.4 serves.5 after_serving world result link
        (sends_all result sent))

-- What the code that serves an ask has come to: what it serves, the event of that, which is stored, and what the posts of
-- its messages come to.
pub record HasPosted (tells : Type 0) (old : Whole) (came : Delivery) (state pieces : ℕ) (asked : Behind)
    (result : Result (Unit {0}) Refusal) (events : List Event) (new : Outbox) : Type 0 where
  pub messages : List (List ℕ)
  pub serves : HasServed old came state messages
  pub counted : pieces ≡ length messages
  pub place : IsNumbered old.post.behind came.mail asked
  pub stored : events ≡ old.events ++ event.Serve came.to asked.position state pieces ∷ []
  pub link : OnErr result (result ≡ Err refusal.Link)
  pub sent : (world : Whole)
      → Carried (SendsEach tells (length old.events) 0 messages (with_post world old.post)) result (with_post world new)

-- so it is where room was taken before
pub has_posted : (tells : Type 0) (came : Delivery) (state : ℕ) (messages : List (List ℕ))
    (result : Result (Unit {0}) Refusal) {pieces position : ℕ} {asked : Behind} {old now : Whole}
    {reserved events : List Event} {room new : Outbox} → old ≡ now → HasServed now came state messages
    → pieces ≡ length messages → reserved ≡ old.events → room ≡ old.post → IsNumbered room.behind came.mail asked
    → position ≡ length reserved → events ≡ reserved ++ event.Serve came.to asked.position state pieces ∷ []
    → OnErr result (result ≡ Err refusal.Link)
    → ((world : Whole)
    → Carried (SendsEach tells position 0 messages (with_post world room)) result (with_post world new))
    → HasPosted tells old came state pieces asked result events new
has_posted tells came state messages result {pieces} {position} {asked} {old} {now} {reserved} {events} {room} {new} same
    serves counted stores posts place at stored link sent = record {
      messages = messages;
      serves = subst (λ (w : Whole). HasServed w came state messages) (sym same) serves;
      counted = counted;
      place = subst (λ (p : Outbox). IsNumbered p.behind came.mail asked) posts place;
      stored =
          stored ∙ ap (λ (list : List Event). list ++ event.Serve came.to asked.position state pieces ∷ []) stores;
      link = link;
      sent = λ world.
          subst (λ n. Carried (SendsEach tells n 0 messages (with_post world old.post)) result (with_post world new))
          (at ∙ ap (λ (list : List Event). length list) stores)
          (subst (λ (p : Outbox). Carried (SendsEach tells position 0 messages (with_post world p)) result (with_post world new))
          posts (sent world));
    }

module _ {tells : Type 0} {old : Whole} {came : Delivery} {state pieces : ℕ} {asked : Behind} {events : List Event}
    {new : Outbox} where
  -- the world is one still
  pub posted_world : {result : Result (Unit {0}) Refusal}
      → HasPosted tells old came state pieces asked result events new → IsWorld old
      → IsWorld (whole_of old.members events new)
  posted_world {result} posted world =
      subst (λ (list : List Event). IsWorld (whole_of old.members list new)) (sym posted.stored)
      (served_world tells old came state pieces posted.messages posted.serves posted.counted asked posted.place new world
      result posted.link posted.sent)

  -- the ask was served, or the link has failed
  pub posted_failed : {now : Whole} {r : Refusal} → HasPosted tells old came state pieces asked (Err r) events new
      → old ≡ now → Carried (ServesAsk tells came now) (Err r) (whole_of old.members events new)
  posted_failed {r = r} posted same =
      subst (λ (w : Whole). Carried (ServesAsk tells came w) (Err r) (whole_of old.members events new)) same
      (subst (λ (list : List Event). Carried (ServesAsk tells came old) (Err r) (whole_of old.members list new))
      (sym posted.stored)
      (served_failed tells old came state pieces posted.messages posted.serves posted.counted asked posted.place new r
      posted.link posted.sent))

  pub posted_done : {now : Whole} {first : ℕ} → HasPosted tells old came state pieces asked (Ok tt) events new
      → old ≡ now → first ≡ length old.post.posts + 1
      → Carried (ServesAsk tells came now) (Ok (mailed first pieces)) (whole_of old.members events new)
  posted_done {first = first} posted same is =
      subst (λ (w : Whole). Carried (ServesAsk tells came w) (Ok (mailed first pieces)) (whole_of old.members events new))
      same
      (subst (λ (list : List Event). Carried (ServesAsk tells came old) (Ok (mailed first pieces))
      (whole_of old.members list new)) (sym posted.stored)
      (served_done tells old came state pieces posted.messages posted.serves posted.counted asked posted.place new
      posted.sent first is))

-- a fetch that fails
pub fetch_failed : (tells : Type 0) (old : Whole) (number : ℕ) (post : Outbox) → IsMember (length old.post.posts) number
    → (r : Refusal) → ((r ≢ refusal.Memory) → (r ≡ refusal.Link) × HasFailed old.post post)
    → Carried (FetchesBytes tells number old) (Err r) (with_post old post)
fetch_failed tells old number post some refusal.Memory failed = record { outcomes = []; does = tt }
fetch_failed tells old number post some refusal.Link failed = record {
  outcomes = LinkFails ∷ [];
  does = NotFetched some (failed (λ e. cc)).1;
}
fetch_failed tells old number post some r failed = let e = (failed (λ e. cc)).0 in absurd (cc)

-- refused, in place of a number
abbrev pub not_sent : Refusal → Result ℕ Refusal
not_sent r = Err r

-- Some of the messages are posted, and these are left: what their posts come to, those of all come to.
pub record HasSent (tells : Type 0) (position : ℕ) (messages : List (List ℕ)) (index : ℕ) (left : List (List ℕ))
    (old now : Outbox) : Type 0 where
  pub rest : (world : Whole) (result : Result (Unit {0}) Refusal) (new : Outbox)
      → Carried (SendsEach tells position index left (with_post world now)) result (with_post world new)
      → Carried (SendsEach tells position 0 messages (with_post world old)) result (with_post world new)

module _ (tells : Type 0) (position : ℕ) (messages : List (List ℕ)) (old : Outbox) where
  -- none is yet
  pub sent_none : HasSent tells position messages 0 messages old old
  sent_none = record { rest = λ world result new sends. sends }

  -- all are
  pub sent_all : (index : ℕ) (now : Outbox) → HasSent tells position messages index [] old now → (world : Whole)
      → Carried (SendsEach tells position 0 messages (with_post world old)) (Ok tt) (with_post world now)
  sent_all index now has world = has.rest world (Ok tt) now (record { outcomes = []; does = Says refl })

  module _ (index : ℕ) (bytes : List ℕ) (more : List (List ℕ)) (now next : Outbox)
      (has : HasSent tells position messages index (bytes ∷ more) old now) where
    -- the next is
    pub sent_next : (number : ℕ) → IsSent tells now (lies_behind position index) bytes number next
        → HasSent tells position messages (index + 1) more old next
    sent_next number sent = record {
      rest = λ world result new sends.
          has.rest world result new (record {
            outcomes = (IsDone ∷ []) ++ sends.outcomes;
            does = goes_on (Sends tells (lies_behind position index) bytes)
                (λ number. SendsEach tells position (index + 1) more) (with_post world now)
                (record { outcomes = IsDone ∷ []; after = with_post world next })
                (record { outcomes = sends.outcomes; after = with_post world new }) (Sent sent) result sends.does;
          });
    }

    -- the link fails
    pub sent_failed : HasFailed now next → (r : Refusal) → not_sent r ≡ not_sent refusal.Link → (world : Whole)
        → Carried (SendsEach tells position 0 messages (with_post world old)) (Err r) (with_post world next)
    sent_failed failed refusal.Link link world =
        has.rest world (Err refusal.Link) next (record { outcomes = LinkFails ∷ []; does = Ends (NotSent failed) })
    sent_failed failed r link world = absurd (cc)

-- what is read of bytes that were fetched
abbrev reads_bytes : List ℕ → WholeAction Message
reads_bytes bytes = ByRule (λ world. Reads (length world.members) bytes)

module _ {K D : Type 0} (tells : Type 0) {keep : Keep K} {disk : Disk D} (number : ℕ) (old : Whole)
    (x : List (Pair D)) where
  -- a give that ends at its fetch
  pub give_unfetched : (r : Refusal) (new : Whole) → new.members ≡ old.members
      → Carried (FetchesBytes tells number old) (Err r) new
      → CarriedOn keep disk (GivesMessage tells number) (Err r) old new x x
  give_unfetched r new same is =
      carried_first (FetchesMail tells number) (HandlesMessage tells number) old r new x x
      (carried_first (FetchesBytes tells number) reads_bytes old r new x x
      (quiet_carried (FetchesBytes tells number) (Err r) old new x (λ left is. fetches_quiet is) same is))

  module _ (bytes : List ℕ) (middle : Whole) (same : middle.members ≡ old.members)
      (is : Carried (FetchesBytes tells number old) (Ok bytes) middle) where
    -- what is fetched is read
    fetched_read : (result : Result Message Refusal) → Reads (length middle.members) bytes result
        → CarriedOn keep disk (FetchesMail tells number) result old middle x x
    fetched_read result reads =
        carried_then (FetchesBytes tells number) reads_bytes old middle middle x x x result
        (quiet_carried (FetchesBytes tells number) (Ok bytes) old middle x (λ left is. fetches_quiet is) same is)
        (carried_none (reads_bytes bytes) result middle x
        (or_memory (λ given. reads_bytes bytes middle given (unchanged middle)) result (Says reads)))

    -- a give that ends at its reading
    pub give_unread : (r : Refusal) → Reads (length middle.members) bytes (Err r)
        → CarriedOn keep disk (GivesMessage tells number) (Err r) old middle x x
    give_unread r reads =
        carried_first (FetchesMail tells number) (HandlesMessage tells number) old r middle x x
        (fetched_read (Err r) reads)

    -- what is read is handled by its receiver
    pub give_handled : (message : Message) → Reads (length middle.members) bytes (Ok message)
        → (result : Result Answer Refusal) (new : Whole) (y : List (Pair D))
        → CarriedOn keep disk (HandlesMessage tells number message) result middle new x y
        → CarriedOn keep disk (GivesMessage tells number) result old new x y
    give_handled message reads result new y handles =
        carried_then (FetchesMail tells number) (HandlesMessage tells number) old middle new x x y result
        (fetched_read (Ok message) reads) handles

-- the same of a letter, as the code reads it
pub give_letter : {K D B : Type 0} (tells : Type 0) {keep : Keep K} {disk : Disk D} (number : ℕ) {one other : Backed B}
    {bytes read : List ℕ} {middle : Whole} {x : List (Pair D)} → one ≡ other → middle.members ≡ one.whole.members
    → Carried (FetchesBytes tells number one.whole) (Ok bytes) middle → read ≡ bytes → (letter found : Letter)
    → Reads (length middle.members) read (Ok (message_of letter)) → letter ≡ found → (result : Result Answer Refusal)
    (new : Whole) (y : List (Pair D))
    → CarriedOn keep disk (HandlesMessage tells number (message_of found)) result middle new x y
    → CarriedOn keep disk (GivesMessage tells number) result other.whole new x y
give_letter tells {keep} {disk} number {one} {other} {bytes} {read} {middle} {x} same members fetches read_is letter found
    reads is result new y handles =
    subst (λ (w : Whole). CarriedOn keep disk (GivesMessage tells number) result w new x y) (whole_is same)
    (give_handled tells number one.whole x bytes middle members fetches (message_of found)
    (subst (λ (list : List ℕ). Reads (length middle.members) list (Ok (message_of found))) read_is
    (subst (λ (l : Letter). Reads (length middle.members) read (Ok (message_of l))) is reads)) result new y handles)

-- the serving of an ask leaves the disks as they are
pub serves_carried : {K D : Type 0} (tells : Type 0) {keep : Keep K} {disk : Disk D} (came : Delivery)
    (old new : Whole) (result : Result Answer Refusal) (x : List (Pair D)) → new.members ≡ old.members
    → Carried (ServesAsk tells came old) result new → CarriedOn keep disk (ServesAsk tells came) result old new x x
serves_carried tells came old new result x same serves =
    quiet_carried (ServesAsk tells came) result old new x (λ left is. serves_quiet is) same serves

-- what reading a letter comes to
pub letter_read : (members : ℕ) (bytes : List ℕ) (found : Option Letter) (result : Result Letter Refusal)
    → IfSome found (λ letter. FitsMessage members (message_of letter))
    → IfSome found (λ letter. bytes ≡ message_bytes (message_of letter))
    → IfNone found ((m : Message) → FitsMessage members m → bytes ≡ message_bytes m → ⊥)
    → result ≡ ok_or found refusal.BadMessage → Reads members bytes (messages_read result)
letter_read members bytes (Some letter) result fits spelled none is =
    subst (λ (r : Result Letter Refusal). Reads members bytes (messages_read r)) (sym is)
    (record { fits = fits; is = spelled })
letter_read members bytes None result fits spelled none is =
    subst (λ (r : Result Letter Refusal). Reads members bytes (messages_read r)) (sym is)
    (λ m spelled. none m spelled.fits spelled.is)

-- what was fetched is a message
pub fetched_some : {tells : Type 0} {number : ℕ} {old new : Whole} {bytes : List ℕ}
    → Carried (FetchesBytes tells number old) (Ok bytes) new → IsMember (length old.post.posts) number
fetched_some {tells} {number} {old} {new} {bytes} is = go is.does
  where
    go : {left : Effect Whole} → FetchesBytes tells number old (Ok bytes) left → IsMember (length old.post.posts) number
    go (Fetched fetched) = fetched.some

-- bytes that spell no message aren't read for want of memory
pub unread_memory : (members : ℕ) (bytes : List ℕ) (r : Refusal) → Reads members bytes (Err r) → r ≡ refusal.Memory → ⊥
unread_memory members bytes refusal.BadMessage none is = cc
unread_memory members bytes r none is = absurd none

-- the answer to a give of a piece tells of no message
tables_tell_none : {came : Delivery} {index : ℕ} {entries : List Entry} {files : List FileReplica} {old : Whole}
    (result : Result Answer Refusal) {left : Effect Whole} → TakesTables came index entries files old result left
    → IfOk result (λ answer. length (mails_of answer) ≤ piece_limit)
tables_tell_none result (Takes is up lies gives) = omega arith
tables_tell_none result (TakesNot is up lies gives) = tt
tables_tell_none result (Refuses is up no_memory gives) = tt

spelled_tells_none : {came : Delivery} {index : ℕ} {bytes : List ℕ} {old : Whole} (result : Result Answer Refusal)
    {left : Effect Whole} → TakesSpelled came index bytes old result left
    → IfOk result (λ answer. length (mails_of answer) ≤ piece_limit)
spelled_tells_none result (SpellsTables fits is takes) = tables_tell_none result takes
spelled_tells_none result (SpellsNone none) = tt

fitting_tells_none : {came : Delivery} {head : PieceHead} {bytes : List ℕ} {was : Member} {old : Whole}
    (result : Result Answer Refusal) {left : Effect Whole} → TakesFitting came head bytes was old result left
    → IfOk result (λ answer. length (mails_of answer) ≤ piece_limit)
fitting_tells_none result (IsHeld held) = omega arith
fitting_tells_none result (IsOneMore lacks others lies) = omega arith
fitting_tells_none result (IsTheLast lacks others takes) = spelled_tells_none result takes

piece_tells_none : {came : Delivery} {head : PieceHead} {bytes : List ℕ} {old : Whole} (result : Result Answer Refusal)
    {left : Effect Whole} → TakesPiece came head bytes old result left
    → IfOk result (λ answer. length (mails_of answer) ≤ piece_limit)
piece_tells_none result (Ends finds) = tt
piece_tells_none result (Goes (FindsIt waits state pieces) takes) = fitting_tells_none result takes

pub taken_tells_none : {K D : Type 0} {keep : Keep K} {disk : Disk D} {came : Delivery} {head : PieceHead}
    {bytes : List ℕ} {old new : Whole} {x y : List (Pair D)} (result : Result Answer Refusal)
    → CarriedOn keep disk (TakesPiece came head bytes) result old new x y
    → IfOk result (λ answer. length (mails_of answer) ≤ piece_limit)
taken_tells_none (Ok answer) is = piece_tells_none (Ok answer) is.does
taken_tells_none (Err r) is = tt
