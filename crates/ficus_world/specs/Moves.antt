-- What a command does to a world, action by action, over what its members hold. `tells`: the link tells its posts.
-- `disks_tell`: the disks tell what they hold.
use Rattle.std.specs.Prelude.{◌≡◌, ◌≢◌, ℕ, ◌+◌, ◌-◌, ◌≤◌, if◌then◌else◌, true, false, All, List, [], ◌∷◌, ◌++◌, length, map, Result, Ok, Err, Option, Some, None, slice_set}
use Rattle.ficus_ids.specs.Members.{IsMember}
use Rattle.ficus_ids.specs.declared.refusal.Refusal.{Refusal}
use Rattle.ficus_ids.specs.declared.refusal.Refusal.TheVariants as refusal
use Rattle.ficus_model.specs.declared.event.Event.{Event}
use Rattle.ficus_model.specs.declared.event.Event.TheVariants as event
use Rattle.ficus_model.specs.declared.event.Op.{Op}
use Rattle.ficus_model.specs.Events.{traits}
use Rattle.ficus_codec.specs.Formats.{tables_bytes}
use Rattle.ficus_entry.specs.declared.entry.Entry.{Entry}
use Rattle.ficus_file.specs.declared.file.FileReplica.{FileReplica}
use Rattle.ficus_durable_state.specs.declared.saved.Saved.{Saved}
use Rattle.ficus_durable_state.specs.Saved.{FitsImage}
use Rattle.ficus_durable_state.specs.Tables.{FitsTables}
use Rattle.ficus_keeper.specs.Framed.{body_in}
use Rattle.ficus_replica.specs.declared.replica.Replica.{Replica}
use Rattle.ficus_replica.specs.Accept.{AcceptGives, IsOpen}
use Rattle.ficus_replica.specs.Ask.{AskGives}
use Rattle.ficus_replica.specs.Collect.{CollectGives, HoldsNoGarbage}
use Rattle.ficus_replica.specs.declared.collect.Collected.{Collected}
use Rattle.ficus_commands.specs.declared.change.Change.{Change}
use Rattle.ficus_rules.specs.Change.{ChangeRule, MayWantMemory}
use Rattle.ficus_rules.specs.Look.{LookRule}
use Rattle.ficus_rules.specs.Rule.{RefusesNothing}
use Rattle.ficus_replica.specs.Effect.{Applied, next_id}
use Rattle.ficus_commands.specs.declared.look.Look.{Look}
use Rattle.ficus_deciding.specs.View.{tables_view}
use Rattle.ficus_script.specs.declared.command.Command.{Command}
use Rattle.ficus_script.specs.declared.command.Command.TheVariants as command
use Rattle.ficus_script.specs.declared.answer.Answer.{Answer}
use Rattle.ficus_script.specs.declared.answer.Answer.TheVariants as answer
use Rattle.ficus_script.specs.declared.answer.Answer.TheVariants.{Done, Part}
use Rattle.ficus_wire.specs.Message.{FitsMessage, head_of, message_bytes, message_of, messages_of_tables, sizes_of}
use Rattle.ficus_wire.specs.Parts.{HasAllBut, HasPart, HeldParts, joined as joined_parts, no_parts, with_part}
use Rattle.ficus_wire.specs.declared.message.Letter.{Letter}
use Rattle.ficus_wire.specs.declared.message.Message.{Message}
use Rattle.ficus_wire.specs.declared.message.Message.TheVariants as message
use Rattle.ficus_wire.specs.declared.message.PieceHead.{PieceHead}
use Rattle.ficus_runs.specs.Actions.{Each, EachPart, GivesOnly}
use Rattle.ficus_runs.specs.Answers.{answer_to, AlikeAnswer, LookAnswer, answer_as}
use Rattle.ficus_runs.specs.Exchange.{mailed, total_limit}
use Rattle.ficus_runs.specs.Message.{Reads}
use Rattle.ficus_runs.specs.Numbered.{IsNumbered}
use Rattle.ficus_runs.specs.Outcome.{Outcome, IsDone, LinkFails, IsSaved, SaveFails, IsOpened, IsFound, OpeningFails, IsArmed}
use Rattle.ficus_runs.specs.Peers.{ArePeers}
use Rattle.ficus_runs.specs.Plan.{Actions, Plan, plan}
use Rattle.ficus_runs.specs.Sequence.{Action, First, ByRule, Cut, Effect, unchanged}
use Rattle.ficus_world.specs.declared.exchange.Delivery.{Delivery}
use Rattle.ficus_world.specs.declared.taking.Fitting.{Fitting}
use Rattle.ficus_world.specs.declared.taking.Taking.{Taking}
use Rattle.ficus_world.specs.declared.taking.Fitting.TheVariants as fitting
use Rattle.ficus_opening.specs.declared.member.Member.{Member}
use Rattle.ficus_opening.specs.declared.member.MemberState.{MemberState}
use Rattle.ficus_opening.specs.declared.member.MemberState.TheVariants as state
use Rattle.ficus_opening.specs.declared.member.Pending.{Pending}
use Rattle.ficus_world.specs.declared.post.Behind.{Behind}
use Rattle.ficus_world.specs.Post.{Outbox, IsSent, HasFailed, AreFetched, lies_behind}
use Rattle.ficus_world.specs.World.{Whole, IsReplica, IsSoundNext, IsUpIn}

-- an action on a world as contracts see it
abbrev pub WholeAction : Type 0 → Type 1
WholeAction A = Action Whole A

-- member `by` is this one now
abbrev pub with_member : Whole → ℕ → Member → Whole
with_member old by member = record old { members = slice_set old.members (by - 1) member }

-- what a member still holds of an answer once this event of its own has happened: nothing, where the event ends its ask
abbrev pub parts_after : Event → Option HeldParts → Option HeldParts
parts_after event parts = if (traits event).closes then None else parts

-- member `by`, who was this one, holds this replica now, and this event is stored too
abbrev pub advanced : Whole → ℕ → Member → Replica → Event → Whole
advanced old by was replica event = record old {
  members =
      slice_set old.members (by - 1) (record was { replica = replica; parts = parts_after event was.parts });
  events = old.events ++ event ∷ [];
}

-- member `by`, who was this one, is down now, with what is pending
abbrev pub downed : Whole → ℕ → Member → Option Pending → Whole
downed old by was pending = with_member old by (record was { state = state.Down pending })

-- this event is stored too
abbrev pub with_event : Whole → Event → Whole
with_event old event = record old { events = old.events ++ event ∷ [] }

-- this is posted now
abbrev pub with_post : Whole → Outbox → Whole
with_post old post = record old { post = post }

-- the world after a save that was done, and after one that failed
abbrev pub saved : ℕ → Whole → Effect Whole
saved by new = record { outcomes = IsSaved by ∷ []; after = new }

abbrev pub not_saved : Whole → ℕ → Member → Pending → Effect Whole
not_saved old by was next = record { outcomes = SaveFails by ∷ []; after = downed old by was (Some next) }

-- what is pending where this isn't saved
abbrev pub pending_of : Replica → Event → Pending
pending_of replica event = record { replica = replica; event = event }

-- finds the member of this number, and is refused where there is none
pub data FindsMember (by : ℕ) (old : Whole) : Result Member Refusal → Effect Whole → Type 0 where
  Finds : {member : Member} → IsNumbered old.members by member → FindsMember by old (Ok member) (unchanged old)
  FindsNone : (IsMember (length old.members) by → ⊥) → FindsMember by old (Err refusal.Member) (unchanged old)

-- finds the member of this number, and is refused where there is none, and where it is down
pub data FindsUp (by : ℕ) (old : Whole) : Result Member Refusal → Effect Whole → Type 0 where
  FindsAt : {member : Member} → IsNumbered old.members by member → member.state ≡ state.Up
      → FindsUp by old (Ok member) (unchanged old)
  FindsNoneAt : (IsMember (length old.members) by → ⊥) → FindsUp by old (Err refusal.Member) (unchanged old)
  FindsDown : {member : Member} → IsNumbered old.members by member → (member.state ≡ state.Up → ⊥)
      → FindsUp by old (Err refusal.Down) (unchanged old)

-- the change is the operation that its rule gives, by what the member holds
abbrev pub TablesDecide : Member → Change → WholeAction Op
TablesDecide member change = ByRule (λ world. ChangeRule (tables_view member.replica.saved) change)

-- the member holds what the operation makes of what it saves, and the update is stored; or it is pending
pub data KeepsUpdate (by : ℕ) (was : Member) (op : Op) (old : Whole) :
    Result Answer Refusal → Effect Whole → Type 0 where
  Keeps : {new : Replica} → Applied was.replica.saved op new.saved → new.ask ≡ was.replica.ask
      → KeepsUpdate by was op old (Ok (answer_to (next_id was.replica.saved) op))
      (saved by (advanced old by was new (event.Update by op)))
  KeepsNot : {new : Replica} → Applied was.replica.saved op new.saved → new.ask ≡ was.replica.ask
      → KeepsUpdate by was op old (Err refusal.Store) (not_saved old by was (pending_of new (event.Update by op)))

-- the look is answered as its rule says, by what the member holds
abbrev pub TablesShow : Member → Look → WholeAction Answer
TablesShow member look = ByRule (λ world. LookAnswer (tables_view member.replica.saved) look)

-- the member holds what its collection leaves, and the collection is stored; or it is pending
pub data KeepsCollection (by : ℕ) (was : Member) (old : Whole) : Result Answer Refusal → Effect Whole → Type 0 where
  Collects : {given : Collected} → CollectGives was.replica given
      → KeepsCollection by was old (Ok (answer.Collected given.entries given.files))
      (saved by (advanced old by was given.replica (event.Collect by)))
  CollectsNot : {given : Collected} → CollectGives was.replica given
      → KeepsCollection by was old (Err refusal.Store)
      (not_saved old by was (pending_of given.replica (event.Collect by)))

-- these bytes are posted, with this behind them; gives their number. Or the link fails.
pub data Sends (tells : Type 0) (behind : Behind) (bytes : List ℕ) (old : Whole) :
    Result ℕ Refusal → Effect Whole → Type 0 where
  Sent : {number : ℕ} {post : Outbox} → IsSent tells old.post behind bytes number post
      → Sends tells behind bytes old (Ok number) (record { outcomes = IsDone ∷ []; after = with_post old post })
  NotSent : {post : Outbox} → HasFailed old.post post
      → Sends tells behind bytes old (Err refusal.Link)
      (record { outcomes = LinkFails ∷ []; after = with_post old post })

-- these bytes are posted in order, with the pieces of what was served by the event stored at a position behind them,
-- from this index on
abbrev pub SendsEach : Type 0 → ℕ → ℕ → List (List ℕ) → WholeAction (Unit {0})
SendsEach tells position index [] = GivesOnly tt
SendsEach tells position index (bytes ∷ more) =
    First (Sends tells (lies_behind position index) bytes)
    (λ number. SendsEach tells position (index + 1) more)

-- there is room for so many bytes
abbrev pub HasRoomFor : Whole → ℕ → Type 0
HasRoomFor world size = world.post.total + size ≤ total_limit

-- the message of a replica that has asked
abbrev pub ask_of : ℕ → ℕ → Replica → Message
ask_of by to asked = message.Ask by to asked.saved.generation

-- they are two different members, the first of which is up
pub record MayAsk (old : Whole) (by to : ℕ) : Type 0 where
  pub peers : ArePeers (length old.members) by to
  pub up : IsUpIn old by

-- member `by` is this one, and it is this replica once it has asked another member
pub record IsAsking (old : Whole) (by to : ℕ) (was : Member) (asked : Replica) : Type 0 where
  pub peers : ArePeers (length old.members) by to
  pub is : IsNumbered old.members by was
  pub up : was.state ≡ state.Up
  pub gives : AskGives was.replica to asked
  pub fits : FitsMessage (length old.members) (ask_of by to asked)

-- so it asks, and this is noted of that
abbrev pub AsksWith : ℕ → ℕ → List ℕ → Replica → Whole → Type 0
AsksWith by to noted asked old =
    (was : Member) × IsAsking old by to was asked
    × IsSoundNext (length old.members) (length old.events) by noted was.replica asked

-- what a save left, and a post behind it
abbrev pub saved_then : ℕ → Effect Whole → Effect Whole
saved_then by left = record { outcomes = IsSaved by ∷ left.outcomes; after = left.after }

-- one of two different members, which is up, asks the other; gives the number of its message
pub data KeepsAsk (tells : Type 0) (by to : ℕ) (old : Whole) : Result ℕ Refusal → Effect Whole → Type 0 where
  NoPeers : (ArePeers (length old.members) by to → ⊥) → KeepsAsk tells by to old (Err refusal.Member) (unchanged old)
  AskerDown : {was : Member} → ArePeers (length old.members) by to → IsNumbered old.members by was
      → (was.state ≡ state.Up → ⊥) → KeepsAsk tells by to old (Err refusal.Down) (unchanged old)
  NoRoomToAsk : {was : Member} {asked : Replica} → IsAsking old by to was asked
      → (HasRoomFor old (length (message_bytes (ask_of by to asked))) → ⊥) →
      KeepsAsk tells by to old (Err refusal.LinkFull) (unchanged old)
  NotAsked : {was : Member} {asked : Replica} → IsAsking old by to was asked →
      HasRoomFor old (length (message_bytes (ask_of by to asked)))
      → KeepsAsk tells by to old (Err refusal.Store) (not_saved old by was (pending_of asked (event.Ask by to)))
  Asked : {was : Member} {asked : Replica} {result : Result ℕ Refusal} {left : Effect Whole}
      → IsAsking old by to was asked → HasRoomFor old (length (message_bytes (ask_of by to asked)))
      → Sends tells (lies_behind (length old.events) 0) (message_bytes (ask_of by to asked))
      (advanced old by was asked (event.Ask by to)) result left
      → KeepsAsk tells by to old result (saved_then by left)

-- the bytes of a message are fetched
pub data FetchesBytes (tells : Type 0) (number : ℕ) (old : Whole) :
    Result (List ℕ) Refusal → Effect Whole → Type 0 where
  NoMail : (IsMember (length old.post.posts) number → ⊥)
      → FetchesBytes tells number old (Err refusal.NoMail) (unchanged old)
  NotFetched : {post : Outbox} → IsMember (length old.post.posts) number → HasFailed old.post post
      → FetchesBytes tells number old (Err refusal.Link)
      (record { outcomes = LinkFails ∷ []; after = with_post old post })
  Fetched : {bytes : List ℕ} → AreFetched tells old.post.posts number bytes
      → FetchesBytes tells number old (Ok bytes) (record { outcomes = IsDone ∷ []; after = old })

-- a message is fetched and read
abbrev pub FetchesMail : Type 0 → ℕ → WholeAction Message
FetchesMail tells number =
    First (FetchesBytes tells number) (λ bytes. ByRule (λ world. Reads (length world.members) bytes))

-- what was read, as messages
abbrev pub messages_read : {E : Type 0} → Result Letter E → Result Message E
messages_read (Ok letter) = Ok (message_of letter)
messages_read (Err fault) = Err fault

-- the spelling of the tables of a member
abbrev pub tables_in : Whole → Member → List ℕ
tables_in world member =
    tables_bytes (length world.members) member.replica.saved.entries member.replica.saved.files

-- the messages in which the member answers the ask of this number: the pieces of the spelling of its tables
abbrev pub answers_of : Whole → Delivery → Member → List Message
answers_of old came peer =
    messages_of_tables came.to came.from came.ask peer.replica.saved.generation (tables_in old peer)

-- this is the member to whom the ask came, which is up, and what it holds fits tables
pub record IsServing (old : Whole) (came : Delivery) (peer : Member) : Type 0 where
  pub is : IsNumbered old.members came.to peer
  pub up : peer.state ≡ state.Up
  pub fits : FitsTables (length old.members) peer.replica.saved.entries peer.replica.saved.files

-- the serving of the ask behind which this lies
abbrev pub serve_of : Whole → Delivery → Member → Behind → Event
serve_of old came peer asked =
    event.Serve came.to asked.position peer.replica.saved.generation (length (answers_of old came peer))

-- these are posted in order, with the pieces of what the last event serves behind them, and answered with their numbers
abbrev pub SendsAnswers : Type 0 → Whole → List Message → WholeAction Answer
SendsAnswers tells old messages =
    First (SendsEach tells (length old.events) 0 (map message_bytes messages))
    (λ sent. GivesOnly (mailed (length old.post.posts + 1) (length messages)))

-- An ask that came is served, with what the member holds: that happens, and then the pieces are posted. Where a post
-- fails, what was done before it stands.
pub data ServesAsk (tells : Type 0) (came : Delivery) (old : Whole) :
    Result Answer Refusal → Effect Whole → Type 0 where
  ServerDown : {peer : Member} → IsNumbered old.members came.to peer → (peer.state ≡ state.Up → ⊥)
      → ServesAsk tells came old (Err refusal.Down) (unchanged old)
  NoRoomToServe : {peer : Member} → IsServing old came peer
      → (HasRoomFor old (sizes_of (answers_of old came peer)) → ⊥)
      → ServesAsk tells came old (Err refusal.LinkFull) (unchanged old)
  Serves : {peer : Member} {asked : Behind} {result : Result Answer Refusal} {left : Effect Whole}
      → IsServing old came peer → IsNumbered old.post.behind came.mail asked
      → HasRoomFor old (sizes_of (answers_of old came peer))
      → All (FitsMessage (length old.members)) (answers_of old came peer)
      → SendsAnswers tells old (answers_of old came peer) (with_event old (serve_of old came peer asked)) result left
      → ServesAsk tells came old result left

-- tables that were served are taken, with the piece of this index, which completes them; or they are refused; or it is
-- pending
pub data TakesTables (came : Delivery) (index : ℕ) (entries : List Entry) (files : List FileReplica) (old : Whole) :
    Result Answer Refusal → Effect Whole → Type 0 where
  Takes : {was : Member} {new : Replica} {place : Behind} → IsNumbered old.members came.to was
      → was.state ≡ state.Up → IsNumbered old.post.behind came.mail place
      → AcceptGives was.replica came.from came.ask entries files (Ok new)
      → TakesTables came index entries files old (Ok Done)
      (saved came.to (advanced old came.to was new (event.Accept came.to place.position index)))
  TakesNot : {was : Member} {new : Replica} {place : Behind} → IsNumbered old.members came.to was
      → was.state ≡ state.Up → IsNumbered old.post.behind came.mail place
      → AcceptGives was.replica came.from came.ask entries files (Ok new)
      → TakesTables came index entries files old (Err refusal.Store)
      (not_saved old came.to was (pending_of new (event.Accept came.to place.position index)))
  Refuses : {was : Member} {r : Refusal} → IsNumbered old.members came.to was → was.state ≡ state.Up
      → r ≢ refusal.Memory → AcceptGives was.replica came.from came.ask entries files (Err r)
      → TakesTables came index entries files old (Err r) (unchanged old)

-- the tables that these bytes spell from the first to the last are taken; or they spell none
pub data TakesSpelled (came : Delivery) (index : ℕ) (bytes : List ℕ) (old : Whole) :
    Result Answer Refusal → Effect Whole → Type 0 where
  SpellsTables : {entries : List Entry} {files : List FileReplica} {result : Result Answer Refusal}
      {left : Effect Whole} → FitsTables (length old.members) entries files
      → bytes ≡ tables_bytes (length old.members) entries files
      → TakesTables came index entries files old result left → TakesSpelled came index bytes old result left
  SpellsNone : ((entries : List Entry) (files : List FileReplica) → FitsTables (length old.members) entries files
      → bytes ≡ tables_bytes (length old.members) entries files → ⊥)
      → TakesSpelled came index bytes old (Err refusal.BadMessage) (unchanged old)

-- what a member comes to that takes the tables which these bytes spell, and what is noted of that
pub record IsTaking (came : Delivery) (index : ℕ) (bytes : List ℕ) (old : Whole) (next : Pending) (noted : List ℕ) :
    Type 0 where
  pub was : Member
  pub is : IsNumbered old.members came.to was
  pub up : was.state ≡ state.Up
  pub place : Behind
  pub is_place : IsNumbered old.post.behind came.mail place
  pub entries : List Entry
  pub files : List FileReplica
  pub fits : FitsTables (length old.members) entries files
  pub spelled : bytes ≡ tables_bytes (length old.members) entries files
  pub gives : AcceptGives was.replica came.from came.ask entries files (Ok next.replica)
  pub happens : next.event ≡ event.Accept came.to place.position index
  pub sound : IsSoundNext (length old.members) (length old.events) came.to noted was.replica next.replica

-- the same, or why it takes none
abbrev pub GivesTaking : Delivery → ℕ → List ℕ → Whole → Result Taking Refusal → Type 0
GivesTaking came index bytes old (Ok taking) = IsTaking came index bytes old taking.next (body_in taking.noted.items)
GivesTaking came index bytes old (Err r) =
    r ≢ refusal.Memory → TakesSpelled came index bytes old (Err r) (unchanged old)

-- what a member holds of an answer before a piece of it: nothing, which is any number of pieces of any state, or what
-- it holds already
abbrev pub parts_held : Option HeldParts → PieceHead → HeldParts
parts_held None head = no_parts head.state head.pieces
parts_held (Some parts) head = parts

-- what is spelled by all pieces of which one came, where the others are those that a member holds
abbrev pub spelled_with : Member → PieceHead → List ℕ → List ℕ
spelled_with was head bytes = joined_parts (with_part (parts_held was.parts head) head.index bytes)

-- this is the member to whom a piece came, which is up, and waits for the answer
pub record IsWaiting (old : Whole) (came : Delivery) (was : Member) : Type 0 where
  pub is : IsNumbered old.members came.to was
  pub up : was.state ≡ state.Up
  pub open_ask : IsOpen was.replica came.from came.ask

-- finds to whom a piece came, and is refused where that member is down, doesn't wait for this answer, or holds pieces
-- of another state or of another number of them
pub data FindsTaker (came : Delivery) (head : PieceHead) (old : Whole) :
    Result Member Refusal → Effect Whole → Type 0 where
  TakerDown : {was : Member} → IsNumbered old.members came.to was → (was.state ≡ state.Up → ⊥)
      → FindsTaker came head old (Err refusal.Down) (unchanged old)
  AnswersNone : {was : Member} → IsNumbered old.members came.to was → was.state ≡ state.Up
      → (IsOpen was.replica came.from came.ask → ⊥) → FindsTaker came head old (Err refusal.Stale) (unchanged old)
  OfAnotherState : {was : Member} → IsWaiting old came was → (parts_held was.parts head).state ≢ head.state
      → FindsTaker came head old (Err refusal.Mixed) (unchanged old)
  OfOtherPieces : {was : Member} → IsWaiting old came was → (parts_held was.parts head).state ≡ head.state
      → (parts_held was.parts head).pieces ≢ head.pieces
      → FindsTaker came head old (Err refusal.BadMessage) (unchanged old)
  FindsIt : {was : Member} → IsWaiting old came was → (parts_held was.parts head).state ≡ head.state
      → (parts_held was.parts head).pieces ≡ head.pieces → FindsTaker came head old (Ok was) (unchanged old)

-- the member, who was this one, holds this of an answer now, and the taking of a piece is stored too
abbrev pub gathered : Whole → ℕ → Member → HeldParts → Event → Whole
gathered old by was parts event = with_event (with_member old by (record was { parts = Some parts })) event

-- A piece that fits comes to who takes it. Where it is held already, nothing changes; where others are missing beside
-- it, it is kept; where it is the last, the tables are taken that all spell together.
pub data TakesFitting (came : Delivery) (head : PieceHead) (bytes : List ℕ) (was : Member) (old : Whole) :
    Result Answer Refusal → Effect Whole → Type 0 where
  IsHeld : HasPart (parts_held was.parts head) head.index
      → TakesFitting came head bytes was old (Ok (Part (length (parts_held was.parts head).have) head.pieces))
      (unchanged old)
  IsOneMore : {place : Behind} → (HasPart (parts_held was.parts head) head.index → ⊥)
      → (HasAllBut (parts_held was.parts head) head.index → ⊥) → IsNumbered old.post.behind came.mail place
      → TakesFitting came head bytes was old
      (Ok (Part (length (parts_held was.parts head).have + 1) head.pieces)) (record {
        outcomes = [];
        after =
            gathered old came.to was (with_part (parts_held was.parts head) head.index bytes)
            (event.Take came.to place.position head.index);
      })
  IsTheLast : {result : Result Answer Refusal} {left : Effect Whole}
      → (HasPart (parts_held was.parts head) head.index → ⊥) → HasAllBut (parts_held was.parts head) head.index
      → TakesSpelled came head.index (spelled_with was head bytes) old result left
      → TakesFitting came head bytes was old result left

-- a piece that came is taken, or refused
abbrev pub TakesPiece : Delivery → PieceHead → List ℕ → WholeAction Answer
TakesPiece came head bytes = First (FindsTaker came head) (TakesFitting came head bytes)

-- what a piece is to what is held of the answer, of the same state and of as many pieces
abbrev pub IsPlaced : HeldParts → ℕ → Fitting → Type 0
IsPlaced held index (fitting.Again have) = HasPart held index × (have ≡ length held.have)
IsPlaced held index (fitting.OneMore have) =
    (HasPart held index → ⊥) × (HasAllBut held index → ⊥) × (have ≡ length held.have + 1)
IsPlaced held index fitting.TheLast = (HasPart held index → ⊥) × HasAllBut held index

-- what came is handled by its receiver
abbrev pub HandlesMessage : Type 0 → ℕ → Message → WholeAction Answer
HandlesMessage tells number (message.Ask from to ask) =
    ServesAsk tells (record { mail = number; from = from; to = to; ask = ask })
HandlesMessage tells number (message.Piece from to ask state pieces index bytes) =
    TakesPiece (record { mail = number; from = from; to = to; ask = ask })
    (head_of from to ask state pieces index) bytes

-- a message is given to its receiver
abbrev pub GivesMessage : Type 0 → ℕ → WholeAction Answer
GivesMessage tells number = First (FetchesMail tells number) (HandlesMessage tells number)

-- these messages are given in order, up to the first refusal
abbrev pub GivesMessages : Type 0 → List ℕ → WholeAction Answer
GivesMessages tells = Each (GivesMessage tells) Done

-- what was done where memory is refused on the way: the gives before
abbrev pub GivesSomeMessages : Type 0 → List ℕ → Cut Whole
GivesSomeMessages tells = EachPart (GivesMessage tells)

-- what was read of a member's disks is of the same member, volume and generation as what it saves
pub record IsLike (known read : Saved) : Type 0 where
  pub me : read.me ≡ known.me
  pub members : read.members ≡ known.members
  pub ids : read.ids ≡ known.ids
  pub bytes : read.bytes ≡ known.bytes
  pub generation : read.generation ≡ known.generation

-- this was read of a member's disks, where this is what it saves. That it is the same is a claim where the disks tell.
pub record IsReadAs (disks_tell : Type 0) (known read : Saved) : Type 0 where
  pub fits : FitsImage read
  pub like : IsLike known read
  pub told : disks_tell → read ≡ known

-- a member that has restarted: it is up, with what was read, waits for no answer, and holds nothing of one
abbrev pub restarted : Member → Saved → Member
restarted was read = record was { replica = record { saved = read; ask = None }; state = state.Up; parts = None }

-- what is pending at a member whose disks failed
abbrev pub still_pending : MemberState → Option Pending
still_pending state.Up = None
still_pending (state.Down pending) = pending

-- The disks of a member are opened again. Where they hold what it had, it restarts with that. Where they hold what was
-- pending, that has happened first. Else it is down, with what was pending. That they hold one of the two is a claim
-- where the disks tell.
pub data Reopens (disks_tell : Type 0) (by : ℕ) (was : Member) (old : Whole) :
    Result Answer Refusal → Effect Whole → Type 0 where
  ReopenedAsWas : {read : Saved} → IsReadAs disks_tell was.replica.saved read
      → Reopens disks_tell by was old (Ok Done) (record {
        outcomes = IsOpened by ∷ [];
        after = with_event (with_member old by (restarted was read)) (event.Restart by);
      })
  ReopenedAsPending : {pending : Pending} {read : Saved} → was.state ≡ state.Down (Some pending)
      → IsReadAs disks_tell pending.replica.saved read
      → Reopens disks_tell by was old (Ok Done) (record {
        outcomes = IsFound by ∷ [];
        after = with_event (with_event (with_member old by (restarted was read)) pending.event) (event.Restart by);
      })
  NotReopened : Reopens disks_tell by was old (Err refusal.Store) (record {
    outcomes = OpeningFails by ∷ [];
    after = downed old by was (still_pending was.state);
  })
  NoImageFound : (disks_tell → ⊥) → Reopens disks_tell by was old (Err refusal.Image) (record {
    outcomes = IsOpened by ∷ [];
    after = downed old by was (still_pending was.state);
  })

-- the disks of a member are armed, and it is refused where one of them has no fuse
pub data ArmsDisks (by calls pick : ℕ) (was : Member) (old : Whole) :
    Result Answer Refusal → Effect Whole → Type 0 where
  Arms : was.fused ≡ true
      → ArmsDisks by calls pick was old (Ok Done) (record { outcomes = IsArmed by calls pick ∷ []; after = old })
  ArmsNone : was.fused ≡ false → ArmsDisks by calls pick was old (Err refusal.NoFuse) (unchanged old)

-- the two members that are compared
pub record Compared : Type 0 where
  pub one : Member
  pub other : Member

-- finds two different members, and is refused where there aren't two, and where one of them is down
pub data FindsPeers (by other : ℕ) (old : Whole) : Result Compared Refusal → Effect Whole → Type 0 where
  FindsBoth : {one two : Member} → ArePeers (length old.members) by other → IsNumbered old.members by one
      → IsNumbered old.members other two → one.state ≡ state.Up → two.state ≡ state.Up
      → FindsPeers by other old (Ok (record { one = one; other = two })) (unchanged old)
  FindsNoPeers : (ArePeers (length old.members) by other → ⊥)
      → FindsPeers by other old (Err refusal.Member) (unchanged old)
  FindsOneDown : {one two : Member} → ArePeers (length old.members) by other → IsNumbered old.members by one
      → IsNumbered old.members other two → ((one.state ≡ state.Up) × (two.state ≡ state.Up) → ⊥)
      → FindsPeers by other old (Err refusal.Down) (unchanged old)

-- the two are compared as the rule says, by what both hold
abbrev pub TablesCompare : Compared → WholeAction Answer
TablesCompare both =
    ByRule (λ world. AlikeAnswer (tables_view both.one.replica.saved) (tables_view both.other.replica.saved))

-- a command that is no step of a world comes to nothing at all
abbrev pub no_step : Plan Whole
no_step = record { does = λ old result left. ⊥; part = λ old left. ⊥ }

-- the actions of which commands consist, over what the members of a world hold
abbrev pub of_tables : Type 0 → Type 0 → Actions Whole
of_tables tells disks_tell = record {
  Found = Member;
  FoundUp = Member;
  FoundPeers = Compared;
  finds = FindsMember;
  finds_up = FindsUp;
  finds_peers = FindsPeers;
  decides = λ by. TablesDecide;
  updates = KeepsUpdate;
  shows = λ by. TablesShow;
  collects = KeepsCollection;
  asks = KeepsAsk tells;
  gives = GivesMessage tells;
  compares = λ by other. TablesCompare;
  opens = Reopens disks_tell;
  arms = ArmsDisks;
  sweeps = λ order. no_step;
  explains = λ by. no_step;
}

-- what each command does to a world, action by action
abbrev pub CarriesOut : Type 0 → Type 0 → Command → WholeAction Answer
CarriesOut tells disks_tell command = (plan (of_tables tells disks_tell) command).does

-- a member that is up may want memory for what it holds
pub record IsWantedBy (old : Whole) (by : ℕ) (may : Member → Type 0) : Type 0 where
  pub member : Member
  pub is : IsNumbered old.members by member
  pub up : member.state ≡ state.Up
  pub so : may member

-- two different members, which are both up
pub record ArePeersUp (old : Whole) (by other : ℕ) : Type 0 where
  pub peers : ArePeers (length old.members) by other
  pub one : IsUpIn old by
  pub two : IsUpIn old other

-- where the command may end for want of memory, by what the members hold: a message is spelled before there is known
-- to be room for it, and is fetched before it is known what it says, and disks are read before it is known what they
-- hold
abbrev pub TablesMayWantMemory : Whole → Command → Type 0
TablesMayWantMemory old (command.Change by change) =
    IsWantedBy old by (λ member. MayWantMemory (tables_view member.replica.saved) change)
TablesMayWantMemory old (command.Look by look) =
    IsWantedBy old by (λ member. RefusesNothing (LookRule (tables_view member.replica.saved) look))
TablesMayWantMemory old (command.Collect by) = IsUpIn old by
TablesMayWantMemory old (command.Ask by to) =
    ArePeers (length old.members) by to × IsUpIn old by
TablesMayWantMemory old (command.Give number) = IsMember (length old.post.posts) number
TablesMayWantMemory old (command.Pull by to) = ArePeersUp old by to
TablesMayWantMemory old (command.Alike by other) = ArePeersUp old by other
TablesMayWantMemory old (command.Restart by) = IsMember (length old.members) by
TablesMayWantMemory old (command.Stop by calls pick) = ⊥
TablesMayWantMemory old (command.Sweep order) = ⊥
TablesMayWantMemory old (command.Why by) = ⊥

-- What each command leaves where memory is refused on the way: the world as it was; but a pull keeps its ask, and the
-- gives before. What the disks tell says nothing of it.
abbrev pub CutShort : Type 0 → Command → Cut Whole
CutShort tells command = (plan (of_tables tells ⊥) command).part

-- one command: what became of all that it asked of the outside, its answer, and the world after it
pub record Moves (tells disks_tell : Type 0) (old : Whole) (command : Command) (outcomes : List Outcome)
    (answer : Answer) (new : Whole) : Type 0 where
  pub result : Result Answer Refusal
  pub does : CarriesOut tells disks_tell command old result (record { outcomes = outcomes; after = new })
  pub answer_is : answer ≡ answer_as result

-- the member holds no garbage
abbrev pub HasNoGarbage : ℕ → Whole → Type 0
HasNoGarbage by world =
    (replica : Replica) → IsReplica world.members by replica
    → HoldsNoGarbage replica.saved.members replica.saved.entries replica.saved.files

-- where a member has collected, it holds no garbage
abbrev pub HasCollected : Command → Answer → Whole → Type 0
HasCollected asked given new =
    (by entries files : ℕ) → asked ≡ command.Collect by → given ≡ answer.Collected entries files → HasNoGarbage by new
