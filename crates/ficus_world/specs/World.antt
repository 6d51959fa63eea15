-- What contracts see of a world, and what it means that it stands for a world of the model.
use Rattle.std.specs.Prelude.{◌≡◌, ◌≢◌, ℕ, ◌+◌, ◌-◌, ◌*◌, ◌/◌, ◌^◌, ◌≤◌, Bool, true, List, [], ◌∷◌, ◌++◌, length, map, Option, Some, None}
use Rattle.ficus_ids.specs.Members.{IsCount}
use Rattle.ficus_codec.specs.Formats.{tables_bytes}
use Rattle.ficus_formats.specs.Pieces.{piece_at}
use Rattle.ficus_model.specs.declared.event.Event.{Event}
use Rattle.ficus_model.specs.declared.event.Event.TheVariants.{Serve}
use Rattle.ficus_model.specs.Events.{IsAt, actor, raised, through, traits}
use Rattle.ficus_model.specs.Lawful.{Volume, IsLawful, HasTaken}
use Rattle.ficus_durable_state.specs.Saved.{FitsImage}
use Rattle.ficus_durable_state.specs.Tables.{FitsTables}
use Rattle.ficus_durable_state.specs.declared.saved.Saved.{Saved}
use Rattle.ficus_stable_storage.specs.Leads.Holds.{Leads}
use Rattle.ficus_replica.specs.declared.replica.Replica.{Replica}
use Rattle.ficus_replica.specs.SavedOf.{IsSavedOf, StandsFor, StandsAfter}
use Rattle.ficus_wire.specs.declared.message.Message.{Message}
use Rattle.ficus_wire.specs.Message.{piece_limit}
use Rattle.ficus_wire.specs.Parts.{HasPart, HeldParts, RisesFrom, part_at}
use Rattle.ficus_stable_storage.specs.declared.stable.Stable.{Stable}
use Rattle.ficus_runs.specs.Exchange.{behind, total_limit}
use Rattle.ficus_runs.specs.Message.{IsMessageAt, IsSpelled}
use Rattle.ficus_runs.specs.ModelWorld.{ModelWorld, Standing}
use Rattle.ficus_runs.specs.ModelWorld as model
use Rattle.ficus_runs.specs.Numbered.{IsNumbered}
use Rattle.ficus_runs.specs.RunWorld.{IsRunWorld}
use Rattle.ficus_why.specs.Plain.{IsPlain}
use Rattle.ficus_opening.specs.declared.member.Member.{Member}
use Rattle.ficus_opening.specs.declared.member.MemberState.{MemberState}
use Rattle.ficus_opening.specs.declared.member.MemberState.TheVariants as state
use Rattle.ficus_opening.specs.declared.member.Pending.{Pending}
use Rattle.ficus_world.specs.declared.post.Behind.{Behind}
use Rattle.ficus_world.specs.Post.{Outbox}

-- the members, the events of this run, and what was posted
pub record Whole : Type 0 where
  pub members : List Member
  pub events : List Event
  pub post : Outbox

-- a world of these parts
abbrev pub whole_of : List Member → List Event → Outbox → Whole
whole_of members events post = record { members = members; events = events; post = post }

-- a world, and for each member the keeper of what it saves
pub record Backed (K : Type 0) : Type 0 where
  pub whole : Whole
  pub stables : List (Stable K)

-- a world with these keepers
abbrev pub backed_by : {K : Type 0} → Whole → List (Stable K) → Backed K
backed_by whole stables = record { whole = whole; stables = stables }

-- the most events that one command stores: a pull its ask, the serving of it, and one for each piece of the answer
abbrev pub most_events : ℕ
most_events = 2 + piece_limit

-- a command is carried out while fewer events are stored than this, since a position is below 2^32
abbrev pub event_limit : ℕ
event_limit = 4294000000

-- the fewest bytes of a message, which are those of an ask
abbrev pub smallest_message : ℕ
smallest_message = 12

-- the most messages that are posted in one run
abbrev pub message_limit : ℕ
message_limit = total_limit / smallest_message

-- how many events are stored, and one more for each message that may still be posted
abbrev pub foreseen : Whole → ℕ
foreseen world = length world.events + (message_limit - length world.post.posts)

-- the most events that one command stores beside one for each message that it posts
abbrev pub most_unforeseen : ℕ
most_unforeseen = 2

-- what member r holds, which is up
pub record IsReplica (members : List Member) (r : ℕ) (replica : Replica) : Type 0 where
  pub member : Member
  pub is : IsNumbered members r member
  pub up : member.state ≡ state.Up
  pub holds : replica ≡ member.replica

-- member r is up
pub record IsUpIn (world : Whole) (r : ℕ) : Type 0 where
  pub member : Member
  pub is : IsNumbered world.members r member
  pub up : member.state ≡ state.Up

-- What holds of each replica of every world. It has saved 2^62 times at most before this run, and once at most for
-- each event, so that there is a generation for the next.
pub record IsSound (count events r : ℕ) (replica : Replica) : Type 0 where
  pub me : replica.saved.me ≡ r
  pub members : replica.saved.members ≡ count
  pub fits : FitsImage replica.saved
  pub generation : replica.saved.generation ≤ 2 ^ 62 + events

-- what is pending at a member that is down has saved once more than it, and its event is the member's own
abbrev pub IsPendingSound : ℕ → ℕ → ℕ → Replica → MemberState → Type 0
IsPendingSound count events r replica state.Up = Unit {0}
IsPendingSound count events r replica (state.Down None) = Unit {0}
IsPendingSound count events r replica (state.Down (Some pending)) =
    IsSound count (events + 1) r pending.replica
    × (pending.replica.saved.generation ≡ replica.saved.generation + 1)
    × (actor pending.event ≡ r)

-- what holds of each member of every world
pub record IsSoundMember (count events r : ℕ) (member : Member) : Type 0 where
  pub replica : IsSound count events r member.replica
  pub pending : IsPendingSound count events r member.replica member.state

-- what holds of every world: of its members; the stored events are plain; and something lies behind each message, which
-- has as many bytes at least as the smallest, so that there are no more than have room in one run
pub record IsWorld (world : Whole) : Type 0 where
  pub count : IsCount (length world.members)
  pub sound : (r : ℕ) (member : Member) → IsNumbered world.members r member
      → IsSoundMember (length world.members) (length world.events) r member
  pub plain : IsPlain world.events
  pub counted : length world.post.posts ≡ length world.post.behind
  pub few : smallest_message * length world.post.posts ≤ world.post.total
  pub within : length world.post.posts ≤ message_limit

-- the stored events are the last part of the history
pub record IsLastPart (events H : List Event) : Type 0 where
  pub earlier : List Event
  pub is : H ≡ earlier ++ map (raised (length earlier)) events

-- none of these events is the member's own
abbrev pub AreOthers : ℕ → List Event → Type 0
AreOthers r [] = Unit {0}
AreOthers r (event ∷ events) = (actor event ≢ r) × AreOthers r events

-- What is pending at member r, as in the code and as in the model: an event of its own that is saved. Whatever others
-- do meanwhile, the event may still come, and the replica stands for the history with it.
pub record IsPendingFor (volume : Volume) (H : List Event) (raise r : ℕ) (pending : Pending) (event : Event) :
    Type 0 where
  pub raises : raised raise pending.event ≡ event
  pub own : actor event ≡ r
  pub saves : (traits event).saves ≡ true
  pub follows : (later : List Event) → AreOthers r later → IsLawful volume (H ++ later)
      → StandsAfter volume (H ++ later) r event pending.replica

-- the state of a member in the code is that in the model
abbrev pub StateStandsFor : Volume → List Event → ℕ → ℕ → MemberState → Standing → Type 0
StateStandsFor volume H raise r state.Up model.Up = Unit {0}
StateStandsFor volume H raise r (state.Down None) (model.Down None) = Unit {0}
StateStandsFor volume H raise r (state.Down (Some pending)) (model.Down (Some event)) =
    IsPendingFor volume H raise r pending event
StateStandsFor volume H raise r other modelled = ⊥

-- the piece with this index of what was served at a position, where that is a Serve of this state with so many pieces
pub record IsPieceOfServe (volume : Volume) (H : List Event) (serve index state pieces : ℕ) (bytes : List ℕ) :
    Type 0 where
  pub server : ℕ
  pub ask : ℕ
  pub served : IsAt H serve (Serve server ask state pieces)
  pub saved : Saved
  pub is : IsSavedOf volume (through serve H) server saved
  pub piece : bytes ≡ piece_at (tables_bytes volume.members saved.entries saved.files) index

-- these are the pieces that the replica has taken since its ask, one at least, each of them as it was served
pub record ArePartsOf (volume : Volume) (H : List Event) (r : ℕ) (parts : HeldParts) : Type 0 where
  pub rising : RisesFrom 0 parts.pieces parts.have
  pub some : 1 ≤ length parts.have
  pub taken : (index : ℕ) → HasTaken H r index → HasPart parts index
  pub each : (index : ℕ) (bytes : List ℕ) → part_at parts index ≡ Some bytes
      → (taken : HasTaken H r index) × IsPieceOfServe volume H taken.serve index parts.state parts.pieces bytes

-- what a member holds of an answer is what its replica has taken of it, if anything
abbrev pub PartsStandFor : Volume → List Event → ℕ → Option HeldParts → Type 0
PartsStandFor volume H r None = (index : ℕ) → HasTaken H r index → ⊥
PartsStandFor volume H r (Some parts) = ArePartsOf volume H r parts

-- the replica of a member stands for the history, so does what it holds of an answer, its state is that of the model,
-- and so is whether its disks have a fuse
pub record MemberStandsFor (volume : Volume) (H : List Event) (raise r : ℕ) (member : Member) (modelled : Standing)
    (fused : Bool) : Type 0 where
  pub replica : StandsFor volume H r member.replica
  pub parts : PartsStandFor volume H r member.parts
  pub state : StateStandsFor volume H raise r member.state modelled
  pub fuses : member.fused ≡ fused

-- with this number these bytes were posted, which spell the message behind this position of the history, with this
-- index
pub record IsPosted (volume : Volume) (W : ModelWorld) (number position index : ℕ) (bytes : List ℕ) : Type 0 where
  pub numbered : IsNumbered W.posted number (behind position index)
  pub message : Message
  pub is : IsMessageAt volume W.events position index message
  pub spelled : IsSpelled volume.members bytes message

-- what was served at each position of the run fits tables
abbrev pub FitsServed : Volume → ModelWorld → Type 0
FitsServed volume W =
    (position server ask state pieces : ℕ) (saved : Saved) → W.earlier ≤ position
    → IsAt W.events position (Serve server ask state pieces) → IsSavedOf volume (through position W.events) server saved
    → FitsTables volume.members saved.entries saved.files

-- The world stands for one of the model: what happened there is lawful, and ends with the stored events, which are
-- those of the run; there are as many members, 2 to 8, and each stands as the model says; as many bytes and messages
-- were posted, each of them the spelling of the message behind its position, which is the stored one, raised as the
-- stored events are; and it is one of a run, so that each Serve has as many pieces as the tables of what its server
-- saved there, which fit tables.
pub record WorldStandsFor (volume : Volume) (W : ModelWorld) (world : Whole) : Type 0 where
  pub count : IsCount volume.members
  pub members : length world.members ≡ volume.members
  pub standings : length W.standings ≡ volume.members
  pub fuses : length W.fused ≡ volume.members
  pub lawful : IsLawful volume W.events
  pub stored : IsLastPart world.events W.events
  pub began : length stored.earlier ≡ W.earlier
  pub each : (r : ℕ) (member : Member) (modelled : Standing) (fused : Bool) → IsNumbered world.members r member
      → IsNumbered W.standings r modelled → IsNumbered W.fused r fused
      → MemberStandsFor volume W.events (length stored.earlier) r member modelled fused
  pub run : IsRunWorld volume W
  pub served : FitsServed volume W
  pub total : world.post.total ≡ W.total
  pub posted : length W.posted ≡ length world.post.behind
  pub counted : length world.post.posts ≡ length world.post.behind
  pub mail : (number : ℕ) (place : Behind) (bytes : List ℕ) → IsNumbered world.post.behind number place
      → IsNumbered world.post.posts number bytes
      → IsPosted volume W number (place.position + length stored.earlier) place.index bytes

-- what a member is after an event of its own: what is noted of the event leads to what it saves then
pub record IsSoundNext (count events r : ℕ) (noted : List ℕ) (was next : Replica) : Type 0 where
  pub sound : IsSound count (events + 1) r next
  pub leads : Leads noted was.saved next.saved
