-- Which event may come after a history, and which histories are lawful.
use Rattle.std.specs.Prelude.{◌≡◌, ◌≢◌, ◌↔◌, ℕ, ◌+◌, ◌<◌, ◌≤◌, List, [], length, Contains, IfSome}
use Rattle.std.specs.Bool.{MatchBool}
use Rattle.ficus_ids.specs.Members.{IsMember}
use Rattle.ficus_ids.specs.Kind.{FitsKind}
use Rattle.ficus_ids.specs.declared.id.Id.{Id}
use Rattle.ficus_ids.specs.declared.kind.Kind.{Kind}
use Rattle.ficus_model.specs.declared.event.Event.{Event}
use Rattle.ficus_model.specs.declared.event.Event.TheVariants.{Update, Ask, Serve, Take, Accept, Collect, Restart}
use Rattle.ficus_model.specs.declared.event.Op.{Op}
use Rattle.ficus_model.specs.declared.event.Op.TheVariants.{Make, Link, Remove, Move, Write, Settle, Resolve, Adopt, Discard}
use Rattle.ficus_model.specs.Events.{IsAt, actor, before, count_of, generation_of, traits}
use Rattle.ficus_model.specs.Known.{Knows}
use Rattle.ficus_model.specs.Live.{ModelEntry, IsLive, IsBound, IsBoundBy, IsTaken, IsDirectory, IsFile, IsVersioned, HasInside}
use Rattle.ficus_model.specs.Reached.{IsReachedFrom}
use Rattle.ficus_model.specs.Versions.{IsInConflict, given_by, written_of}
use Rattle.ficus_model.specs.View.{IsOrphan, IsReachedDirectory, IsReachedFile}

-- the fixed numbers of a volume: its members, the most updates of one replica over its life, and the most
-- bytes that one replica writes over its life
pub record Volume : Type 0 where
  pub members : ℕ
  pub ids : ℕ
  pub bytes : ℕ

-- in this directory, which is in reach, a new entry of this name may be entered
pub record HasPlace (H : List Event) (U : ℕ → Type 0) (dir : Id) (name : List ℕ) : Type 0 where
  pub parent : IsReachedDirectory H U dir
  pub free : IsTaken H U dir name → ⊥

-- a live entry in a directory in reach names the object
pub record IsNamedInReach (H : List Event) (U : ℕ → Type 0) (object : Id) : Type 0 where
  pub dir : Id
  pub name : List ℕ
  pub parent : IsReachedDirectory H U dir
  pub bound : IsBound H U dir name object

-- the entries are all live ones of one directory in reach that have one name and lead to the object, and there are some
pub record AreNames (H : List Event) (U : ℕ → Type 0) (entries : List Id) (object : Id) : Type 0 where
  pub dir : Id
  pub name : List ℕ
  pub parent : IsReachedDirectory H U dir
  pub all : (id : Id) → Contains entries id ↔ IsBoundBy H U id dir name object
  pub some : entries ≢ []

-- a live entry that isn't among these leads to the object
pub record HasOtherName (H : List Event) (U : ℕ → Type 0) (entries : List Id) (object : Id) : Type 0 where
  pub entry : ModelEntry
  pub live : IsLive H U entry
  pub leads : entry.target ≡ object
  pub beside : Contains entries entry.id → ⊥

-- where the object is a directory, the place isn't reached from it
abbrev pub StaysOutside : List Event → (ℕ → Type 0) → Id → Id → Type 0
StaysOutside H U object dir = IsDirectory H U object → IsReachedFrom H U object dir → ⊥

-- an object of the kind is made with a text that it may have
pub record MayMake (H : List Event) (U : ℕ → Type 0) (dir : Id) (name : List ℕ) (kind : Kind) (text : List ℕ)
    : Type 0 where
  pub place : HasPlace H U dir name
  pub fits : FitsKind kind text

-- a file in reach gets one more name
pub record MayLink (H : List Event) (U : ℕ → Type 0) (dir : Id) (name : List ℕ) (target : Id) : Type 0 where
  pub place : HasPlace H U dir name
  pub is_file : IsFile H U target
  pub named : IsNamedInReach H U target

-- an object loses these names: of a directory in which something lives another name is left
pub record MayRemove (H : List Event) (U : ℕ → Type 0) (entries : List Id) (target : Id) : Type 0 where
  pub names : AreNames H U entries target
  pub left : IsDirectory H U target → HasInside H U target → HasOtherName H U entries target

-- an object has another name in place of these, a directory none below itself
pub record MayMove (H : List Event) (U : ℕ → Type 0)
    (entries : List Id) (dir : Id) (name : List ℕ) (target : Id) : Type 0 where
  pub names : AreNames H U entries target
  pub place : HasPlace H U dir name
  pub outside : StaysOutside H U target dir

-- a file in reach whose versions change, and that isn't in conflict, is written
pub record MayWrite (H : List Event) (U : ℕ → Type 0) (object : Id) : Type 0 where
  pub in_reach : IsReachedFile H U object
  pub versioned : IsVersioned H U object
  pub settled : IsInConflict H U object → ⊥

-- a file in reach whose versions change, and that is in conflict, is settled or resolved
pub record MaySettle (H : List Event) (U : ℕ → Type 0) (object : Id) : Type 0 where
  pub in_reach : IsReachedFile H U object
  pub versioned : IsVersioned H U object
  pub conflict : IsInConflict H U object

-- an orphan gets a name, a directory none below itself
pub record MayAdopt (H : List Event) (U : ℕ → Type 0) (object dir : Id) (name : List ℕ) : Type 0 where
  pub orphan : IsOrphan H U object
  pub place : HasPlace H U dir name
  pub outside : StaysOutside H U object dir

-- an orphan that is a file is given up
pub record MayDiscard (H : List Event) (U : ℕ → Type 0) (object : Id) : Type 0 where
  pub orphan : IsOrphan H U object
  pub is_file : IsFile H U object

-- the operation may be done where what U knows is known
abbrev pub IsAllowed : List Event → (ℕ → Type 0) → Op → Type 0
IsAllowed H U (Make dir name kind text) = MayMake H U dir name kind text
IsAllowed H U (Link dir name target) = MayLink H U dir name target
IsAllowed H U (Remove entries target) = MayRemove H U entries target
IsAllowed H U (Move entries dir name target) = MayMove H U entries dir name target
IsAllowed H U (Write file bytes) = MayWrite H U file
IsAllowed H U (Settle file bytes) = MaySettle H U file
IsAllowed H U (Resolve file bytes) = MaySettle H U file
IsAllowed H U (Adopt file dir name) = MayAdopt H U file dir name
IsAllowed H U (Discard file) = MayDiscard H U file

-- the most bytes of one file
abbrev pub most_file_bytes : ℕ
most_file_bytes = 16384

-- the replica may write these bytes, or make an object with them: they fit a file, and it has so many left
pub record FitsBytes (volume : Volume) (H : List Event) (by : ℕ) (bytes : List ℕ) : Type 0 where
  pub one_file : length bytes ≤ most_file_bytes
  pub left : written_of by H + length bytes ≤ volume.bytes

-- the bytes of an operation that gives a file any may be written
abbrev pub HasBytesLeft : Volume → List Event → ℕ → Op → Type 0
HasBytesLeft volume H by op = IfSome (given_by op) (λ bytes. FitsBytes volume H by bytes)

-- an event after which an answer to an earlier ask is no longer taken
abbrev pub ClosesAsk : ℕ → Event → Type 0
ClosesAsk replica event = MatchBool (traits event).closes (actor event ≡ replica) ⊥

-- at this position stands the ask of a replica, and no later event of it asks, takes an answer or restarts
pub record IsOpenAsk (H : List Event) (position replica to : ℕ) : Type 0 where
  pub ask : IsAt H position (Ask replica to)
  pub latest : (later : ℕ) (event : Event) → position < later → IsAt H later event → ClosesAsk replica event → ⊥

-- what was served at this position answers the open ask of the replica
pub record AnswersOpenAsk (H : List Event) (serve replica : ℕ) : Type 0 where
  pub server : ℕ
  pub ask : ℕ
  pub state : ℕ
  pub pieces : ℕ
  pub served : IsAt H serve (Serve server ask state pieces)
  pub open_ask : IsOpenAsk H ask replica server

-- the replica has taken the piece with this number, and no later event of it asks, takes an answer or restarts
pub record HasTaken (H : List Event) (replica piece : ℕ) : Type 0 where
  pub position : ℕ
  pub serve : ℕ
  pub taken : IsAt H position (Take replica serve piece)
  pub latest : (later : ℕ) (event : Event) → position < later → IsAt H later event → ClosesAsk replica event → ⊥

-- what was served at this position is of this state
pub record IsOfState (H : List Event) (serve state : ℕ) : Type 0 where
  pub server : ℕ
  pub ask : ℕ
  pub pieces : ℕ
  pub served : IsAt H serve (Serve server ask state pieces)

-- each piece that the replica has taken since its ask at this position is of this state
abbrev pub AreTakenOfState : List Event → ℕ → ℕ → ℕ → Type 0
AreTakenOfState H replica ask state =
    (position serve piece : ℕ) → ask < position → IsAt H position (Take replica serve piece) → IsOfState H serve state

-- The piece with this number of what was served at this position is one that the replica wants: the answer is to its
-- open ask, it hasn't taken that piece, and those that it has taken are of the same state.
pub record IsWantedPiece (H : List Event) (replica serve piece : ℕ) : Type 0 where
  pub answer : AnswersOpenAsk H serve replica
  pub below : piece < answer.pieces
  pub untaken : HasTaken H replica piece → ⊥
  pub of_state : AreTakenOfState H replica answer.ask answer.state

-- an update of a member that has updates and bytes left, and that may be done by what the member knows
pub record MayUpdate (volume : Volume) (H : List Event) (by : ℕ) (op : Op) : Type 0 where
  pub member : IsMember volume.members by
  pub left : count_of by H < volume.ids
  pub bytes : HasBytesLeft volume H by op
  pub allowed : IsAllowed H (Knows H by) op

-- one member asks another
pub record MayAsk (volume : Volume) (by to : ℕ) : Type 0 where
  pub member : IsMember volume.members by
  pub other : IsMember volume.members to
  pub differ : by ≢ to

-- a member serves an ask that was sent to it: the state of its generation, in some pieces, and in as many as when it
-- served that ask with that state before
pub record MayServe (volume : Volume) (H : List Event) (by ask state pieces : ℕ) : Type 0 where
  pub member : IsMember volume.members by
  pub asker : ℕ
  pub asked : IsAt H ask (Ask asker by)
  pub generation : state ≡ generation_of by H
  pub some : 1 ≤ pieces
  pub alike : (position other : ℕ) → IsAt H position (Serve by ask state other) → other ≡ pieces

-- a member takes a piece that it wants, and after it another is missing
pub record MayTake (volume : Volume) (H : List Event) (by serve piece : ℕ) : Type 0 where
  pub member : IsMember volume.members by
  pub wanted : IsWantedPiece H by serve piece
  pub other : ℕ
  pub other_below : other < wanted.answer.pieces
  pub differs : other ≢ piece
  pub missing : HasTaken H by other → ⊥

-- a member takes a piece that it wants, and so the state, since it has taken all others
pub record MayAccept (volume : Volume) (H : List Event) (by serve piece : ℕ) : Type 0 where
  pub member : IsMember volume.members by
  pub wanted : IsWantedPiece H by serve piece
  pub others : (other : ℕ) → other < wanted.answer.pieces → other ≢ piece → HasTaken H by other

-- the event may come after the history
abbrev pub MayCome : Volume → List Event → Event → Type 0
MayCome volume H (Update by op) = MayUpdate volume H by op
MayCome volume H (Ask by to) = MayAsk volume by to
MayCome volume H (Serve by ask state pieces) = MayServe volume H by ask state pieces
MayCome volume H (Take by serve piece) = MayTake volume H by serve piece
MayCome volume H (Accept by serve piece) = MayAccept volume H by serve piece
MayCome volume H (Collect by) = IsMember volume.members by
MayCome volume H (Restart by) = IsMember volume.members by

-- each event may come after those before it
pub record IsLawful (volume : Volume) (H : List Event) : Type 0 where
  pub each : (position : ℕ) (event : Event) → IsAt H position event → MayCome volume (before position H) event
