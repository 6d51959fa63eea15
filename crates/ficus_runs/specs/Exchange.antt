-- How members exchange messages.
use Rattle.std.specs.Prelude.{◌≡◌, ℕ, ◌+◌, ◌-◌, ◌≤◌, ◌==◌, if◌then◌else◌, List, [], ◌∷◌, ◌++◌, length, map, sum_by}
use Rattle.std.specs.List.{range_with_len}
use Rattle.ficus_ids.specs.Members.{IsMember}
use Rattle.ficus_ids.specs.declared.refusal.Refusal.TheVariants as refusal
use Rattle.ficus_codec.specs.Formats.{tables_bytes}
use Rattle.ficus_model.specs.declared.event.Event.{Event}
use Rattle.ficus_model.specs.declared.event.Event.TheVariants.{Ask, Serve, Take, Accept}
use Rattle.ficus_model.specs.Events.{IsAt, through, generation_of}
use Rattle.ficus_model.specs.Lawful.{Volume, MayCome, AnswersOpenAsk, HasTaken, IsOfState}
use Rattle.ficus_model.specs.Vectors.{Counts}
use Rattle.ficus_runs.specs.Pieces.Laws.{HasServedAll}
use Rattle.ficus_replica.specs.SavedOf.{IsSavedOf}
use Rattle.ficus_rules.specs.Rule.{Gives, Tells}
use Rattle.ficus_durable_state.specs.declared.saved.Saved.{Saved}
use Rattle.ficus_script.specs.declared.answer.Answer.{Answer}
use Rattle.ficus_script.specs.declared.answer.Answer.TheVariants.{Alike, Collected, Done, Made, Mail, Mails, Part, Refused, Swept, Told, Why}
use Rattle.ficus_wire.specs.Message.{message_bytes, messages_of_tables}
use Rattle.ficus_wire.specs.declared.message.Message.{Message}
use Rattle.ficus_runs.specs.Actions.{ModelAction, Wants, GivesOnly, Each, EachPart, Adds, Saves, Posts, Fetches, next_mail, next_position}
use Rattle.ficus_runs.specs.Message.{IsMessageAt}
use Rattle.ficus_runs.specs.ModelWorld.{ModelWorld, Posted, IsUp}
use Rattle.ficus_runs.specs.Numbered.{IsNumbered}
use Rattle.ficus_runs.specs.Sequence.{First, ByRule, Cut}

-- how many bytes the message has
abbrev pub size_of : Message → ℕ
size_of message = length (message_bytes message)

-- the message that will stand behind the event, an ask, if it comes next
abbrev pub Composes : Volume → Event → ModelAction Message
Composes volume event =
    ByRule (λ W. Tells (λ message. message) (IsMessageAt volume (W.events ++ event ∷ []) (length W.events) 0))

-- the most bytes that are posted in one run
abbrev pub total_limit : ℕ
total_limit = 1073741824

-- the link has room for so many bytes more
abbrev pub WantsRoom : ℕ → ModelAction (Unit {0})
WantsRoom size = Wants (λ W. W.total + size ≤ total_limit) refusal.LinkFull

-- behind the event at a position stands one message, or at a Serve the piece with this index
abbrev pub behind : ℕ → ℕ → Posted
behind position index = record { position = position; index = index }

-- one of two different members, which takes commands, asks the other; gives the number of its message
abbrev pub Asks : Volume → ℕ → ℕ → ModelAction ℕ
Asks volume by to =
    First (Wants (λ W. MayCome volume W.events (Ask by to)) refusal.Member)
    (λ may. First (Wants (IsUp by) refusal.Down)
    (λ up. First (Composes volume (Ask by to))
    (λ message. First (WantsRoom (size_of message))
    (λ room. First (Saves next_position by (Ask by to))
    (λ position. Posts (behind position 0) (size_of message))))))

-- What lies behind a message: an ask, its position and who is to serve it; or a piece of what was served, the position
-- of the Serve, who asked for it, the index of the piece, and how many pieces there are.
pub data Behind : Type 0 where
  AnAsk : ℕ → ℕ → Behind
  APiece : ℕ → ℕ → ℕ → ℕ → Behind

pub data LiesBehind (W : ModelWorld) (number : ℕ) : Behind → Type 0 where
  IsAsk : {position index asker server : ℕ} → IsNumbered W.posted number (behind position index)
      → IsAt W.events position (Ask asker server) → LiesBehind W number (AnAsk position server)
  IsPiece : {position index ask state pieces asker server : ℕ} → IsNumbered W.posted number (behind position index)
      → IsAt W.events position (Serve server ask state pieces) → IsAt W.events ask (Ask asker server)
      → LiesBehind W number (APiece position asker index pieces)

-- finds what lies behind a message
abbrev pub Finds : ℕ → ModelAction Behind
Finds number = ByRule (λ W. Tells (λ found. found) (LiesBehind W number))

-- to whom a message goes
abbrev pub receiver : Behind → ℕ
receiver (AnAsk position server) = server
receiver (APiece position asker index pieces) = asker

-- what is served in answer to an ask: the state of the server, its generation; and the messages in which it goes
pub record Served : Type 0 where
  pub state : ℕ
  pub messages : List Message

-- it is what the server saves, in pieces, for who asked at this position, and may be served
pub record IsServedNow (volume : Volume) (H : List Event) (server ask : ℕ) (served : Served) : Type 0 where
  pub asker : ℕ
  pub asked : IsAt H ask (Ask asker server)
  pub saved : Saved
  pub is : IsSavedOf volume H server saved
  pub state : served.state ≡ saved.generation
  pub messages : served.messages ≡ messages_of_tables server asker (generation_of asker (through ask H))
      saved.generation (tables_bytes volume.members saved.entries saved.files)
  pub may : MayCome volume H (Serve server ask served.state (length served.messages))

-- finds what the member serves, if it serves the ask at this position next
abbrev pub Cuts : Volume → ℕ → ℕ → ModelAction Served
Cuts volume server ask = ByRule (λ W. Tells (λ served. served) (IsServedNow volume W.events server ask))

-- the messages of these sizes are posted in order, with the pieces behind them from this index on
abbrev pub PostsEach : ℕ → ℕ → List ℕ → ModelAction (Unit {0})
PostsEach position index [] = GivesOnly tt
PostsEach position index (size ∷ sizes) =
    First (Posts (behind position index) size) (λ number. PostsEach position (index + 1) sizes)

-- so many messages from this number on are answered with it, and with the last where there are several
abbrev pub mailed : ℕ → ℕ → Answer
mailed first count = if count == 1 then Mail first else Mails first (first + count - 1)

-- an ask that came is served, and then the pieces are posted; where a post fails, what was done before it stands
abbrev pub Serves : Volume → ℕ → ℕ → ModelAction Answer
Serves volume server ask =
    First (Cuts volume server ask)
    (λ served. First (WantsRoom (sum_by size_of served.messages))
    (λ room. First (Adds next_position (Serve server ask served.state (length served.messages)))
    (λ position. First (ByRule (λ W. Gives (next_mail W)))
    (λ first. First (PostsEach position 0 (map size_of served.messages))
    (λ posted. GivesOnly (mailed first (length served.messages)))))))

-- the pieces that the replica has taken since its ask are of the state that was served at this position
abbrev pub IsOneState : List Event → ℕ → ℕ → Type 0
IsOneState H replica serve =
    (state piece : ℕ) → IsOfState H serve state → (taken : HasTaken H replica piece) → IsOfState H taken.serve state

-- What taking a piece comes to: it was taken already; it is one of several that are missing; or it completes the state.
-- In the first two so many pieces are taken then.
pub data Taking : Type 0 where
  Again : ℕ → Taking
  OneMore : ℕ → Taking
  TheLast : Taking

-- the replica has taken so many of these pieces since its ask
abbrev pub Have : List Event → ℕ → ℕ → ℕ → Type 0
Have H replica pieces have = Counts (HasTaken H replica) pieces have

pub data ComesToTaking (volume : Volume) (H : List Event) (replica serve index pieces : ℕ) : Taking → Type 0 where
  IsTaken : {have : ℕ} → HasTaken H replica index → Have H replica pieces have
      → ComesToTaking volume H replica serve index pieces (Again have)
  IsMissing : {have : ℕ} → MayCome volume H (Take replica serve index) → Have H replica pieces have
      → ComesToTaking volume H replica serve index pieces (OneMore (have + 1))
  Completes : MayCome volume H (Accept replica serve index)
      → ComesToTaking volume H replica serve index pieces TheLast

-- so many of all pieces are taken then; or, with the last, the answer is
abbrev pub Taken : ℕ → ℕ → ℕ → ℕ → Taking → ModelAction Answer
Taken asker serve index pieces (Again have) = GivesOnly (Part have pieces)
Taken asker serve index pieces (OneMore have) = Adds (λ W. Part have pieces) (Take asker serve index)
Taken asker serve index pieces TheLast = Saves (λ W. Done) asker (Accept asker serve index)

-- a piece that came is taken, where it answers the open ask of who asked, and is of the state of those taken before it
abbrev pub TakesPiece : Volume → ℕ → ℕ → ℕ → ℕ → ModelAction Answer
TakesPiece volume serve asker index pieces =
    First (Wants (λ W. AnswersOpenAsk W.events serve asker) refusal.Stale)
    (λ answers. First (Wants (λ W. IsOneState W.events asker serve) refusal.Mixed)
    (λ one. First (ByRule (λ W. Tells (λ taking. taking) (ComesToTaking volume W.events asker serve index pieces)))
    (Taken asker serve index pieces)))

-- what came is handled by its receiver
abbrev pub Handles : Volume → Behind → ModelAction Answer
Handles volume (AnAsk position server) = Serves volume server position
Handles volume (APiece position asker index pieces) = TakesPiece volume position asker index pieces

-- a message is given to its receiver, which has to take commands
abbrev pub GivesMail : Volume → ℕ → ModelAction Answer
GivesMail volume number =
    First (Wants (λ W. IsMember (length W.posted) number) refusal.NoMail)
    (λ some. First Fetches
    (λ fetched. First (Finds number)
    (λ found. First (Wants (IsUp (receiver found)) refusal.Down) (λ up. Handles volume found))))

-- the numbers of the messages that an answer tells of
abbrev pub mails_of : Answer → List ℕ
mails_of (Mail number) = number ∷ []
mails_of (Mails first last) = range_with_len first (last + 1 - first)
mails_of Done = []
mails_of (Made number) = []
mails_of (Part have of) = []
mails_of (Collected entries files) = []
mails_of (Told told) = []
mails_of (Alike same) = []
mails_of (Swept pulls entries files) = []
mails_of (Why lines) = []
mails_of (Refused refusal) = []

-- these messages are given in order, up to the first refusal
abbrev pub GivesEach : Volume → List ℕ → ModelAction Answer
GivesEach volume = Each (GivesMail volume) Done

-- what was done where memory is refused on the way: the gives before
abbrev pub GivesSome : Volume → List ℕ → Cut ModelWorld
GivesSome volume = EachPart (GivesMail volume)

-- each Serve of the run had as many pieces as the tables that its server saved there have
pub record ServesAll (volume : Volume) (W : ModelWorld) : Type 0 where
  pub each : (position server ask state pieces : ℕ) → W.earlier ≤ position
      → IsAt W.events position (Serve server ask state pieces)
      → HasServedAll (tables_bytes volume.members) volume W.events position server pieces
