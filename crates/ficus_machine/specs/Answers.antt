-- What a machine answers to a line, and why.
use Rattle.std.specs.Prelude.{◌≡◌, ◌≢◌, ℕ, ◌+◌, ◌<◌, nat_le, ◌&&◌, if◌then◌else◌, List, [], ◌∷◌, ◌++◌, length, map, Option, Some, None, Result, Ok, Err}
use Rattle.ficus_codec.specs.Formats.{tables_bytes}
use Rattle.ficus_faults.specs.Faults.{Rose}
use Rattle.ficus_ids.specs.declared.refusal.Refusal.{Refusal}
use Rattle.ficus_ids.specs.declared.refusal.Refusal.TheVariants as refusal
use Rattle.ficus_mailbox.specs.Calls.{given_as}
use Rattle.ficus_mailbox.specs.Letter.{Letter}
use Rattle.ficus_mailbox.specs.MessageName.{name_text}
use Rattle.ficus_mailbox.specs.declared.found.Found.{Found}
use Rattle.ficus_mailbox.specs.declared.found.Found.TheVariants.{Nothing}
use Rattle.ficus_mailbox.specs.declared.mailbox.Mailbox.{Ghosts as Mailbox}
use Rattle.ficus_mailbox.specs.declared.message_name.MessageName.TheVariants as name
use Rattle.ficus_member_script.specs.declared.member_answer.MemberAnswer.{MemberAnswer}
use Rattle.ficus_member_script.specs.declared.member_answer.MemberAnswer.TheVariants.{Asked, Plain, Served}
use Rattle.ficus_member_script.specs.declared.member_line.MemberLine.{MemberLine}
use Rattle.ficus_member_script.specs.declared.member_line.MemberLine.TheVariants.{Does, Take}
use Rattle.ficus_note.specs.declared.asked.Asked.{Asked as Noted}
use Rattle.ficus_opening.specs.declared.member.Member.{Member}
use Rattle.ficus_replica.specs.declared.replica.Asked.{Asked as OpenAsk}
use Rattle.ficus_replica.specs.declared.replica.Replica.{Replica}
use Rattle.ficus_runs.specs.Answers.{answer_as}
use Rattle.ficus_runs.specs.Numbered.{IsNumbered}
use Rattle.ficus_script.specs.declared.answer.Answer.{Answer}
use Rattle.ficus_script.specs.declared.answer.Answer.TheVariants.{Done, Refused}
use Rattle.ficus_script.specs.declared.command.Command.{Command}
use Rattle.ficus_script.specs.declared.command.Command.TheVariants as command
use Rattle.ficus_wire.specs.Message.{FitsMessage, ask_of, message_bytes, messages_of_tables, piece_of}
use Rattle.ficus_wire.specs.declared.message.Message.{Message}
use Rattle.ficus_wire.specs.declared.message.PieceHead.{PieceHead}
use Rattle.ficus_wire.specs.declared.message.Route.{Route}
use Rattle.ficus_world.specs.Hearing.{Awaits, FetchesNot, HearsNot}
use Rattle.ficus_world.specs.Machines.Part.{Deed, Asks as AsksDeed, Gives, command_of}
use Rattle.ficus_world.specs.Machines.Together.{Renews, Told}
use Rattle.ficus_world.specs.Post.{Outbox}
use Rattle.ficus_world.specs.World.{IsReplica, IsUpIn, Whole}
use Rattle.ficus_machine.specs.Came.{IsSealedFor, letter_of}
use Rattle.ficus_machine.specs.Line.{GoesOn, told_of}

-- the answer that refuses
abbrev pub refused : Refusal → MemberAnswer
refused r = Plain (Refused r)

-- of whom a command asks something
abbrev pub performer : Command → Option ℕ
performer (command.Change by change) = Some by
performer (command.Look by look) = Some by
performer (command.Collect by) = Some by
performer (command.Ask by to) = Some by
performer (command.Restart by) = Some by
performer other = None

-- a line of another's number: it is no member's, or that member is down here
abbrev pub elsewhere : ℕ → ℕ → Refusal
elsewhere members by = if nat_le 1 by && nat_le by members then refusal.Down else refusal.Member

-- the command is no ask, or it was refused
abbrev pub IsPlainly : Command → Result Answer Refusal → Type 0
IsPlainly (command.Ask by to) (Ok answer) = ⊥
IsPlainly (command.Ask by to) (Err r) = Unit {0}
IsPlainly other result = Unit {0}

-- the pieces of what a member has saved, by which it answers an ask
abbrev pub pieces_of : Whole → ℕ → Route → Replica → List Message
pieces_of world me way replica =
    messages_of_tables me way.from way.number replica.saved.generation
    (tables_bytes (length world.members) replica.saved.entries replica.saved.files)

-- of the two members only what is held of an answer differs
pub record HoldsOther (was now : Member) : Type 0 where
  pub replica : now.replica ≡ was.replica
  pub state : now.state ≡ was.state
  pub fused : now.fused ≡ was.fused

-- so it is of member r
pub record OnlyHolds (r : ℕ) (old new : Whole) : Type 0 where
  pub count : length new.members ≡ length old.members
  pub each : (was now : Member) → IsNumbered old.members r was → IsNumbered new.members r now → HoldsOther was now

-- the ask to which a piece is an answer
abbrev pub answered : PieceHead → OpenAsk
answered head = record { to = head.route.from; number = head.route.number }

-- the piece of the same answer with this index
abbrev pub sibling : PieceHead → ℕ → PieceHead
sibling head index = record head { index = index }

abbrev pub sibling_name : PieceHead → ℕ → List ℕ
sibling_name head index =
    name_text (name.Piece head.route.from head.route.to head.route.number head.state index)

-- the bytes spell the piece
pub record SpellsPiece (members : ℕ) (head : PieceHead) (spelled : List ℕ) : Type 0 where
  pub bytes : List ℕ
  pub fits : FitsMessage members (piece_of head bytes)
  pub is : spelled ≡ message_bytes (piece_of head bytes)

-- So many of the pieces of an answer were given, from the first on: none of them was refused, and with none of them the
-- state was taken.
pub data GaveFirst (me members : ℕ) (head : PieceHead) : ℕ → List Told → Type 0 where
  GaveNone : GaveFirst me members head 0 []
  GaveOneMore : {index : ℕ} {told : List Told} (number : ℕ) (spelled : List ℕ) (answer : Answer)
      → GaveFirst me members head index told → SpellsPiece members (sibling head index) spelled → answer ≢ Done
      → GaveFirst me members head (index + 1) (told ++ told_of me (Gives number spelled) (Ok answer) ∷ [])

-- Pieces of an answer were given, from the first on, and all but the last one are kept. The last one was answered so.
pub record GaveUpTo (me members : ℕ) (head : PieceHead) (result : Result Answer Refusal) (told : List Told) :
    Type 0 where
  pub index : ℕ
  pub within : index < head.pieces
  pub before : List Told
  pub first : GaveFirst me members head index before
  pub number : ℕ
  pub spelled : List ℕ
  pub spells : SpellsPiece members (sibling head index) spelled
  pub is : told ≡ before ++ told_of me (Gives number spelled) result ∷ []

module _ {M : Type 0} (mailbox : Mailbox M) where
  -- this was found under the name, and nothing else
  abbrev pub Gave : List ℕ → Found → M → M → Type 0
  Gave name found was now = mailbox.tells → mailbox.given now ≡ mailbox.given was ++ given_as name found ∷ []

  -- the mailbox has failed
  abbrev pub HasFailed : M → M → Type 0
  HasFailed was now = Rose (mailbox.faults was) (mailbox.faults now)

  -- The answer to a command. `noted`: what is noted then.
  pub data CommandAnswers (me : ℕ) (noted : Option Noted) (old new : Whole) (was now : M) :
      Command → List Told → MemberAnswer → Type 0 where
    -- It is another member's.
    Elsewhere : {asked : Command} {by : ℕ} → performer asked ≡ Some by → by ≢ me → new ≡ old
        → CommandAnswers me noted old new was now asked [] (refused (elsewhere (length old.members) by))
    -- The world answers it.
    Own : {deed : Deed} {result : Result Answer Refusal} → IsPlainly (command_of me deed) result
        → CommandAnswers me noted old new was now (command_of me deed) (told_of me deed result ∷ [])
        (Plain (answer_as result))
    -- It is an ask, which is open and noted, and its message is put.
    Asks : {to number : ℕ} (answer : Answer) (letter : Letter)
        → letter.name ≡ name.Ask me to number → Awaits new me (record { to = to; number = number })
        → noted ≡ Some (record { to = to; number = number })
        → (mailbox.tells → mailbox.posted now ≡ mailbox.posted was ++ letter ∷ [])
        → CommandAnswers me noted old new was now (command.Ask me to) (told_of me (AsksDeed to) (Ok answer) ∷ [])
        (Asked number)
    -- It isn't put: the mailbox has failed. The ask is open and noted.
    AsksInVain : {to number : ℕ} {answer : Answer} → Awaits new me (record { to = to; number = number })
        → noted ≡ Some (record { to = to; number = number }) → HasFailed was now
        → CommandAnswers me noted old new was now (command.Ask me to) (told_of me (AsksDeed to) (Ok answer) ∷ [])
        (refused refusal.Link)

  -- Why a piece of an answer isn't put: the mailbox has failed, or the message isn't fetched from the world's own link.
  pub data IsUnput (was now : M) : Type 0 where
    NotPut : HasFailed was now → IsUnput was now
    NotFetched : {number : ℕ} {old new : Outbox} {r : Refusal} → FetchesNot number old new r → r ≢ refusal.Memory
        → IsUnput was now

  -- The answer to an ask that came: these bytes spell it.
  pub data AskAnswers (me : ℕ) (tag : List ℕ) (way : Route) (old : Whole) (was now : M) :
      List Told → MemberAnswer → Type 0 where
    -- It isn't heard.
    Unheard : {post : Outbox} {r : Refusal} → HearsNot (message_bytes (ask_of way)) old.post post r
        → r ≢ refusal.Memory → AskAnswers me tag way old was now [] (refused r)
    -- The world refuses it.
    Declines : {number : ℕ} {r : Refusal} → AskAnswers me tag way old was now
        (told_of me (Gives number (message_bytes (ask_of way))) (Err r) ∷ []) (refused r)
    -- All pieces of what the member has saved are put.
    Answers : {number : ℕ} {answer : Answer} {replica : Replica} → IsReplica old.members me replica
        → (mailbox.tells
        → mailbox.posted now ≡ mailbox.posted was ++ map (letter_of tag) (pieces_of old me way replica))
        → AskAnswers me tag way old was now
        (told_of me (Gives number (message_bytes (ask_of way))) (Ok answer) ∷ [])
        (Served (length (pieces_of old me way replica)) replica.saved.generation)
    -- One isn't put.
    AnswersInVain : {number : ℕ} {answer : Answer} → IsUnput was now → AskAnswers me tag way old was now
        (told_of me (Gives number (message_bytes (ask_of way))) (Ok answer) ∷ []) (refused refusal.Link)

  -- Why a piece of an answer isn't given, or isn't kept. `IsBefore`: what was given before the piece with an index.
  pub data HindersOne (disks_tell : Type 0) (me : ℕ) (tag : List ℕ) (head : PieceHead)
      (IsBefore : ℕ → List Told → Type 0) (old : Whole) (was now : M) : Refusal → Type 0 where
    -- It isn't in the file of its name.
    IsMissing : {index : ℕ} {found : Found} (before after : M) → index < head.pieces
        → Gave (sibling_name head index) found before after
        → ((bytes : List ℕ) → IsSealedFor tag (length old.members) me found (piece_of (sibling head index) bytes) → ⊥)
        → HindersOne disks_tell me tag head IsBefore old was now refusal.Missing
    -- The mailbox has failed.
    IsUnread : (before after : M) → HasFailed before after
        → HindersOne disks_tell me tag head IsBefore old was now refusal.Link
    -- It isn't heard.
    IsUnheard : {index : ℕ} {spelled : List ℕ} {middle : Whole} {told : List Told} {there : M} {post : Outbox}
        {r : Refusal} → index < head.pieces → SpellsPiece (length old.members) (sibling head index) spelled
        → IsBefore index told → GoesOn mailbox disks_tell me tag told old middle was there
        → HearsNot spelled middle.post post r → r ≢ refusal.Memory
        → HindersOne disks_tell me tag head IsBefore old was now r
    -- The world would refuse it.
    IsRefused : {index : ℕ} (number : ℕ) {spelled : List ℕ} {middle : Whole} {told : List Told} {r : Refusal}
        {there : M} → index < head.pieces → SpellsPiece (length old.members) (sibling head index) spelled
        → IsBefore index told
        → GoesOn mailbox disks_tell me tag (told ++ told_of me (Gives number spelled) (Err r) ∷ []) old middle was there
        → r ≢ refusal.Store → HindersOne disks_tell me tag head IsBefore old was now r

  -- Why an answer isn't taken, and nothing has changed.
  pub data Hinders (disks_tell : Type 0) (me : ℕ) (tag : List ℕ) (head : PieceHead) (old : Whole) (was now : M) :
      Refusal → Type 0 where
    -- One of its pieces isn't given, or isn't kept.
    IsCutShort : {r : Refusal}
        → HindersOne disks_tell me tag head (GaveFirst me (length old.members) head) old was now r
        → Hinders disks_tell me tag head old was now r
    -- With all of them the state wouldn't have been taken.
    IsIncomplete : {middle : Whole} {told : List Told} {there : M}
        → GoesOn mailbox disks_tell me tag told old middle was there
        → GaveFirst me (length old.members) head head.pieces told → OnlyHolds me old middle
        → Hinders disks_tell me tag head old was now refusal.Missing

  -- The answer to a piece that came.
  pub data PieceAnswers (disks_tell : Type 0) (me : ℕ) (tag : List ℕ) (head : PieceHead) (old new : Whole)
      (was now : M) : List Told → MemberAnswer → Type 0 where
    -- The member is down, or doesn't wait for this answer.
    IsDown : (IsUpIn old me → ⊥) → new ≡ old
        → PieceAnswers disks_tell me tag head old new was now [] (refused refusal.Down)
    IsStale : IsUpIn old me → (Awaits old me (answered head) → ⊥) → new ≡ old
        → PieceAnswers disks_tell me tag head old new was now [] (refused refusal.Stale)
    -- All its pieces are given, and the state that they spell is taken.
    Takes : {told : List Told} → Awaits old me (answered head)
        → GaveUpTo me (length old.members) head (Ok Done) told
        → PieceAnswers disks_tell me tag head old new was now told (Plain Done)
    -- The member's disks fail when it saves that.
    TakesNot : {told : List Told} → Awaits old me (answered head)
        → GaveUpTo me (length old.members) head (Err refusal.Store) told
        → PieceAnswers disks_tell me tag head old new was now told (refused refusal.Store)
    -- Something hinders it, and the member is as it was: it waits for the answer still.
    IsHindered : {r : Refusal} → Awaits old me (answered head) → Hinders disks_tell me tag head old was now r
        → Renews me old new → PieceAnswers disks_tell me tag head old new was now [] (refused r)

  -- The answer to a take of the file of a name.
  pub data TakeAnswers (disks_tell : Type 0) (me : ℕ) (tag filed : List ℕ) (old new : Whole) (was now : M) :
      List Told → MemberAnswer → Type 0 where
    IsNotThere : Gave filed Nothing was now → new ≡ old
        → TakeAnswers disks_tell me tag filed old new was now [] (refused refusal.NoMail)
    IsNotRead : HasFailed was now → new ≡ old
        → TakeAnswers disks_tell me tag filed old new was now [] (refused refusal.Link)
    IsNoMessage : {found : Found} → Gave filed found was now → found ≢ Nothing
        → ((m : Message) → IsSealedFor tag (length old.members) me found m → ⊥) → new ≡ old
        → TakeAnswers disks_tell me tag filed old new was now [] (refused refusal.BadMessage)
    IsAsk : {found : Found} {way : Route} {told : List Told} {answer : MemberAnswer} {there : M}
        → Gave filed found was there → IsSealedFor tag (length old.members) me found (ask_of way)
        → AskAnswers me tag way old there now told answer
        → TakeAnswers disks_tell me tag filed old new was now told answer
    IsPiece : {found : Found} {head : PieceHead} {bytes : List ℕ} {told : List Told} {answer : MemberAnswer} {there : M}
        → Gave filed found was there → IsSealedFor tag (length old.members) me found (piece_of head bytes)
        → PieceAnswers disks_tell me tag head old new there now told answer
        → TakeAnswers disks_tell me tag filed old new was now told answer

  -- The answer to a line.
  abbrev pub LineAnswers : Type 0 → ℕ → List ℕ → Option Noted → Whole → Whole → M → M → MemberLine → List Told
      → MemberAnswer → Type 0
  LineAnswers disks_tell me tag noted old new was now (Does asked) told answer =
      CommandAnswers me noted old new was now asked told answer
  LineAnswers disks_tell me tag noted old new was now (Take filed) told answer =
      TakeAnswers disks_tell me tag filed old new was now told answer
