-- How the pieces of an answer are gathered.
use Rattle.std.specs.Prelude.{◌≡◌, ◌≢◌, ◌⊎◌, ℕ, ◌+◌, ◌<◌, Bool, true, false, List, [], ◌∷◌, length, Vec, Option, None, Result, Ok, Err, IfOk, IsErrOf, OnOk}
use Rattle.std.specs.declared.alloc.Global.{Global}
use Rattle.ficus_disk.specs.Pair.{PairRose}
use Rattle.ficus_disk.specs.declared.disk.Disk.{Ghosts as Disk}
use Rattle.ficus_disk.specs.declared.pair.Pair.{Pair}
use Rattle.ficus_ids.specs.declared.refusal.Refusal.{Refusal}
use Rattle.ficus_ids.specs.declared.refusal.Refusal.TheVariants as refusal
use Rattle.ficus_keeper.specs.Pairs.{PairSame}
use Rattle.ficus_keeper.specs.declared.keep.Keep.{Ghosts as Keep}
use Rattle.ficus_mailbox.specs.declared.found.Found.{Found}
use Rattle.ficus_mailbox.specs.declared.mailbox.Mailbox.{Ghosts as Mailbox}
use Rattle.ficus_note.specs.Calls.{IsReady}
use Rattle.ficus_script.specs.declared.answer.Answer.{Answer}
use Rattle.ficus_script.specs.declared.answer.Answer.TheVariants.{Done}
use Rattle.ficus_opening.specs.declared.member.Member.{Member}
use Rattle.ficus_runs.specs.Numbered.{IsNumbered}
use Rattle.ficus_wire.specs.Message.{FitsMessage, message_bytes, piece_of}
use Rattle.ficus_wire.specs.Parts.{HasAllBut, HasPart}
use Rattle.ficus_wire.specs.declared.message.PieceHead.{PieceHead}
use Rattle.ficus_world.specs.Disks.{IsBacked}
use Rattle.ficus_world.specs.Hearing.{HearsNot}
use Rattle.ficus_world.specs.Machines.Acting.{ActsAlone}
use Rattle.ficus_world.specs.Machines.Part.{Gives}
use Rattle.ficus_world.specs.Machines.Together.{Told}
use Rattle.ficus_world.specs.Moves.{parts_held, with_post}
use Rattle.ficus_world.specs.Post.{Outbox}
use Rattle.ficus_world.specs.World.{Whole}
use Rattle.ficus_machine.specs.Answers.{Gave, GaveUpTo, HasFailed, Hinders, HindersOne, OnlyHolds, SpellsPiece, sibling, sibling_name}
use Rattle.ficus_machine.specs.Came.{CameIn, IsSealedFor}
use Rattle.ficus_machine.specs.Line.{GoesOn, Grows, told_of}
use Rattle.ficus_machine.specs.Machine.{KeepsMachine, MachineState}
use Rattle.ficus_machine.specs.Noting.{AsksSlots, IsFull}
use Rattle.ficus_machine.specs.declared.fault.Halt.{Halt}
use Rattle.ficus_machine.specs.declared.fault.LineFault.{LineFault}
use Rattle.ficus_machine.specs.declared.fault.Halt.TheVariants as halt
use Rattle.ficus_machine.specs.declared.gathering.CamePiece.{CamePiece}

-- these bytes spell the piece, which goes to the member
pub record IsPiece (members me : ℕ) (piece : CamePiece) : Type 0 where
  pub bytes : List ℕ
  pub fits : FitsMessage members (piece_of piece.head bytes)
  pub spelled : piece.spelled.items ≡ message_bytes (piece_of piece.head bytes)
  pub own : piece.head.route.to ≡ me

-- What was done, up to where it ended. Where all pieces are given, the last one's answer is that the state is taken.
-- Where a piece isn't taken, something hinders it, and only what the member holds of an answer has changed; or its
-- disks have failed.
pub record Gathers {K D N M : Type 0} (keep : Keep K) (disk : Disk D) (slot : Disk N) (mailbox : Mailbox M)
    (head : PieceHead) (result : Result (Unit {0}) Halt) (old new : MachineState K) (disks new_disks : List (Pair D))
    (slots new_slots : Pair N) (was now : M) : Type 0 where
  pub told : List Told
  pub middle : Whole
  pub goes : GoesOn mailbox disk.tells old.me old.tag told old.world.whole middle was now
  pub is : new.world.whole ≡ with_post middle new.world.whole.post
  pub taken : OnOk result (GaveUpTo old.me (length old.world.whole.members) head (Ok Done) told)
  pub store : IsErrOf result (halt.Refused refusal.Store)
      → GaveUpTo old.me (length old.world.whole.members) head (Err refusal.Store) told
  pub hinders : (r : Refusal) → IsErrOf result (halt.Refused r) → r ≢ refusal.Store
      → Hinders mailbox disk.tells old.me old.tag head old.world.whole was now r
  pub holds : (r : Refusal) → IsErrOf result (halt.Refused r) → r ≢ refusal.Store
      → OnlyHolds old.me old.world.whole new.world.whole
  pub backed : IsBacked keep disk new.world new_disks
  pub ready : slot.tells → ((result ≢ Err halt.Note) × (result ≢ Err halt.Memory)) → IsReady slot new.note new_slots
  pub failed : IsErrOf result halt.Note → PairRose slot.faults 1 slots new_slots ⊎ IsFull new.note
  pub steady : (result ≡ Err halt.Note → ⊥) → PairSame slot.faults slots new_slots
  pub risen : PairRose slot.faults 0 slots new_slots
  pub posted : mailbox.posted now ≡ mailbox.posted was
  pub same : KeepsMachine old new

-- the piece with this index was given, it wasn't refused, and with it the state wasn't taken
pub record KeepsPiece (me members : ℕ) (head : PieceHead) (index : ℕ) (told : List Told) : Type 0 where
  pub number : ℕ
  pub spelled : List ℕ
  pub answer : Answer
  pub spells : SpellsPiece members (sibling head index) spelled
  pub partly : answer ≢ Done
  pub is : told ≡ told_of me (Gives number spelled) (Ok answer) ∷ []

-- the piece with this index was given, and answered so
pub record GivesOne (me members : ℕ) (head : PieceHead) (index : ℕ) (result : Result Answer Refusal)
    (told : List Told) : Type 0 where
  pub number : ℕ
  pub spelled : List ℕ
  pub spells : SpellsPiece members (sibling head index) spelled
  pub is : told ≡ told_of me (Gives number spelled) result ∷ []

-- With the piece the state is taken, or its save has failed.
abbrev pub EndsTaking : Result Bool Halt → Type 0
EndsTaking result = (result ≡ Ok true) ⊎ (result ≡ Err (halt.Refused refusal.Store))

-- the member holds no piece of the answer but such below this index
abbrev pub HoldsFirst : Whole → ℕ → PieceHead → ℕ → Type 0
HoldsFirst world me head index =
    (member : Member) (other : ℕ) → IsNumbered world.members me member → HasPart (parts_held member.parts head) other
    → other < index

-- it holds all pieces of the answer but this one
abbrev pub CompletesWith : Whole → ℕ → PieceHead → Type 0
CompletesWith world me head =
    (member : Member) → IsNumbered world.members me member
    → ((parts_held member.parts head).pieces ≡ head.pieces) × HasAllBut (parts_held member.parts head) head.index

-- then it holds no piece but this one and those before
abbrev pub HoldsOneMore : ℕ → PieceHead → Whole → Whole → Type 0
HoldsOneMore me head old new =
    (was now : Member) (other : ℕ) → IsNumbered old.members me was → IsNumbered new.members me now
    → HasPart (parts_held now.parts head) other → HasPart (parts_held was.parts head) other ⊎ (other ≡ head.index)

-- nothing was given before the piece with this index
abbrev pub IsFirstHere : ℕ → ℕ → List Told → Type 0
IsFirstHere index other told = (other ≡ index) × (told ≡ [])

-- What was done of that for the piece with one index: with it the state is taken, or it is kept, or why it isn't.
pub record GivesAt {K D N M : Type 0} (keep : Keep K) (disk : Disk D) (slot : Disk N) (mailbox : Mailbox M)
    (head : PieceHead) (index : ℕ) (result : Result Bool Halt) (old new : MachineState K)
    (disks new_disks : List (Pair D)) (slots new_slots : Pair N) (was now : M) : Type 0 where
  pub told : List Told
  pub middle : Whole
  pub goes : GoesOn mailbox disk.tells old.me old.tag told old.world.whole middle was now
  pub is : new.world.whole ≡ with_post middle new.world.whole.post
  pub taken : result ≡ Ok true → GivesOne old.me (length old.world.whole.members) head index (Ok Done) told
  pub kept : result ≡ Ok false
      → KeepsPiece old.me (length old.world.whole.members) head index told × (new.world.whole ≡ middle)
  pub store : IsErrOf result (halt.Refused refusal.Store)
      → GivesOne old.me (length old.world.whole.members) head index (Err refusal.Store) told
  pub hinders : (r : Refusal) → IsErrOf result (halt.Refused r) → r ≢ refusal.Store
      → HindersOne mailbox disk.tells old.me old.tag head (IsFirstHere index) old.world.whole was now r
  pub holds : result ≢ Ok true → result ≢ Err (halt.Refused refusal.Store)
      → OnlyHolds old.me old.world.whole new.world.whole
  pub backed : IsBacked keep disk new.world new_disks
  pub ready : slot.tells → ((result ≢ Err halt.Note) × (result ≢ Err halt.Memory)) → IsReady slot new.note new_slots
  pub failed : IsErrOf result halt.Note → PairRose slot.faults 1 slots new_slots ⊎ IsFull new.note
  pub steady : (result ≡ Err halt.Note → ⊥) → PairSame slot.faults slots new_slots
  pub risen : PairRose slot.faults 0 slots new_slots
  pub posted : mailbox.posted now ≡ mailbox.posted was
  pub same : KeepsMachine old new

-- The note is without an ask where this is the last piece, and else as it was. All else of the machine stays.
pub record ClearsNote {K N A : Type 0} (slot : Disk N) (head : PieceHead) (index : ℕ) (result : Result A LineFault)
    (was now : MachineState K) (old new : Pair N) : Type 0 where
  pub cleared : OnOk result (index + 1 ≡ head.pieces → now.note.asked ≡ None)
  pub stays : OnOk result (index + 1 ≢ head.pieces → now.note.asked ≡ was.note.asked)
  pub ready : slot.tells → OnOk result (IsReady slot now.note new)
  pub world : now.world ≡ was.world
  pub same : KeepsMachine was now
  pub asks : AsksSlots slot result now.note old new

-- A piece that these bytes spell is given to the world: it isn't heard; with it the state is taken; it is kept beside
-- others; the world refuses it; or memory is refused.
pub data Giving (disks_tell : Type 0) (me : ℕ) (spelled : List ℕ) (old : Whole) :
    Result Bool Halt → Whole → Type 0 where
  IsUnheard : {post : Outbox} {r : Refusal} → HearsNot spelled old.post post r → r ≢ refusal.Memory
      → Giving disks_tell me spelled old (Err (halt.Refused r)) (with_post old post)
  IsTaken : {number : ℕ} {answer : Answer} {after : Whole}
      → (acts : ActsAlone (Unit {0}) disks_tell me (spelled ∷ []) (Gives number spelled) answer old after)
      → acts.result ≡ Ok Done → Giving disks_tell me spelled old (Ok true) after
  IsKept : {number : ℕ} {answer : Answer} {after : Whole}
      → (acts : ActsAlone (Unit {0}) disks_tell me (spelled ∷ []) (Gives number spelled) answer old after)
      → acts.result ≡ Ok answer → answer ≢ Done → OnlyHolds me old after
      → Giving disks_tell me spelled old (Ok false) after
  IsRefused : {number : ℕ} {answer : Answer} {after : Whole} {r : Refusal}
      → (acts : ActsAlone (Unit {0}) disks_tell me (spelled ∷ []) (Gives number spelled) answer old after)
      → acts.result ≡ Err r → (r ≢ refusal.Store → OnlyHolds me old after)
      → Giving disks_tell me spelled old (Err (halt.Refused r)) after
  WantsMemory : {post : Outbox} → Giving disks_tell me spelled old (Err halt.Memory) (with_post old post)

-- the piece with this index is found, or isn't
pub record FindsPiece {K M : Type 0} (mailbox : Mailbox M) (machine : MachineState K) (head : PieceHead) (index : ℕ)
    (result : Result (Vec ℕ Global) Halt) (was now : M) : Type 0 where
  pub piece : IfOk result (λ spelled.
      SpellsPiece (length machine.world.whole.members) (sibling head index) spelled.items
      × (mailbox.tells → CameIn machine.tag (length machine.world.whole.members) machine.me (mailbox.given now)
      spelled.items))
  pub missing : IsErrOf result (halt.Refused refusal.Missing) → (found : Found)
      × Gave mailbox (sibling_name head index) found was now
      × ((bytes : List ℕ) → IsSealedFor machine.tag (length machine.world.whole.members) machine.me found
      (piece_of (sibling head index) bytes) → ⊥)
  pub failed : IsErrOf result (halt.Refused refusal.Link) → HasFailed mailbox was now
  pub one : (r : Refusal) → IsErrOf result (halt.Refused r) → (r ≡ refusal.Missing) ⊎ (r ≡ refusal.Link)
  pub no_note : IsErrOf result halt.Note → ⊥
  pub given : mailbox.tells → Grows (mailbox.given was) (mailbox.given now)
  pub posted : mailbox.posted now ≡ mailbox.posted was
