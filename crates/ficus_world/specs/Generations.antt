-- What the generation of a member tells, which is how often it has saved, in worlds that need stand for no history: of
-- what it has saved, and of the answers that it served.
use Rattle.std.specs.Prelude.{◌≡◌, ◌⊎◌, ℕ, ◌<◌, List, [], ◌∷◌, ◌++◌, length, Contains, None}
use Rattle.ficus_codec.specs.Formats.{tables_bytes}
use Rattle.ficus_durable_state.specs.declared.saved.Saved.{Saved}
use Rattle.ficus_formats.specs.Pieces.{piece_at, piece_count}
use Rattle.ficus_replica.specs.Accept.{MakesMerged}
use Rattle.ficus_script.specs.declared.answer.Answer.{Answer}
use Rattle.ficus_script.specs.declared.command.Command.{Command}
use Rattle.ficus_wire.specs.Message.{message_bytes, piece_message}
use Rattle.ficus_wire.specs.declared.message.Message.{Message}
use Rattle.ficus_runs.specs.Numbered.{IsNumbered}
use Rattle.ficus_runs.specs.Outcome.{Outcome}
use Rattle.ficus_opening.specs.declared.member.Member.{Member}
use Rattle.ficus_world.specs.declared.exchange.Delivery.{Delivery}
use Rattle.ficus_world.specs.declared.post.Behind.{Behind}
use Rattle.ficus_world.specs.Kills.{IsPull}
use Rattle.ficus_world.specs.Moves.{IsServing, Moves, answers_of, serve_of}
use Rattle.ficus_world.specs.World.{IsWorld, Whole}

-- From a world to a later one, link by link. A link is what one command that is no pull does, or one message of a pull.
pub data Chain (tells disks_tell : Type 0) : Whole → Whole → Type 0 where
  NoLink : {world : Whole} → Chain tells disks_tell world world
  OneLink : {old middle new : Whole} {command : Command} {outcomes : List Outcome} {answer : Answer}
      → (IsPull command → ⊥) → Moves tells disks_tell old command outcomes answer middle
      → Chain tells disks_tell middle new → Chain tells disks_tell old new

-- a link of the chain has P
abbrev pub SomeLink : {tells disks_tell : Type 0} {old new : Whole} → (Whole → Whole → Type 0)
    → Chain tells disks_tell old new → Type 0
SomeLink P NoLink = ⊥
SomeLink P (OneLink {old = old} {middle = middle} single moves more) = P old middle ⊎ SomeLink P more

-- member r, up or down, has saved this
pub record HasSaved (world : Whole) (r : ℕ) (saved : Saved) : Type 0 where
  pub member : Member
  pub is : IsNumbered world.members r member
  pub saves : saved ≡ member.replica.saved

-- In this link a member that is up, and has saved this, serves an ask that came, and the message is one of its answer.
pub record IsServed (message : Message) (saved : Saved) (old new : Whole) : Type 0 where
  pub came : Delivery
  pub asked : Behind
  pub lies : IsNumbered old.post.behind came.mail asked
  pub server : Member
  pub serving : IsServing old came server
  pub saves : saved ≡ server.replica.saved
  pub is : Contains (answers_of old came server) message
  pub happens : new.events ≡ old.events ++ serve_of old came server asked ∷ []

-- of so many pieces of a list of bytes this is the one with the index
pub record IsCutFrom (list : List ℕ) (pieces index : ℕ) (bytes : List ℕ) : Type 0 where
  pub count : pieces ≡ piece_count list
  pub piece : bytes ≡ piece_at list index

-- both are pieces of one list of bytes
pub record AreCutFromOne (pieces index : ℕ) (bytes : List ℕ) (others other : ℕ) (other_bytes : List ℕ) : Type 0 where
  pub list : List ℕ
  pub one : IsCutFrom list pieces index bytes
  pub two : IsCutFrom list others other other_bytes

-- the world is as one that was opened: nothing has been posted, and no member holds a piece
pub record IsFresh (world : Whole) : Type 0 where
  pub sound : IsWorld world
  pub posts : world.post.posts ≡ []
  pub parts : (r : ℕ) (member : Member) → IsNumbered world.members r member → member.parts ≡ None

-- the spelling of the tables that are saved, and the message with a piece of it, from one member to another with the
-- number of the ask that is answered
abbrev pub spelling_of : ℕ → Saved → List ℕ
spelling_of members saved = tables_bytes members saved.entries saved.files

abbrev pub piece_sent : ℕ → ℕ → ℕ → ℕ → Saved → ℕ → Message
piece_sent members from to ask saved index =
    piece_message from to ask saved.generation (spelling_of members saved) index

-- What a member holds that has taken an answer: the merge of its own tables and those that the sender had saved when it
-- served each of the pieces, in some link of the chain.
pub record HasTakenServed {tells disks_tell : Type 0} {start old : Whole} (chain : Chain tells disks_tell start old)
    (new : Whole) (mail : ℕ) : Type 0 where
  pub from : ℕ
  pub to : ℕ
  pub ask : ℕ
  pub index : ℕ
  pub served : Saved
  pub was : Saved
  pub now : Saved
  pub posted : IsNumbered old.post.posts mail
      (message_bytes (piece_sent (length old.members) from to ask served index))
  pub each : (i : ℕ) → i < piece_count (spelling_of (length old.members) served)
      → SomeLink (IsServed (piece_sent (length old.members) from to ask served i) served) chain
  pub had : HasSaved old to was
  pub has : HasSaved new to now
  pub merges : MakesMerged was served.entries served.files now
