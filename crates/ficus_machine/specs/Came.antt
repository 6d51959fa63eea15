-- Messages as they come in files and go out in files.
use Rattle.std.specs.Prelude.{◌≡◌, ◌≢◌, ℕ, List, Contains}
use Rattle.ficus_envelope.specs.Envelope.{name_of, sealed_bytes}
use Rattle.ficus_mailbox.specs.Letter.{Letter}
use Rattle.ficus_mailbox.specs.declared.found.Found.{Found}
use Rattle.ficus_mailbox.specs.declared.found.Found.TheVariants.{Bytes, Nothing}
use Rattle.ficus_mailbox.specs.declared.found.Given.{Given}
use Rattle.ficus_runs.specs.Message.{IsSpelled}
use Rattle.ficus_wire.specs.Message.{FitsMessage, IsPiece, ask_of, message_bytes, piece_of}
use Rattle.ficus_wire.specs.declared.message.Message.{Message}
use Rattle.ficus_world.specs.Machines.Part.{goes_to}
use Rattle.ficus_machine.specs.declared.coming.Coming.{Coming}
use Rattle.ficus_machine.specs.declared.coming.Coming.TheVariants as coming

-- What is found is this message, behind the tag, and it goes to this member.
pub record IsSealedFor (tag : List ℕ) (members me : ℕ) (found : Found) (message : Message) : Type 0 where
  pub fits : FitsMessage members message
  pub is : found ≡ Bytes (sealed_bytes tag message)
  pub own : goes_to message ≡ me

-- What is found is: nothing; no message of the volume to the member; an ask to it, which these bytes spell; or a piece
-- of an answer to it.
abbrev pub IsComing : List ℕ → ℕ → ℕ → Found → Coming → Type 0
IsComing tag members me found coming.Nothing = found ≡ Nothing
IsComing tag members me found coming.NoMessage =
    (found ≢ Nothing) × ((message : Message) → IsSealedFor tag members me found message → ⊥)
IsComing tag members me found (coming.Ask way spelled) =
    IsSealedFor tag members me found (ask_of way) × (spelled.items ≡ message_bytes (ask_of way))
IsComing tag members me found (coming.Piece head spelled) =
    (bytes : List ℕ) × IsSealedFor tag members me found (piece_of head bytes)
    × (spelled.items ≡ message_bytes (piece_of head bytes))

-- These bytes spell a message to this member that stood behind the tag in a file that was given.
pub record CameIn (tag : List ℕ) (members me : ℕ) (given : List Given) (bytes : List ℕ) : Type 0 where
  pub message : Message
  pub spelled : IsSpelled members bytes message
  pub file : Given
  pub is : Contains given file
  pub sealed : IsSealedFor tag members me file.found message

-- the message as it is put
abbrev pub letter_of : List ℕ → Message → Letter
letter_of tag message = record { name = name_of message; bytes = sealed_bytes tag message }

-- the letter is this message, behind the tag and under its name
pub record IsLetterOf (tag : List ℕ) (members : ℕ) (bytes : List ℕ) (letter : Letter) : Type 0 where
  pub message : Message
  pub spelled : IsSpelled members bytes message
  pub is : letter ≡ letter_of tag message

-- it is one of these
pub record IsLetterOfOne (tag : List ℕ) (members : ℕ) (posted : List (List ℕ)) (letter : Letter) : Type 0 where
  pub bytes : List ℕ
  pub is : Contains posted bytes
  pub spells : IsLetterOf tag members bytes letter
