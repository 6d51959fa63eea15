-- The message behind a position of the history, and its spelling.
use Rattle.std.specs.Prelude.{◌≡◌, ℕ, ◌<◌, List, Result, Ok, Err}
use Rattle.ficus_ids.specs.declared.refusal.Refusal.{Refusal}
use Rattle.ficus_codec.specs.Formats.{tables_bytes}
use Rattle.ficus_formats.specs.Pieces.{piece_count}
use Rattle.ficus_ids.specs.declared.refusal.Refusal.TheVariants.{BadMessage}
use Rattle.ficus_entry.specs.declared.entry.Entry.{Entry}
use Rattle.ficus_file.specs.declared.file.FileReplica.{FileReplica}
use Rattle.ficus_model.specs.declared.event.Event.{Event}
use Rattle.ficus_model.specs.declared.event.Event.TheVariants as event
use Rattle.ficus_model.specs.Events.{IsAt, through, generation_of}
use Rattle.ficus_model.specs.Lawful.{Volume}
use Rattle.ficus_replica.specs.Accept.{IsServed}
use Rattle.ficus_wire.specs.Message.{FitsMessage, message_bytes, piece_message}
use Rattle.ficus_wire.specs.declared.message.Message.{Message}
use Rattle.ficus_wire.specs.declared.message.Message.TheVariants.{Ask}

-- Behind an ask stands its message, with the generation with which it was saved. Behind a Serve stand the pieces of the
-- spelling of what the server held there, each with its index, for who asked.
pub data IsMessageAt (volume : Volume) (H : List Event) (position : ℕ) : ℕ → Message → Type 0 where
  IsAsk : {asker server number : ℕ} → IsAt H position (event.Ask asker server)
      → number ≡ generation_of asker (through position H) → IsMessageAt volume H position 0 (Ask asker server number)
  IsPiece : {asker server number state index : ℕ} {entries : List Entry} {files : List FileReplica}
      → (served : IsServed volume H asker server number entries files position) → state ≡ served.state
      → index < piece_count (tables_bytes volume.members entries files)
      → IsMessageAt volume H position index
      (piece_message server asker number state (tables_bytes volume.members entries files) index)

-- the bytes are the spelling of a message that may go between so many members
pub record IsSpelled (members : ℕ) (bytes : List ℕ) (message : Message) : Type 0 where
  pub fits : FitsMessage members message
  pub is : bytes ≡ message_bytes message

-- what reading bytes comes to: the message that they spell, or that they spell none
abbrev pub Reads : ℕ → List ℕ → Result Message Refusal → Type 0
Reads members bytes (Ok message) = IsSpelled members bytes message
Reads members bytes (Err BadMessage) = (message : Message) → IsSpelled members bytes message → ⊥
Reads members bytes (Err other) = ⊥
