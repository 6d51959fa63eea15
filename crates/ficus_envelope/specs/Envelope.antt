-- Messages as they travel: what is in front of each, and what each is named.
use Rattle.std.specs.Prelude.{◌≡◌, ◌++◌, List, ℕ, take}
use Rattle.ficus_envelope.specs.declared.unseal_fault.UnsealFault.{UnsealFault}
use Rattle.ficus_envelope.specs.declared.unseal_fault.UnsealFault.TheVariants as unseal
use Rattle.ficus_mailbox.specs.declared.message_name.MessageName.{MessageName}
use Rattle.ficus_mailbox.specs.declared.message_name.MessageName.TheVariants as name
use Rattle.ficus_wire.specs.Message.{message_bytes}
use Rattle.ficus_wire.specs.declared.message.Message.{Message}
use Rattle.ficus_wire.specs.declared.message.Message.TheVariants.{Ask, Piece}
use Rattle.ficus_wire.specs.declared.wire_fault.WireFault.{WireFault}
use Rattle.ficus_wire.specs.declared.wire_fault.WireFault.TheVariants as wire

-- the tag, and the message as it is spelled
abbrev pub sealed_bytes : List ℕ → Message → List ℕ
sealed_bytes tag message = tag ++ message_bytes message

-- the first sixteen bytes are the tag
abbrev pub IsOfVolume : List ℕ → List ℕ → Type 0
IsOfVolume tag bytes = take 16 bytes ≡ tag

-- what is told where no message was read behind the tag
abbrev pub fault_of : WireFault → UnsealFault
fault_of wire.NotMessage = unseal.NotMessage
fault_of wire.Memory = unseal.Memory

-- the name of a message: its route, and of a piece its state and its index
abbrev pub name_of : Message → MessageName
name_of (Ask from to number) = name.Ask from to number
name_of (Piece from to number state pieces index bytes) = name.Piece from to number state index
