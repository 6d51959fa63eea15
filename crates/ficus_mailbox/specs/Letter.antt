-- Messages under their names.
use Rattle.std.specs.Prelude.{ℕ, List}
use Rattle.ficus_mailbox.specs.declared.message_name.MessageName.{MessageName}

-- a message with its tag, and the name under which it is put
pub record Letter : Type 0 where
  pub name : MessageName
  pub bytes : List ℕ

-- the most bytes that it has: 16 of the tag, and 28 and 4,096 of a piece
abbrev pub letter_limit : ℕ
letter_limit = 4140
