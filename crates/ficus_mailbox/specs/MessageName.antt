-- The names of messages as files, and how each is spelled.
use Rattle.std.specs.Prelude.{ℕ, ◌<◌, ◌^◌, List, ◌∷◌, ◌++◌, codes}
use Rattle.std.specs.Fmt.{decimal}
use Rattle.ficus_ids.specs.Members.{IsMember}
use Rattle.ficus_mailbox.specs.declared.message_name.MessageName.{MessageName}
use Rattle.ficus_mailbox.specs.declared.message_name.MessageName.TheVariants.{Ask, Piece}

-- a number behind a dash (45)
abbrev pub dashed : ℕ → List ℕ
dashed number = 45 ∷ decimal number

-- `ask-FROM-TO-NUMBER`, and `piece-FROM-TO-NUMBER-STATE-INDEX`
abbrev pub name_text : MessageName → List ℕ
name_text (Ask from to number) = codes "ask" ++ dashed from ++ dashed to ++ dashed number
name_text (Piece from to number state index) =
    codes "piece" ++ dashed from ++ dashed to ++ dashed number ++ dashed state ++ dashed index

-- from one of at most eight members to another, with a number of eight bytes
pub record FitsRoute (from to number : ℕ) : Type 0 where
  pub from_member : IsMember 8 from
  pub to_member : IsMember 8 to
  pub fits : number < 2 ^ 64

-- and for a piece a state of eight bytes and an index of four
pub record FitsPiece (from to number state index : ℕ) : Type 0 where
  pub route : FitsRoute from to number
  pub state_fits : state < 2 ^ 64
  pub index_fits : index < 2 ^ 32

-- the name of a message of some volume
abbrev pub FitsName : MessageName → Type 0
FitsName (Ask from to number) = FitsRoute from to number
FitsName (Piece from to number state index) = FitsPiece from to number state index
