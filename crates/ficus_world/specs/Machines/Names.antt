-- Under which name a message is kept in a folder.
use Rattle.std.specs.Prelude.{◌≡◌, ℕ}
use Rattle.ficus_wire.specs.declared.message.Message.{Message}
use Rattle.ficus_wire.specs.declared.message.Message.TheVariants.{Ask, Piece}

-- what the name of an ask says: from whom to whom it goes, and its number
pub record AreAsksAlike (from to number same_from same_to same_number : ℕ) : Type 0 where
  pub from_same : from ≡ same_from
  pub to_same : to ≡ same_to
  pub number_same : number ≡ same_number

-- and that of a piece: the same of its ask, the state, and the index
pub record ArePiecesAlike (from to number state index same_from same_to same_number same_state same_index : ℕ) :
    Type 0 where
  pub from_same : from ≡ same_from
  pub to_same : to ≡ same_to
  pub number_same : number ≡ same_number
  pub state_same : state ≡ same_state
  pub index_same : index ≡ same_index

-- the two messages have one name
abbrev pub IsNamedAlike : Message → Message → Type 0
IsNamedAlike (Ask from to number) (Ask f t k) = AreAsksAlike from to number f t k
IsNamedAlike (Piece from to number state pieces index bytes) (Piece f t k s p i b) =
    ArePiecesAlike from to number state index f t k s i
IsNamedAlike one other = ⊥
