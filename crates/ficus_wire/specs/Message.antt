-- Messages: which there are, and how each is spelled.
use Rattle.std.specs.Prelude.{◌≡◌, ◌≢◌, ℕ, ◌<◌, ◌≤◌, ◌^◌, List, ◌∷◌, length, map, Option, Some, None}
use Rattle.std.specs.List.{range_with_len, sum_by}
use Rattle.std.specs.Borrow.{Bor}
use Rattle.ficus_ids.specs.Members.{IsMember}
use Rattle.ficus_formats.specs.Format.{Format, byte, number32, number64, ◌then◌, shaped, meeting, Spells}
use Rattle.ficus_formats.specs.Pieces.{HasPieceSize, piece_at, piece_count}
use Rattle.ficus_wire.specs.declared.message.Letter.{Letter}
use Rattle.ficus_wire.specs.declared.message.Letter.TheVariants as letter
use Rattle.ficus_wire.specs.declared.message.Message.{Message}
use Rattle.ficus_wire.specs.declared.message.Message.TheVariants.{Ask, Piece}
use Rattle.ficus_wire.specs.declared.message.PieceHead.{PieceHead}
use Rattle.ficus_wire.specs.declared.message.Route.{Route}

-- from one member to another, with a number of eight bytes
pub record IsRoute (members : ℕ) (way : Route) : Type 0 where
  pub from : IsMember members way.from
  pub to : IsMember members way.to
  pub differ : way.from ≢ way.to
  pub number : way.number < 2 ^ 64

abbrev pub route_parts : Route → ℕ × (ℕ × ℕ)
route_parts way = (way.from, (way.to, way.number))

-- the two members in a byte each, and the number in eight
abbrev pub route_fields : Format Route
route_fields = shaped route_parts (byte then byte then number64)

abbrev pub route : ℕ → Format Route
route members = meeting (IsRoute members) route_fields

-- the most pieces that an answer has
abbrev pub piece_limit : ℕ
piece_limit = 262144

-- the route, a state of eight bytes, and an index below the number of pieces, which is within the limit
pub record IsHead (members : ℕ) (head : PieceHead) : Type 0 where
  pub route : IsRoute members head.route
  pub state : head.state < 2 ^ 64
  pub index : head.index < head.pieces
  pub most : head.pieces ≤ piece_limit

abbrev pub head_parts : PieceHead → Route × (ℕ × (ℕ × ℕ))
head_parts head = (head.route, (head.state, (head.pieces, head.index)))

-- the route, the state in eight bytes, the number of pieces in four and the index in four
abbrev pub head_fields : Format PieceHead
head_fields = shaped head_parts (route_fields then number64 then number32 then number32)

abbrev pub head : ℕ → Format PieceHead
head members = meeting (IsHead members) head_fields

-- bytes to the end
abbrev pub rest : Format (List ℕ)
rest = record { spell = λ bytes. bytes; fits = λ _. Unit {0} }

-- what stands in front, and as many bytes as the piece with its place has
pub record FitsPiece (members : ℕ) (piece : PieceHead × List ℕ) : Type 0 where
  pub head : IsHead members piece.0
  pub size : HasPieceSize piece.0.pieces piece.0.index piece.1

abbrev pub piece_fields : Format (PieceHead × List ℕ)
piece_fields = head_fields then rest

abbrev pub piece : ℕ → Format (PieceHead × List ℕ)
piece members = meeting (FitsPiece members) piece_fields

abbrev pub way : ℕ → ℕ → ℕ → Route
way from to number = record { from = from; to = to; number = number }

abbrev pub head_of : ℕ → ℕ → ℕ → ℕ → ℕ → ℕ → PieceHead
head_of from to number state pieces index =
    record { route = way from to number; state = state; pieces = pieces; index = index }

-- version 2; kind 1 for an ask and 3 for a piece; and what each has
abbrev pub message_bytes : Message → List ℕ
message_bytes (Ask from to number) = 2 ∷ 1 ∷ route_fields.spell (way from to number)
message_bytes (Piece from to number state pieces index bytes) =
    2 ∷ 3 ∷ piece_fields.spell (head_of from to number state pieces index, bytes)

-- the message may go between members
abbrev pub FitsMessage : ℕ → Message → Type 0
FitsMessage members (Ask from to number) = IsRoute members (way from to number)
FitsMessage members (Piece from to number state pieces index bytes) =
    FitsPiece members (head_of from to number state pieces index, bytes)

abbrev pub message : ℕ → Format Message
message members = record { spell = message_bytes; fits = FitsMessage members }

-- the message that goes this way, and the one that has this in front of its bytes
abbrev pub ask_of : Route → Message
ask_of way = Ask way.from way.to way.number

abbrev pub piece_of : PieceHead → List ℕ → Message
piece_of head bytes =
    Piece head.route.from head.route.to head.route.number head.state head.pieces head.index bytes

-- the message that a letter is
abbrev pub message_of : Letter → Message
message_of (letter.Ask way) = ask_of way
message_of (letter.Piece head bytes) = piece_of head bytes.now

-- what reading a route to the end of the bytes gives: the one that they spell, or nothing where none is spelled
abbrev pub ReadsRoute : ℕ → List ℕ → Option Route → Type 0
ReadsRoute members bytes (Some way) = Spells (route members) way bytes
ReadsRoute members bytes None = (way : Route) → Spells (route members) way bytes → ⊥

-- what reading a piece gives: what stands in front of its bytes, and these, or nothing where none is spelled
abbrev pub ReadsPiece : ℕ → List ℕ → Option (PieceHead × Bor (List ℕ)) → Type 0
ReadsPiece members bytes (Some p) = Spells (piece members) (p.0, p.1.now) bytes
ReadsPiece members bytes None = (p : PieceHead × List ℕ) → Spells (piece members) p bytes → ⊥

-- the message is a piece
abbrev pub IsPiece : Message → Type 0
IsPiece (Ask from to number) = ⊥
IsPiece (Piece from to number state pieces index bytes) = Unit {0}

-- the bytes spell a piece
pub record SpellPiece (members : ℕ) (bytes : List ℕ) : Type 0 where
  pub message : Message
  pub fits : FitsMessage members message
  pub is : bytes ≡ message_bytes message
  pub piece : IsPiece message

-- the piece with this index of the bytes of tables, in the message in which it goes
abbrev pub piece_message : ℕ → ℕ → ℕ → ℕ → List ℕ → ℕ → Message
piece_message server asker number state bytes index =
    Piece server asker number state (piece_count bytes) index (piece_at bytes index)

-- all its pieces, in order
abbrev pub messages_of_tables : ℕ → ℕ → ℕ → ℕ → List ℕ → List Message
messages_of_tables server asker number state bytes =
    map (piece_message server asker number state bytes) (range_with_len 0 (piece_count bytes))

-- how many bytes the messages have in all
abbrev pub sizes_of : List Message → ℕ
sizes_of messages = sum_by (λ message. length (message_bytes message)) messages
