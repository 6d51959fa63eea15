-- Bytes in pieces.
use Rattle.std.specs.Prelude.{◌≡◌, ℕ, ◌+◌, ◌*◌, ◌/◌, ◌<◌, ◌≤◌, List, length, take, drop, slice_get, Some}
use Rattle.std.specs.List.{concat}

-- the most bytes of a piece
abbrev pub piece_size : ℕ
piece_size = 4096

-- how many pieces the bytes have: each is full but the last, which has some
abbrev pub piece_count : List ℕ → ℕ
piece_count bytes = (length bytes + 4095) / piece_size

-- the piece with this number, from 0
abbrev pub piece_at : List ℕ → ℕ → List ℕ
piece_at bytes index = take piece_size (drop (index * piece_size) bytes)

-- these are the pieces of the bytes, in order
pub record ArePieces (bytes : List ℕ) (pieces : List (List ℕ)) : Type 0 where
  pub count : length pieces ≡ piece_count bytes
  pub each : (index : ℕ) (piece : List ℕ) → slice_get pieces index ≡ Some piece → piece ≡ piece_at bytes index

-- so long is the piece with this number of so many: each is full but the last, which has some bytes
pub record HasPieceSize (pieces index : ℕ) (piece : List ℕ) : Type 0 where
  pub some : 1 ≤ length piece
  pub most : length piece ≤ piece_size
  pub full : index + 1 < pieces → length piece ≡ piece_size

-- all pieces of the bytes are joined to them
abbrev pub PiecesJoin : Type 0
PiecesJoin = (bytes : List ℕ) (pieces : List (List ℕ)) → ArePieces bytes pieces → concat pieces ≡ bytes

-- each piece has its length
abbrev pub PiecesHaveSizes : Type 0
PiecesHaveSizes = (bytes : List ℕ) (index : ℕ) → index < piece_count bytes →
    HasPieceSize (piece_count bytes) index (piece_at bytes index)

-- the last one ends where the bytes end
abbrev pub PiecesEnd : Type 0
PiecesEnd = (bytes : List ℕ) (index : ℕ) → index + 1 ≡ piece_count bytes →
    index * piece_size + length (piece_at bytes index) ≡ length bytes
