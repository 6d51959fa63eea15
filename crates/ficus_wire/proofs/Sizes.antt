-- How many bytes the messages of an answer have.
use Rattle.std.proofs.Common.{◌≡◌, ℕ, zero, suc, ◌+◌, ◌*◌, ◌<◌, List, ◌++◌, length, map, refl, length-append, arith}
use Rattle.std.specs.List.{range_with_len}
use Rattle.std.proofs.lemmas.List.Sums.{sum_by-cons}
use Rattle.ficus_formats.specs.Pieces.{piece_at, piece_count}
use Rattle.ficus_formats.proofs.Joining.{has_size, ends}
use Rattle.ficus_wire.specs.declared.message.Message.{Message}
use Rattle.ficus_wire.specs.Message.{head_fields, head_of, message_bytes, messages_of_tables, piece_message, sizes_of}

module _ (server asker number state : ℕ) (tables : List ℕ) where
  nth : ℕ → Message
  nth index = piece_message server asker number state tables index

  -- a piece's message has 28 bytes and its own
  size : (index : ℕ) → length (message_bytes (nth index)) ≡ 28 + length (piece_at tables index)
  unfolding nth
  size index =
      let head : List ℕ = head_fields.spell (head_of server asker number state (piece_count tables) index) in
      let kinds : length (message_bytes (nth index)) ≡ suc (suc (length (head ++ piece_at tables index))) = refl in
      let front : length head ≡ 26 = refl in
      omega (arith, kinds, front, length-append head (piece_at tables index))

  -- those from one on reach to the end
  from : (first count : ℕ) → first + count ≡ piece_count tables → first < piece_count tables →
      first * 4096 + sizes_of (map nth (range_with_len first count)) ≡ length tables + 28 * count
  from first zero all below = absurd (omega (arith, all, below))
  from first (suc zero) all below = omega (arith, ends tables first (omega (arith, all)), size first)
  from first (suc (suc count)) all below =
      let rest = from (first + 1) (suc count) (omega (arith, all)) (omega (arith, all)) in
      let full = (has_size tables first below).full (omega (arith, all)) in
      let more = sum_by-cons (λ (m : Message). length (message_bytes m)) (nth first)
      (map nth (range_with_len (first + 1) (suc count))) in
      omega (arith, rest, full, size first, more)

  in_all : (count : ℕ) → count ≡ piece_count tables →
      sizes_of (map nth (range_with_len 0 count)) ≡ length tables + 28 * count
  in_all zero is = omega (arith, is)
  in_all (suc count) is = omega (arith, from 0 (suc count) (omega (arith, is)) (omega (arith, is)))

  pub all_sizes : sizes_of (messages_of_tables server asker number state tables) ≡ length tables + 28 * piece_count tables
  unfolding nth
  all_sizes = in_all (piece_count tables) refl
