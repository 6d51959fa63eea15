-- Bytes cut into pieces, and joined again.
use Rattle.std.proofs.Common.{◌≡◌, ℕ, zero, suc, ◌+◌, ◌*◌, ◌-◌, ◌<◌, ◌≤◌, List, [], ◌∷◌, ◌++◌, length, take, drop, length-take, Some, refl, sym, ap, ◌∙◌, arith}
use Rattle.std.specs.Prelude.{slice_get}
use Rattle.std.specs.List.{concat}
use Rattle.std.proofs.lemmas.List.{length-drop, take-append-drop}
use Rattle.std.proofs.Math.ListN.{drop_of_length-le}
use Rattle.ficus_formats.specs.Pieces.{piece_count, piece_at, ArePieces, HasPieceSize}

-- so many pieces reach to the end, and no fewer do
pub count_reaches : (bytes : List ℕ) → length bytes ≤ piece_count bytes * 4096
count_reaches bytes = omega arith

pub below_reaches : (bytes : List ℕ) (index : ℕ) → index < piece_count bytes → index * 4096 < length bytes
below_reaches bytes index below = omega arith

pub has_size : (bytes : List ℕ) (index : ℕ) → index < piece_count bytes →
    HasPieceSize (piece_count bytes) index (piece_at bytes index)
has_size bytes index below =
    let rest : length (drop (index * 4096) bytes) ≡ length bytes - index * 4096 = length-drop (index * 4096) bytes in
    let size = length-take 4096 (drop (index * 4096) bytes) in
    let some = below_reaches bytes index below in
    record {
      some = omega (arith, rest, size, some);
      most = omega (arith, size);
      full = λ more. let next = below_reaches bytes (index + 1) more in omega (arith, rest, size, next);
    }

pub ends : (bytes : List ℕ) (index : ℕ) → index + 1 ≡ piece_count bytes →
    index * 4096 + length (piece_at bytes index) ≡ length bytes
ends bytes index is =
    let rest : length (drop (index * 4096) bytes) ≡ length bytes - index * 4096 = length-drop (index * 4096) bytes in
    let size = length-take 4096 (drop (index * 4096) bytes) in
    let some = below_reaches bytes index (omega (arith, is)) in
    let all = count_reaches bytes in
    omega (arith, rest, size, some, all, is)

drop_more : {X : Type 0} (n m : ℕ) (xs : List X) → drop (n + m) xs ≡ drop m (drop n xs)
drop_more zero m xs = let e : 0 + m ≡ m = omega arith in rw e refl
drop_more (suc n) m [] = drop_of_length-le [] (omega arith) ∙ sym (drop_of_length-le [] (omega arith))
drop_more (suc n) m (x ∷ xs) = let e : suc n + m ≡ suc (n + m) = omega arith in rw e (drop_more n m xs)

-- pieces from one on are joined to what is left from there
joins_from : (bytes : List ℕ) (start : ℕ) (pieces : List (List ℕ)) → start + length pieces ≡ piece_count bytes →
    ((index : ℕ) (piece : List ℕ) → slice_get pieces index ≡ Some piece → piece ≡ piece_at bytes (start + index)) →
    concat pieces ≡ drop (start * 4096) bytes
joins_from bytes start [] count each =
    let all = count_reaches bytes in
    sym (drop_of_length-le bytes (omega (arith, all, count)))
joins_from bytes start (piece ∷ pieces) count each =
    let first : piece ≡ take 4096 (drop (start * 4096) bytes) =
    each 0 piece refl ∙ ap (piece_at bytes) (omega arith) in
    let rest : concat pieces ≡ drop ((start + 1) * 4096) bytes =
    joins_from bytes (start + 1) pieces (omega (arith, count))
    (λ index found at. each (suc index) found at ∙ ap (piece_at bytes) (omega arith)) in
    let next : drop ((start + 1) * 4096) bytes ≡ drop 4096 (drop (start * 4096) bytes) =
    ap (λ n. drop n bytes) (omega arith) ∙ drop_more (start * 4096) 4096 bytes in
    ap (λ front. front ++ concat pieces) first ∙ ap (λ back. take 4096 (drop (start * 4096) bytes) ++ back) (rest ∙ next)
    ∙ take-append-drop 4096 (drop (start * 4096) bytes)

pub joins : (bytes : List ℕ) (pieces : List (List ℕ)) → ArePieces bytes pieces → concat pieces ≡ bytes
joins bytes pieces are =
    joins_from bytes 0 pieces (omega (arith, are.count))
    (λ index piece at. are.each index piece at ∙ ap (piece_at bytes) (omega arith))
