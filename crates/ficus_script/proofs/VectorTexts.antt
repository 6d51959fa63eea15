-- A vector is written one count after the other.
use Rattle.std.proofs.Common.{◌≡◌, ℕ, zero, suc, ◌+◌, ◌≤◌, ◌<◌, List, [], ◌∷◌, ◌++◌, length, take, drop, map, get_or, sym, ◌∙◌, ap, add-one, arith, length-take}
use Rattle.std.specs.Fmt.{decimal}
use Rattle.std.specs.List.{flat_map, join_with_byte}
use Rattle.std.proofs.lemmas.List.{append-nil, append_assoc, take_more, drop-append-le}
use Rattle.std.proofs.lemmas.List.Concat.{flat_map-append}
use Rattle.std.proofs.lemmas.List.Folds.{flat_map-map}
use Rattle.ficus_vectors.specs.Vector.{Counts, in_order, count_of}
use Rattle.ficus_script.specs.Answer.{vector_text}

-- a count behind the first one is written with a comma before it
abbrev pub count_text : ℕ → List ℕ
count_text count = 44 ∷ decimal count

-- the counts behind the first one, of so many replicas in all
abbrev pub more_counts : ℕ → Counts → List ℕ
more_counts replicas vector = flat_map count_text (drop 1 (take replicas (in_order vector)))

-- one more count is written
pub more_written : (old text next : List ℕ) (replicas : ℕ) (vector : Counts) → 1 ≤ replicas → replicas < 8 →
    text ≡ old ++ more_counts replicas vector → next ≡ text ++ count_text (count_of vector (replicas + 1)) →
    next ≡ old ++ more_counts (replicas + 1) vector
more_written old text next replicas vector some within so_far written =
    let counts : List ℕ = in_order vector in
    let count : ℕ = get_or counts replicas 0 in
    let before : List ℕ = drop 1 (take replicas counts) in
    let front : 1 ≤ length (take replicas counts) = omega (arith, length-take replicas counts) in
    let taken : drop 1 (take (replicas + 1) counts) ≡ before ++ count ∷ [] =
    ap (λ (list : List ℕ). drop 1 list) (take_more counts replicas 0 within)
    ∙ drop-append-le 1 (take replicas counts) (count ∷ []) front in
    let more : more_counts (replicas + 1) vector ≡ more_counts replicas vector ++ count_text count =
    ap (flat_map count_text) taken ∙ flat_map-append count_text before (count ∷ [])
    ∙ ap (λ (text : List ℕ). more_counts replicas vector ++ text) (append-nil (count_text count)) in
    let this : count_of vector (replicas + 1) ≡ count = ap (count_of vector) (add-one replicas) in
    written ∙ ap (λ (n : ℕ). text ++ count_text n) this ∙ ap (λ (front : List ℕ). front ++ count_text count) so_far
    ∙ append_assoc old (more_counts replicas vector) (count_text count) ∙ sym (ap (λ (text : List ℕ). old ++ text) more)

-- words with a byte between each two are the first one, and each other behind that byte
join_flat : (byte : ℕ) (word : List ℕ) (words : List (List ℕ)) →
    join_with_byte byte (word ∷ words) ≡ word ++ flat_map (λ (other : List ℕ). byte ∷ other) words
join_flat byte word [] = sym (append-nil word)
join_flat byte word (other ∷ words) = ap (λ (text : List ℕ). word ++ byte ∷ text) (join_flat byte other words)

-- where the counts of all members are written, the closing bracket makes them the vector's text
pub all_written : (old start text next : List ℕ) (members : ℕ) (vector : Counts) → 1 ≤ members →
    start ≡ old ++ 91 ∷ decimal vector.first → text ≡ start ++ more_counts members vector → next ≡ text ++ 93 ∷ [] →
    next ≡ old ++ vector_text members vector
all_written old start text next zero vector some begun so_far closed = absurd (omega arith)
all_written old start text next (suc more) vector some begun so_far closed =
    let others : List ℕ = take more (drop 1 (in_order vector)) in
    let first : List ℕ = decimal vector.first in
    let counts : join_with_byte 44 (first ∷ map decimal others) ≡ first ++ flat_map count_text others =
    join_flat 44 first (map decimal others)
    ∙ ap (λ (text : List ℕ). first ++ text) (flat_map-map (λ (other : List ℕ). 44 ∷ other) decimal others) in
    closed
    ∙ ap (λ (text : List ℕ). text ++ 93 ∷ [])
    (so_far ∙ ap (λ (text : List ℕ). text ++ flat_map count_text others) begun)
    ∙ rw counts (simp append_assoc)
