-- Bytes cut at the first place of a separator, and lines cut into their words.
use Rattle.std.proofs.Common.{◌≡◌, ℕ, List, [], ◌∷◌, ◌++◌, drop, Option, None, Some, MatchOption, IfSome, IfNone, refl, sym, ◌∙◌, ap}
use Rattle.std.specs.Borrow.{Bor}
use Rattle.std.specs.Fmt.{decimal}
use Rattle.std.specs.List.{join_with_byte}
use Rattle.std.proofs.lemmas.List.{append-nil}
use Rattle.ficus_path.specs.Spelling.{IsEndOr}
use Rattle.ficus_path.proofs.CutLaws.{IsFreeOf, cut_same}
use Rattle.ficus_script.specs.Arguments.{IsReplicaNumber, bytes_of, left_of}
use Rattle.ficus_script.specs.Line.{IsCut, led_by, spaced}
use Rattle.ficus_script.proofs.Numbers.{IsFreeOf-replica, same_replica}

IsEndOr-spaced : (rest : Option (List ℕ)) → IsEndOr 32 (spaced rest)
IsEndOr-spaced None = tt
IsEndOr-spaced (Some rest) = refl

spaced_injective : (rest other : Option (List ℕ)) → spaced rest ≡ spaced other → rest ≡ other
spaced_injective None None same = refl
spaced_injective None (Some other) same = cc
spaced_injective (Some rest) None same = cc
spaced_injective (Some rest) (Some other) same =
    ap (λ (bytes : List ℕ). Some (drop 1 bytes)) same

-- the first word of a text is cut off in one way
pub one_first_word : (word other : List ℕ) (rest others : Option (List ℕ)) → IsFreeOf 32 word → IsFreeOf 32 other →
    word ++ spaced rest ≡ other ++ spaced others → (word ≡ other) × (rest ≡ others)
one_first_word word other rest others free also same =
    let cut = cut_same 32 word (spaced rest) other (spaced others) free (IsEndOr-spaced rest) also (IsEndOr-spaced others) same in
    (cut.0, spaced_injective rest others cut.1)

-- words with a space between each two are the first one, and what is left
pub join_first : (word : List ℕ) (words : List (List ℕ)) →
    join_with_byte 32 (word ∷ words) ≡ word ++ spaced (left_of words)
join_first word [] = sym (append-nil word)
join_first word (next ∷ words) = refl

-- what `cut_at` gives, as one equation
pub cut_whole : (bytes front : List ℕ) (rest : Option (Bor (List ℕ))) →
    MatchOption rest (bytes ≡ front) (λ behind. bytes ≡ front ++ 32 ∷ behind.now) →
    bytes ≡ front ++ spaced (bytes_of rest)
cut_whole bytes front None whole = whole ∙ sym (append-nil front)
cut_whole bytes front (Some behind) whole = whole

-- the number that leads a line is what stands before its first space
pub leading_number : (line front : List ℕ) (behind : Option (Bor (List ℕ))) (replica : ℕ) (rest : List ℕ) →
    IsReplicaNumber replica → IsFreeOf 32 front →
    MatchOption behind (line ≡ front) (λ rest. line ≡ front ++ 32 ∷ rest.now) → line ≡ led_by (Some replica) rest →
    (front ≡ decimal replica) × (bytes_of behind ≡ Some rest)
leading_number line front behind replica rest number free cut same =
    one_first_word front (decimal replica) (bytes_of behind) (Some rest) free (IsFreeOf-replica replica number) (sym (cut_whole line front behind cut)
    ∙ same)

pub cut_line : (line words verb : List ℕ) (by : Option ℕ) (behind : Option (Bor (List ℕ))) → IfSome by IsReplicaNumber →
    line ≡ led_by by words →
    IfNone by ((replica : ℕ) (rest : List ℕ) → IsReplicaNumber replica → line ≡ led_by (Some replica) rest → ⊥) →
    IsFreeOf 32 verb → MatchOption behind (words ≡ verb) (λ rest. words ≡ verb ++ 32 ∷ rest.now) →
    IsCut line by verb (bytes_of behind)
cut_line line words verb by behind number whole none free cut = record {
  number = number;
  free = free;
  whole = whole ∙ ap (led_by by) (cut_whole words verb behind cut);
  none = none;
}

-- a line is cut in one way
pub one_cut : (line verb word : List ℕ) (by other : Option ℕ) (left rest : Option (List ℕ)) → IsCut line by verb left →
    IsCut line other word rest → (by ≡ other) × (verb ≡ word) × (left ≡ rest)
one_cut line verb word None None left rest cut also =
    let parts = one_first_word verb word left rest cut.free also.free (sym cut.whole ∙ also.whole) in
    (refl, parts.0, parts.1)
one_cut line verb word None (Some other) left rest cut also =
    absurd (cut.none other (word ++ spaced rest) also.number also.whole)
one_cut line verb word (Some by) None left rest cut also =
    absurd (also.none by (verb ++ spaced left) cut.number cut.whole)
one_cut line verb word (Some by) (Some other) left rest cut also =
    let numbers = one_first_word (decimal by) (decimal other) (Some (verb ++ spaced left)) (Some (word ++ spaced rest))
    (IsFreeOf-replica by cut.number) (IsFreeOf-replica other also.number) (sym cut.whole ∙ also.whole) in
    let parts = one_first_word verb word left rest cut.free also.free (cc (numbers.1)) in
    (ap (λ (n : ℕ). Some n) (same_replica by other cut.number also.number numbers.0), parts.0, parts.1)
