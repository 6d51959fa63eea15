-- The spelling of a byte: by its four forms, and that no spelling is the front of another.
use Rattle.std.proofs.Common.{◌≡◌, ◌≢◌, ℕ, ◌+◌, ◌-◌, ◌*◌, ◌/◌, ◌%◌, ◌<◌, ◌≤◌, Bool, true, false, cond, eqb, nat_lt, List, [], ◌∷◌, ◌++◌, length, All, refl, sym, ◌∙◌, ap, subst, arith}
use Rattle.std.proofs.lemmas.Bool.{eqb-true}
use Rattle.std.proofs.lemmas.Bool.Decides.{nat_tests}
use Rattle.std.specs.Fmt.{digit_glyph}
use Rattle.std.proofs.lemmas.List.Elements.{All-nil, All-cons}
use Rattle.ficus_path.proofs.CutLaws.{IsFreeOf}
use Rattle.ficus_path.specs.Spelling.{is_plain, hex_text, byte_text}

-- a byte and its spelling
pub data Form : ℕ → List ℕ → Type 0 where
  backslash : Form 92 (92 ∷ 92 ∷ [])
  newline : Form 10 (92 ∷ 110 ∷ [])
  plain : {b : ℕ} → eqb b 92 ≡ false → is_plain b ≡ true → Form b (b ∷ [])
  hex : {b : ℕ} → eqb b 92 ≡ false → eqb b 10 ≡ false → is_plain b ≡ false → Form b (hex_text b)

chosen : (b : ℕ) (back line itself : Bool) → eqb b 92 ≡ back → eqb b 10 ≡ line → is_plain b ≡ itself →
    Form b (cond back (92 ∷ 92 ∷ []) (cond line (92 ∷ 110 ∷ []) (cond itself (b ∷ []) (hex_text b))))
chosen b true line itself is_back is_line is_itself =
    subst (λ n. Form n (92 ∷ 92 ∷ [])) (sym (eqb-true b 92 is_back)) backslash
chosen b false true itself is_back is_line is_itself =
    subst (λ n. Form n (92 ∷ 110 ∷ [])) (sym (eqb-true b 10 is_line)) newline
chosen b false false true is_back is_line is_itself = plain is_back is_itself
chosen b false false false is_back is_line is_itself = hex is_back is_line is_itself

pub byte_form : (b : ℕ) → Form b (byte_text b)
unfolding byte_text
byte_form b = chosen b _ _ _ refl refl refl

-- the number that a digit stands for
abbrev digit_value : ℕ → ℕ
digit_value c = cond (nat_lt c 58) (c - 48) (c - 87)

digit_value-glyph : (d : ℕ) → digit_value (digit_glyph false d) ≡ d
digit_value-glyph d = grind (arith, nat_tests)

-- the byte at the front, in a name or in a text, and what is behind it
abbrev byte_of_digits : List ℕ → ℕ × List ℕ
byte_of_digits [] = (0, [])
byte_of_digits (high ∷ []) = (0, [])
byte_of_digits (high ∷ low ∷ text) = (16 * digit_value high + digit_value low, text)

abbrev escaped_byte : List ℕ → ℕ × List ℕ
escaped_byte [] = (0, [])
escaped_byte (c ∷ text) =
    cond (eqb c 92) (92, text) (cond (eqb c 110) (10, text) (cond (eqb c 34) (34, text) (byte_of_digits text)))

abbrev pub first_byte : List ℕ → ℕ × List ℕ
first_byte [] = (0, [])
first_byte (c ∷ text) = cond (eqb c 92) (escaped_byte text) (c, text)

first_byte-form : {b : ℕ} {s : List ℕ} (rest : List ℕ) → Form b s → first_byte (s ++ rest) ≡ (b, rest)
first_byte-form rest backslash = refl
first_byte-form rest newline = refl
first_byte-form {b} rest (plain p q) = ap (λ t. cond t (escaped_byte rest) (b, rest)) p
first_byte-form {b} rest (hex p q r) =
    let value : 16 * digit_value (digit_glyph false (b / 16)) + digit_value (digit_glyph false (b % 16)) ≡ b =
    rw (digit_value-glyph (b / 16), digit_value-glyph (b % 16)) (omega arith) in
    ap (λ n. (n, rest)) value

-- a byte that is written by two hexadecimal digits
pub record IsHexed (b high low : ℕ) : Type 0 where
  pub text : byte_text b ≡ hex_text b
  pub small : b < 128
  pub high_is : high ≡ digit_glyph false (b / 16)
  pub low_is : low ≡ digit_glyph false (b % 16)

small_from_plain : (b : ℕ) → is_plain b ≡ false → eqb b 92 ≡ false → b < 128
small_from_plain b e f = grind (arith, nat_tests)

hexed_form : {b : ℕ} {s : List ℕ} (high low : ℕ) → Form b s → byte_text b ≡ s → 92 ∷ 120 ∷ high ∷ low ∷ [] ≡ s →
    IsHexed b high low
hexed_form high low backslash f e = cc
hexed_form high low newline f e = cc
hexed_form high low (plain p q) f e = cc
hexed_form {b} high low (hex p q r) f e = record {
  text = f;
  small = small_from_plain b r p;
  high_is = cc;
  low_is = cc;
}

pub IsHexed-from : (b high low : ℕ) → 92 ∷ 120 ∷ high ∷ low ∷ [] ≡ byte_text b → IsHexed b high low
IsHexed-from b high low e = hexed_form high low (byte_form b) refl e

glyph_injective : (d e : ℕ) → digit_glyph false d ≡ digit_glyph false e → d ≡ e
glyph_injective d e same = sym (digit_value-glyph d) ∙ ap digit_value same ∙ digit_value-glyph e

-- the byte is the number that the digits stand for
pub IsHexed-value : (b high low d e : ℕ) → IsHexed b high low →
    high ≡ digit_glyph false d → low ≡ digit_glyph false e → b ≡ 16 * d + e
IsHexed-value b high low d e hexed high_is low_is =
    let left = glyph_injective (b / 16) d (sym hexed.high_is ∙ high_is) in
    let right = glyph_injective (b % 16) e (sym hexed.low_is ∙ low_is) in
    omega (arith, left, right)

form_shorter : {b : ℕ} {s : List ℕ} (rest : List ℕ) → Form b s → length rest < length (s ++ rest)
form_shorter rest backslash = omega arith
form_shorter rest newline = omega arith
form_shorter rest (plain p q) = omega arith
form_shorter rest (hex p q r) = omega arith

-- Each byte is read off from the front of its spelling, and has one.
pub record IsSpelling (spell : ℕ → List ℕ) : Type 0 where
  pub first : (b : ℕ) (rest : List ℕ) → first_byte (spell b ++ rest) ≡ (b, rest)
  pub shorter : (b : ℕ) (rest : List ℕ) → length rest < length (spell b ++ rest)

pub IsSpelling-byte_text : IsSpelling byte_text
IsSpelling-byte_text = record {
  first = λ b rest. first_byte-form rest (byte_form b);
  shorter = λ b rest. form_shorter rest (byte_form b);
}

all_of_form : {b : ℕ} {text : List ℕ} (P : ℕ → Type 0) → P 92 → P 110 → P 120 → ((d : ℕ) → P (digit_glyph false d)) →
    (is_plain b ≡ true → P b) → Form b text → All P text
all_of_form P back line hexed glyph itself backslash =
    All-cons P 92 (92 ∷ []) back (All-cons P 92 [] back (All-nil P))
all_of_form P back line hexed glyph itself newline =
    All-cons P 92 (110 ∷ []) back (All-cons P 110 [] line (All-nil P))
all_of_form {b} P back line hexed glyph itself (plain p q) = All-cons P b [] (itself q) (All-nil P)
all_of_form {b} P back line hexed glyph itself (hex p q r) =
    let high = digit_glyph false (b / 16) in
    let last = digit_glyph false (b % 16) in
    All-cons P 92 (120 ∷ high ∷ last ∷ []) back
    (All-cons P 120 (high ∷ last ∷ []) hexed
    (All-cons P high (last ∷ []) (glyph (b / 16)) (All-cons P last [] (glyph (b % 16)) (All-nil P))))

glyph_from_zero : (d : ℕ) → 48 ≤ digit_glyph false d
glyph_from_zero d = grind (arith, nat_tests)

-- a byte below the digits stands in no spelling but its own
pub IsFreeOf-byte_text : (s b : ℕ) → s < 48 → b ≢ s → IsFreeOf s (byte_text b)
IsFreeOf-byte_text s b low other =
    all_of_form (λ byte. byte ≢ s) (λ e. omega arith) (λ e. omega arith) (λ e. omega arith)
    (λ d e. absurd (omega (arith, glyph_from_zero d))) (λ _. other) (byte_form b)

from_plain : (b : ℕ) → is_plain b ≡ true → 33 ≤ b
from_plain b e = grind (arith, nat_tests)

-- no blank and no control byte stands in a spelling
pub byte_text_visible : (b : ℕ) → All (λ byte. 33 ≤ byte) (byte_text b)
byte_text_visible b =
    all_of_form (λ byte. 33 ≤ byte) (omega arith) (omega arith) (omega arith) (λ d. omega (arith, glyph_from_zero d)) (from_plain b) (byte_form b)
