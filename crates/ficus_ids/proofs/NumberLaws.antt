-- The decimal spelling of a number: which bytes it has, and which bytes `parse` reads as it.
use Rattle.std.proofs.Common.{◌≡◌, ◌≢◌, ℕ, zero, suc, ◌<◌, ◌^◌, List, length, get_or, Result, Ok, Err, IfSome, IfNone, sym, ◌∙◌, ap, arith}
use Rattle.std.proofs.lemmas.Fmt.{decimal_digit, decimal_nonempty, first_decimal, parse-decimal, decimal-digits_value, digits_decimal, IsAscii-decimal}
use Rattle.std.proofs.lemmas.Str.{IsUtf8-from_ascii}
use Rattle.std.proofs.lemmas.Str.Parse.{IsNumeralModel, numerals_by_value, tells_digits, digit_at, parse_plain}
use Rattle.std.specs.Fmt.{decimal}
use Rattle.std.specs.Int.{IsInRange}
use Rattle.std.specs.Result.{result_ok}
use Rattle.std.specs.Str.{IsUtf8}
use Rattle.std.specs.Str.Parse.{AllDigits, digits_value, ParsesUnsigned}

numerals : IsNumeralModel (AllDigits 10) (digits_value 10)
numerals = numerals_by_value _ tells_digits

-- each byte is a digit
pub decimal_at : (n : ℕ) → n < 2 ^ 64 → (i : ℕ) → i < length (decimal n) → IsInRange 48 57 (get_or (decimal n) i 0)
decimal_at n fits i h = digit_at (decimal n) i (digits_decimal numerals n fits) h

-- the bytes begin with no sign, and with a zero only where it is all
abbrev pub BeginsPlainly : List ℕ → Type 0
BeginsPlainly bytes = (get_or bytes 0 0 ≢ 43) × (get_or bytes 0 0 ≡ 48 → length bytes ≡ 1)

length-decimal : (n : ℕ) → n < 2 ^ 64 → get_or (decimal n) 0 0 ≡ 48 → length (decimal n) ≡ 1
length-decimal zero fits e = ap length (decimal_digit 0 (omega arith))
length-decimal (suc n) fits e = absurd (omega (arith, first_decimal (suc n) (omega arith) fits))

pub BeginsPlainly-decimal : (n : ℕ) → n < 2 ^ 64 → BeginsPlainly (decimal n)
BeginsPlainly-decimal n fits =
    (λ e. absurd (omega (arith, decimal_at n fits 0 (decimal_nonempty n fits))), length-decimal n fits)

pub IsUtf8-decimal : (n : ℕ) → n < 2 ^ 64 → IsUtf8 (decimal n)
IsUtf8-decimal n fits = IsUtf8-from_ascii _ (IsAscii-decimal n fits)

-- what `parse` gives where nothing stands before the digits
pub found_by_parse : {E : Type 0} (bytes : List ℕ) (r : Result ℕ E) → BeginsPlainly bytes →
    ParsesUnsigned 32 10 bytes r → IfSome (result_ok r) (λ n. bytes ≡ decimal n)
found_by_parse {E} bytes (Ok n) plain h =
    let p = parse_plain numerals {E = E} 32 bytes (Ok n) h plain.0 in
    sym (decimal-digits_value numerals bytes p.0.0 p.0.1 plain.1 (omega arith)) ∙ ap decimal (sym p.1)
found_by_parse bytes (Err e) plain h = tt

pub none_by_parse : {E : Type 0} (bytes : List ℕ) (r : Result ℕ E) → ParsesUnsigned 32 10 bytes r →
    IfNone (result_ok r) ((n : ℕ) → n < 2 ^ 32 → bytes ≡ decimal n → ⊥)
none_by_parse bytes (Ok n) h = tt
none_by_parse bytes (Err e) h = λ n small same.
    let p = parse-decimal 32 n bytes (Err e) small (omega arith) same h in
    cc
