-- Which contents are numbers, by what `parse` reads, and the greatest of several.
use Rattle.std.specs.Prelude.{◌≡◌, ◌≢◌, ◌⊎◌, ℕ, ◌+◌, ◌<◌, ◌≤◌, ◌^◌, List, [], ◌∷◌, ◌++◌, length, take, slice_index, All, Contains, Result, Ok, Err, IfNone, max}
use Rattle.std.specs.Result.{result_ok}
use Rattle.std.specs.Str.{IsUtf8}
use Rattle.std.specs.Str.Parse.{AllDigits, digits_value, ParsesUnsigned}
use Rattle.std.proofs.Common.{arith, get_or, inl, inr, sym, ◌∙◌, ap}
use Rattle.std.proofs.lemmas.Bool.{cases_lt}
use Rattle.std.proofs.lemmas.List.{take_more}
use Rattle.std.proofs.lemmas.List.Elements.{All-push, All-weaker, All-contains, Contains-get_or, Contains-push, Contains-append_left}
use Rattle.std.proofs.lemmas.Str.{IsUtf8-from_ascii}
use Rattle.std.proofs.lemmas.Str.Ascii.{IsAscii-from_reads}
use Rattle.std.proofs.lemmas.Str.Parse.{IsNumeralModel, numerals_by_value, tells_digits, parse_plain, digits_value_short, digit_at}
use Rattle.ficus_resolve.specs.Max.{IsNumeral, IsGreatest}

numerals : IsNumeralModel (AllDigits 10) (digits_value 10)
numerals = numerals_by_value _ tells_digits

-- a number of 19 digits has at most 64 bits
fits : (content : List ℕ) → AllDigits 10 content → length content ≤ 19 → digits_value 10 content < 2 ^ 64
fits content digits short = omega (arith, digits_value_short numerals content 19 digits short)

-- no number begins with a sign
no_sign : (content : List ℕ) → IsNumeral content → slice_index content 0 ≢ 43
no_sign content numeral sign = absurd (omega (arith, digit_at content 0 numeral.digits (omega (arith, numeral.at_least)), sign))

-- what `parse` doesn't read is no number
pub no_numeral : {E : Type 0} (content : List ℕ) (read : Result ℕ E) → ParsesUnsigned 64 10 content read →
    IfNone (result_ok read) (IsNumeral content → ⊥)
no_numeral content (Ok number) parsed = tt
no_numeral content (Err fault) parsed = λ numeral.
    parse_plain numerals 64 content (Err fault) parsed (no_sign content numeral)
    (numeral.digits, omega (arith, numeral.at_least), fits content numeral.digits numeral.at_most)

-- digits are text
pub IsUtf8-numeral : (content : List ℕ) → IsNumeral content → IsUtf8 content
IsUtf8-numeral content numeral =
    IsUtf8-from_ascii content (IsAscii-from_reads content (length content) (omega arith) (λ k within. omega (arith, digit_at content k numeral.digits within)))

-- the greatest of the contents seen so far, each of them a number, or 0 where none is seen
pub record IsGreatestSeen (seen : List (List ℕ)) (number : ℕ) : Type 0 where
  pub each : All IsNumeral seen
  pub reached : (number ≡ 0) ⊎ ((content : List ℕ) × Contains seen content × (digits_value 10 content ≡ number))
  pub above : All (λ content. digits_value 10 content ≤ number) seen

greatest_push : (seen : List (List ℕ)) (number : ℕ) (content : List ℕ) → IsNumeral content →
    IsGreatestSeen seen number → IsGreatestSeen (seen ++ content ∷ []) (max (digits_value 10 content) number)
greatest_push seen number content numeral greatest =
    let most = max (digits_value 10 content) number in
    let above : All (λ other. digits_value 10 other ≤ most) seen =
    All-weaker (λ other. digits_value 10 other ≤ number) (λ other. digits_value 10 other ≤ most) (λ other below. omega (arith, below)) seen greatest.above in
    record {
      each = All-push IsNumeral seen content greatest.each numeral;
      reached = elim (cases_lt number (digits_value 10 content)) [
        | inl more ↦ inr (content, Contains-push seen content, omega (arith, more))
        | inr no_more ↦ elim greatest.reached [
          | inl none ↦ inl (omega (arith, none, no_more))
          | inr reached ↦ inr (reached.0, Contains-append_left seen (content ∷ []) reached.0 reached.1, omega (arith, reached.2, no_more))
        ]
      ];
      above = All-push (λ other. digits_value 10 other ≤ most) seen content above (omega arith);
    }

pub greatest_more : (contents : List (List ℕ)) (index number value next : ℕ) (content : List ℕ) →
    index < length contents → content ≡ get_or contents index content → value ≡ digits_value 10 content →
    IsNumeral content → next ≡ max value number → IsGreatestSeen (take index contents) number →
    IsGreatestSeen (take (index + 1) contents) next
greatest_more contents index number value next content within at read numeral greater greatest =
    let seen : take (index + 1) contents ≡ take index contents ++ content ∷ [] =
    take_more contents index content within ∙ ap (λ c. take index contents ++ c ∷ []) (sym at) in
    rw (seen, greater, read) (greatest_push (take index contents) number content numeral greatest)

pub greatest_whole : (contents : List (List ℕ)) (number : ℕ) → 0 < length contents → IsGreatestSeen contents number →
    IsGreatest contents number
greatest_whole contents number some greatest =
    let first = get_or contents 0 [] in
    let inside = Contains-get_or contents 0 [] some in
    let below = All-contains (λ content. digits_value 10 content ≤ number) contents first greatest.above inside in
    let reached : (content : List ℕ) × Contains contents content × (digits_value 10 content ≡ number) =
    elim greatest.reached [
      | inl none ↦ (first, inside, omega (arith, none, below))
      | inr reached ↦ reached
    ] in
    record { each = greatest.each; content = reached.0; inside = reached.1; value = reached.2; above = greatest.above }
