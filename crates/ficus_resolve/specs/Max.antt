-- The resolver `max`: the greatest number.
use Rattle.std.specs.Prelude.{◌≡◌, ◌≤◌, ℕ, List, length, All, Contains, Option, Some, None}
use Rattle.std.specs.Fmt.{decimal}
use Rattle.std.specs.Str.Parse.{AllDigits, digits_value}

-- 1 to 19 decimal digits; leading zeros are allowed
pub record IsNumeral (content : List ℕ) : Type 0 where
  pub at_least : 1 ≤ length content
  pub at_most : length content ≤ 19
  pub digits : AllDigits 10 content

-- every content is a number, this one is among them, and none is greater
pub record IsGreatest (contents : List (List ℕ)) (number : ℕ) : Type 0 where
  pub each : All IsNumeral contents
  pub content : List ℕ
  pub inside : Contains contents content
  pub value : digits_value 10 content ≡ number
  pub above : All (λ other. digits_value 10 other ≤ number) contents

-- the text is the greatest number in shortest decimal form
pub record IsGreatestText (contents : List (List ℕ)) (text : List ℕ) : Type 0 where
  pub number : ℕ
  pub greatest : IsGreatest contents number
  pub spelled : text ≡ decimal number

-- some content is no number
pub record HasNoNumeral (contents : List (List ℕ)) : Type 0 where
  pub content : List ℕ
  pub inside : Contains contents content
  pub no_numeral : IsNumeral content → ⊥

-- the greatest number, or nothing where some content is no number
abbrev pub IsMaximum : List (List ℕ) → Option (List ℕ) → Type 0
IsMaximum contents (Some text) = IsGreatestText contents text
IsMaximum contents None = HasNoNumeral contents
