-- The tag of a volume, and the texts that spell one.
use Rattle.std.specs.Prelude.{◌≡◌, List, ℕ, length, Ok}
use Rattle.std.specs.List.{AllPass}
use Rattle.hex.specs.Hex.{IsBytes, decode_of, encode_lower, is_hex_digit}

-- sixteen bytes
pub record IsTag (tag : List ℕ) : Type 0 where
  pub size : length tag ≡ 16
  pub bytes : IsBytes tag

-- the text in which a tag is written: two hexadecimal digits for each byte, in lower case
abbrev pub tag_text : List ℕ → List ℕ
tag_text tag = encode_lower tag

-- 32 hexadecimal digits, each in lower or upper case
pub record IsTagText (text : List ℕ) : Type 0 where
  pub size : length text ≡ 32
  pub digits : AllPass is_hex_digit text

-- the text is 32 hexadecimal digits, each in lower or upper case, two for each byte of the tag
pub record SpellsTag (text tag : List ℕ) : Type 0 where
  pub size : length text ≡ 32
  pub bytes : decode_of text ≡ Ok tag
