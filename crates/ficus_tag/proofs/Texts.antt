-- Which texts spell a tag.
use Rattle.std.proofs.Common.{◌≡◌, ℕ, List, ◌∙◌, sym, arith}
use Rattle.std.specs.Prelude.{◌↔◌, IsOk, Ok}
use Rattle.hex.specs.Hex.{decode_sized, lower_digits}
use Rattle.hex.proofs.HexLemmas.{IsOk-decode_sized, decode_of-encode_lower, decode_of-ok, decode_sized-ok, decode_sized-twice, length-encode_with}
use Rattle.ficus_tag.specs.Tag.{IsTag, IsTagText, SpellsTag, tag_text}

-- what is written is read
pub written : (tag : List ℕ) → IsTag tag → SpellsTag (tag_text tag) tag
written tag is = record {
  size = omega (arith, is.size, length-encode_with lower_digits tag);
  bytes = decode_of-encode_lower tag is.bytes;
}

-- what is read are the tags' texts
pub is_text : (text : List ℕ) → IsOk (decode_sized text 16) ↔ IsTagText text
is_text text = (
  λ ok. let parts = (IsOk-decode_sized text 16).0 ok in record { size = parts.0; digits = parts.1 },
  λ is. (IsOk-decode_sized text 16).1 (is.size, is.digits),
)

-- what isn't read spells no tag
pub no_tag : (text : List ℕ) → (IsOk (decode_sized text 16) → ⊥) → (tag : List ℕ) → SpellsTag text tag → ⊥
no_tag text fails tag spells =
    fails ((is_text text).1 (record { size = spells.size; digits = (decode_of-ok text tag spells.bytes).1 }))

-- and gives sixteen bytes
pub fits : (text bytes : List ℕ) → decode_sized text 16 ≡ Ok bytes → IsTag bytes
fits text bytes read =
    let twice = decode_sized-ok text 16 bytes read in
    let parts = decode_of-ok text bytes (sym (decode_sized-twice text 16 twice) ∙ read) in
    record { size = omega (arith, twice, parts.2); bytes = parts.3 }
