-- How texts are spelled.
use Rattle.std.specs.Prelude.{codes, ◌≡◌, ℕ, ◌==◌, if◌then◌else◌, List, [], ◌∷◌, ◌++◌}
use Rattle.std.specs.List.{flat_map}
use Rattle.ficus_path.specs.Spelling.{byte_text}
use Rattle.ficus_path.specs.declared.text.TextFault.{TextFault}
use Rattle.ficus_path.specs.declared.text.TextFault.TheVariants.{NotText, Memory}

-- how a byte of a text is written: a quotation mark (34) behind a backslash (92), a space (32) as itself, every other
-- byte as in names
unfoldable pub quoted_byte_text : ℕ → List ℕ
quoted_byte_text byte =
    if byte == 34 then 92 ∷ 34 ∷ [] else
    if byte == 32 then 32 ∷ [] else byte_text byte

-- the bytes of the text, one after the other, between two quotation marks
abbrev pub quoted_text : List ℕ → List ℕ
quoted_text text = 34 ∷ flat_map quoted_byte_text text ++ 34 ∷ []

-- the bytes are what stands between the quotation marks of a text
abbrev pub SpellsInside : List ℕ → Type 0
SpellsInside inside = (text : List ℕ) × (inside ≡ flat_map quoted_byte_text text)

-- the bytes spell a text
abbrev pub SpellsText : List ℕ → Type 0
SpellsText bytes = (text : List ℕ) × (bytes ≡ quoted_text text)

-- how a fault is written
abbrev pub text_fault_text : TextFault → List ℕ
text_fault_text NotText = codes "not a text"
text_fault_text Memory = codes "memory"
