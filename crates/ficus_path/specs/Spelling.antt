-- How names and paths are spelled.
use Rattle.std.specs.Prelude.{◌≡◌, ℕ, ◌/◌, ◌%◌, Bool, false, ◌&&◌, not, ◌==◌, nat_le, if◌then◌else◌, List, [], ◌∷◌, ◌++◌, Option, Some, None, codes}
use Rattle.std.specs.List.{flat_map}
use Rattle.std.specs.Fmt.{digit_glyph}
use Rattle.ficus_ids.specs.declared.id.Id.{Id}
use Rattle.ficus_ids.specs.Id.{id_text}
use Rattle.ficus_path.specs.declared.path.Base.{Base}
use Rattle.ficus_path.specs.declared.path.Base.TheVariants.{Root, Orphan}
use Rattle.ficus_path.specs.declared.path.Part.{Part}
use Rattle.ficus_path.specs.declared.path.Path.{Path}

-- the bytes that are written as themselves: from 0x21 on, but for the backslash (92) and 0x7F (127)
abbrev pub is_plain : ℕ → Bool
is_plain byte = nat_le 33 byte && not (byte == 92) && not (byte == 127)

-- a backslash, `x` and two hexadecimal digits in lower case
abbrev pub hex_text : ℕ → List ℕ
hex_text byte = codes "\\x" ++ digit_glyph false (byte / 16) ∷ digit_glyph false (byte % 16) ∷ []

-- how a byte of a name is written
unfoldable pub byte_text : ℕ → List ℕ
byte_text byte =
    if byte == 92 then codes "\\\\" else
    if byte == 10 then codes "\\n" else
    if is_plain byte then byte ∷ [] else hex_text byte

abbrev pub name_text : List ℕ → List ℕ
name_text name = flat_map byte_text name

-- nothing, or `#` (35) and the identifier
abbrev pub target_text : Option Id → List ℕ
target_text None = []
target_text (Some id) = 35 ∷ id_text id

-- a part without the slash before it
abbrev pub component_text : Part → List ℕ
component_text part = name_text part.name ++ target_text part.target

-- a slash (47) and the component
abbrev pub part_text : Part → List ℕ
part_text part = 47 ∷ component_text part

-- what stands before the parts: nothing at the root, or a slash where there is no part; a tilde (126) and the
-- identifier at an orphan
abbrev pub start_text : Base → List Part → List ℕ
start_text Root [] = 47 ∷ []
start_text Root (part ∷ parts) = []
start_text (Orphan id) parts = 126 ∷ id_text id

-- the start, and the parts one after the other
abbrev pub path_text : Path → List ℕ
path_text path = start_text path.base path.parts ++ flat_map part_text path.parts

-- the text is at its end, or goes on with the separator
abbrev pub IsEndOr : ℕ → List ℕ → Type 0
IsEndOr separator [] = Unit {0}
IsEndOr separator (byte ∷ text) = byte ≡ separator
