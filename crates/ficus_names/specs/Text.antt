-- How a shown name is written.
use Rattle.std.specs.Prelude.{ℕ, if◌then◌else◌, List, [], ◌∷◌, ◌++◌}
use Rattle.ficus_ids.specs.Id.{id_text}
use Rattle.ficus_path.specs.Spelling.{name_text}
use Rattle.ficus_names.specs.declared.listing.ShownName.{ShownName}

-- the spelling of the name, with `#` (35) and the object where it is suffixed
abbrev pub shown_text_of : ShownName → List ℕ
shown_text_of item = name_text item.name ++ (if item.suffixed then 35 ∷ id_text item.target else [])
