-- A volume by its numbers.
use Rattle.std.specs.Prelude.{ℕ}
use Rattle.ficus_model.specs.Lawful.{Volume}

-- so many members, each of which makes so many updates over its life, and writes so many bytes, at most
abbrev pub sized : ℕ → ℕ → ℕ → Volume
sized members ids bytes = record { members = members; ids = ids; bytes = bytes }
