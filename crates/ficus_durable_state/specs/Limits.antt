-- The limits of what a replica saves.
use Rattle.std.specs.Prelude.{ℕ}

-- the most updates that one replica makes over its life
abbrev pub update_limit : ℕ
update_limit = 100000

-- the most bytes that one replica writes over its life: 4 MiB
abbrev pub byte_limit : ℕ
byte_limit = 4194304

-- the most bytes of one file
abbrev pub file_limit : ℕ
file_limit = 16384
