-- A number of 31 bits for a name.
use Rattle.std.specs.Prelude.{ℕ, ◌+◌, ◌*◌, ◌%◌, ◌^◌, List}
use Rattle.std.specs.List.{fold}

-- where the digest of Fowler, Noll and Vo starts, for 32 bits, without the highest one
abbrev pub digest_start : ℕ
digest_start = 18652613

-- by what it is multiplied at each byte
abbrev pub digest_factor : ℕ
digest_factor = 16777619

-- how many digests there are
abbrev pub digest_count : ℕ
digest_count = 2 ^ 31

-- the digest with one byte more
abbrev pub mixed : ℕ → ℕ → ℕ
mixed digest byte = (digest * digest_factor + byte) % digest_count

-- the digest of a name, which other names may share
abbrev pub digest_of : List ℕ → ℕ
digest_of name = fold mixed digest_start name
