-- Sets of replica numbers, each kept as a number.
use Rattle.std.specs.Prelude.{ℕ, ◌-◌, Bool, ◌&&◌, ◌==◌, nat_le, IsTrue}
use Rattle.std.specs.Int.{bit_at}
use Rattle.ficus_ids.specs.Members.{IsMember}

-- bit r - 1 stands for replica r
unfoldable pub has : ℕ → ℕ → Bool
has marks replica = nat_le 1 replica && (bit_at marks (replica - 1) == 1)

-- every member is in the set
abbrev pub IsFull : ℕ → ℕ → Type 0
IsFull marks members = (replica : ℕ) → IsMember members replica → IsTrue (has marks replica)

-- nobody but members is in the set
abbrev pub HasMembersOnly : ℕ → ℕ → Type 0
HasMembersOnly marks members = (replica : ℕ) → IsTrue (has marks replica) → IsMember members replica
