-- Two members.
use Rattle.std.specs.Prelude.{◌≢◌, ℕ}
use Rattle.ficus_ids.specs.Members.{IsMember}

-- two different members
pub record ArePeers (members r s : ℕ) : Type 0 where
  pub first : IsMember members r
  pub second : IsMember members s
  pub differ : r ≢ s
