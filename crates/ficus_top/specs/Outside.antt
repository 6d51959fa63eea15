-- What a call took from a source.
use Rattle.std.specs.Prelude.{◌≡◌, ℕ, ◌+◌, ◌<◌, List, ◌++◌, length}

-- the source gave these bytes
abbrev pub Gives : List ℕ → List ℕ → List ℕ → Type 0
Gives old given new = old ≡ given ++ new

-- the source gave so many bytes
abbrev pub GivesCount : List ℕ → ℕ → List ℕ → Type 0
GivesCount old count new = length old ≡ length new + count

-- the source gave fewer bytes than that
pub record GivesBelow (old : List ℕ) (limit : ℕ) (new : List ℕ) : Type 0 where
  pub count : ℕ
  pub gives : GivesCount old count new
  pub below : count < limit
