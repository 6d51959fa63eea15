-- What is put to a sink.
use Rattle.std.specs.Prelude.{◌≡◌, ℕ, List, ◌++◌}

-- what was put is a front of the bytes
pub record PutsFront (old bytes new : List ℕ) : Type 0 where
  pub front : List ℕ
  pub rest : List ℕ
  pub is : bytes ≡ front ++ rest
  pub put : new ≡ old ++ front
