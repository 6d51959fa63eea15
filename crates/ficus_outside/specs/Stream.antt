-- A reader or a writer as a source or a sink.
use Rattle.std.specs.Prelude.{ℕ, List, Option}

-- the bytes that are known of it, and its count of faults: a reader's bytes are those that it has left, a writer's
-- those that it holds
pub record StreamState : Type 0 where
  pub known : Option (List ℕ)
  pub faults : ℕ
