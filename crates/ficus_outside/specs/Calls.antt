-- What is alike in the calls of sources, sinks and links, so that each says it by name.
use Rattle.std.specs.Prelude.{◌≡◌, ◌↔◌, ◌≤◌, ℕ, List, length, Result, IfOk, IsErr, OnErr, OnOk}
use Rattle.std.specs.Io.KnownBytes.{ReadConsumes}
use Rattle.ficus_faults.specs.Calls.{IsNextListed, Tally, called, failed}
use Rattle.ficus_faults.specs.Faults.{Rose}
use Rattle.ficus_outside.specs.Stream.{StreamState}

-- the call fails exactly where it was told, and is counted
pub record FailsAsTold {A E : Type 0} (old new : Tally) (result : Result A E) : Type 0 where
  pub fails : IsErr result ↔ IsNextListed old
  pub call : OnOk result (new ≡ called old)
  pub fault : OnErr result (new ≡ failed old)

-- what is given is what the reader gave, its end the reader's end, and with a fault, which is counted, nothing is lost
pub record TakesFrom {E : Type 0} (old new : StreamState) (result : Result ℕ E) (into : List ℕ) : Type 0 where
  pub within : IfOk result (λ count. count ≤ length into)
  pub failed : OnErr result (Rose old.faults new.faults)
  pub steady : OnOk result (new.faults ≡ old.faults)
  pub counted : old.faults ≤ new.faults
  pub read : ReadConsumes old.known new.known result into
