-- What a test says that failed.
use Rattle.std.proofs.Common.{◌≡◌, ◌↔◌, Bool, true, false}
use Rattle.std.specs.Prelude.{IsTrue}

pub untrue : {P : Type 0} (test : Bool) → (IsTrue test ↔ P) → test ≡ false → P → ⊥
untrue true is fails so = cc
untrue false is fails so = let passes = is.1 so in cc
