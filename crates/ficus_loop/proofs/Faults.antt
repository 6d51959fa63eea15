-- Faults that are told.
use Rattle.std.proofs.Common.{◌≡◌, ℕ, ◌<◌, ◌≤◌, Result, Ok, Err, arith}
use Rattle.std.specs.Prelude.{IfErr, IsErrOf, OnErr}

-- where a call that tells of its fault was fine, no fault was counted
pub untold : {Done Fault : Type 0} (fault : Fault) (done : Done) (result : Result Done Fault) (before now : ℕ)
    → (before < now → IsErrOf result fault) → before ≤ now → result ≡ Ok done → now ≡ before
untold fault done (Ok other) before now told counted is =
    let none : before < now → ⊥ = λ rose. absurd (cc (told rose)) in
    omega (arith, none)
untold fault done (Err other) before now told counted is = absurd (cc is)

-- what holds of each fault holds of the one that a call ended with
pub if_front : {Done E : Type 0} (result : Result Done E) {P : Type 0} {Q : E → Type 0} → ((fault : E) → P → Q fault)
    → OnErr result P → IfErr result Q
if_front (Ok done) makes is = tt
if_front (Err fault) makes is = makes fault is
