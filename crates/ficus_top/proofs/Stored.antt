-- What the faults of making and opening a volume come to.
use Rattle.std.proofs.Common.{◌≡◌, ◌⊎◌, ℕ, ◌≤◌, List, Result, Ok, Err, sym, ap, subst, ◌∙◌, inl, inr}
use Rattle.std.specs.Prelude.{IfErr, IsErrAnd, OnOk}
use Rattle.ficus_disk.specs.declared.pair.Pair.{Pair}
use Rattle.ficus_loop.proofs.Places.{not_occupied}
use Rattle.ficus_top.specs.Ending.{IsIdle, IsInterruption}
use Rattle.ficus_top.specs.declared.fault.Fault.{Fault}
use Rattle.ficus_top.specs.declared.fault.Fault.TheVariants.{Storing}
use Rattle.ficus_opening.specs.Opening.{AreEmpty, IsFirstOccupied, IsStoreFault}
use Rattle.ficus_opening.specs.declared.fault.WorldFault.{WorldFault}
use Rattle.ficus_opening.specs.declared.fault.WorldFault.TheVariants.{Image, Memory, Occupied, Store}

-- making a volume where something is held says so, unless memory is refused or a disk fails before
pub said_of : {D S : Type 0} {seen : D → List ℕ} {disks : List (Pair D)} {count r : ℕ} (made : Result S WorldFault)
    → OnOk made (AreEmpty seen disks count) → (made ≡ Err (Occupied r)) ⊎ ((q : ℕ) × (made ≡ Err (Store q)))
    → IsFirstOccupied seen disks r → r ≤ count
    → IsErrAnd made (λ fault. (fault ≡ Occupied r) ⊎ IsStoreFault fault)
said_of (Ok done) empty comes first within = absurd (not_occupied empty first within)
said_of (Err fault) empty (inl is) first within = inl (cc)
said_of (Err fault) empty (inr stored) first within =
    let told = stored.1 in
    let is : fault ≡ Store stored.0 = cc in
    inr (subst IsStoreFault (sym is) tt)

module _ {S T : Type 0} (made : Result S WorldFault) (result : Result T Fault) (fault : WorldFault) (given : Fault)
    (was : made ≡ Err fault) (is : result ≡ Err given) (from : given ≡ Storing fault) where
  -- the fault of the run is that of making the volume
  pub handed_on : (other : WorldFault) → result ≡ Err (Storing other) → made ≡ Err other
  handed_on other so = cc

  -- a fault that is said where it comes, unless memory is refused or a disk fails before, is said by the run
  pub told_on : (named : WorldFault) → IsErrAnd made (λ fault. (fault ≡ named) ⊎ IsStoreFault fault)
      → IsErrAnd result (λ fault. (fault ≡ Storing named) ⊎ IsInterruption fault)
  told_on named said =
      subst (λ (ended : Result T Fault). IsErrAnd ended (λ f. (f ≡ Storing named) ⊎ IsInterruption f))
      (sym (is ∙ ap (λ (f : Fault). Err f) from))
      (so fault (subst (λ (ended : Result S WorldFault). IsErrAnd ended (λ f. (f ≡ named) ⊎ IsStoreFault f)) was said))
    where
      so : (f : WorldFault) → (f ≡ named) ⊎ IsStoreFault f → (Storing f ≡ Storing named) ⊎ IsInterruption (Storing f)
      so f (inl same) = inl (ap (λ (w : WorldFault). Storing w) same)
      so (Store q) (inr interrupts) = inr tt
      so Memory (inr interrupts) = inr tt
      so (Occupied q) (inr interrupts) = absurd interrupts
      so (Image q) (inr interrupts) = absurd interrupts

-- what holds is so of a run that carried out nothing
pub if_idle : {Done P : Type 0} (ended : Result Done Fault) → P → IfErr ended (λ fault. IsIdle fault → P)
if_idle (Ok done) holds = tt
if_idle (Err fault) holds = λ idle. holds

-- what is known of a run that carried out nothing, as one fact
pub idle_both : {Done P Q R : Type 0} (ended : Result Done Fault) → (P → Q → R)
    → IfErr ended (λ fault. IsIdle fault → P) → IfErr ended (λ fault. IsIdle fault → Q)
    → IfErr ended (λ fault. IsIdle fault → R)
idle_both (Ok done) both one other = tt
idle_both (Err fault) both one other = λ idle. both (one idle) (other idle)
