use Rattle.std.proofs.Common.{◌≡◌, ℕ, Err, ap, refl, ◌∙◌, sym}
use Rattle.std.specs.Prelude.{IsErrOf}
use Rattle.ficus_opening.specs.Check.Judged.{HoldsNoneOf}
use Rattle.ficus_disk.specs.Pair.{PairRose}
use Rattle.ficus_disk.specs.declared.disk.Disk.{Ghosts as Disk}
use Rattle.ficus_disk.specs.declared.pair.Pair.{Pair}
use Rattle.ficus_keeper.specs.Fuses.{both_unarmed, fuses_of}
use Rattle.ficus_keeper.specs.Pairs.{PairSame}
use Rattle.ficus_keeper.specs.declared.fault.StoreFault.{StoreFault}
use Rattle.ficus_keeper.specs.declared.fault.StoreFault.TheVariants as store
use Rattle.ficus_keeper.specs.declared.keep.Keep.{Ghosts as Keep}
use Rattle.ficus_stable_storage.specs.declared.stable.Recovered.{Recovered}
use Rattle.ficus_opening.specs.Calls.{OpensMember}
use Rattle.ficus_opening.specs.Fault.{told_of}
use Rattle.ficus_opening.specs.Opening.{PairAsked, PairLooked}
use Rattle.ficus_opening.specs.declared.fault.WorldFault.{WorldFault}
use Rattle.ficus_opening.specs.declared.fault.WorldFault.TheVariants.{Image, Occupied}
use Rattle.ficus_opening.proofs.Asking.{StayUnarmed, asked_ok, asked_spared, asked_store, looked_so}
use Rattle.ficus_opening.proofs.Faults.{same_err, same_image}
use Rattle.ficus_opening.proofs.opening.open_one.Goals as goal

module _ {K D : Type 0} {keep : Keep K} {disk : Disk D} (number : ℕ) {old new : Pair D} where
  -- a fault is told
  unopened : {fault : WorldFault}
      → (disk.tells → (r : ℕ) → IsErrOf {T = Recovered K} (Err fault) (Image r)
      → (r ≡ number) × HoldsNoneOf keep.kept disk.seen number old)
      → ((r : ℕ) → IsErrOf {T = Recovered K} (Err fault) (Occupied r) → ⊥)
      → PairLooked {A = Recovered K} disk number (Err fault) old new → OpensMember keep disk number (Err fault) old new
  unopened image never looked = record {
    fits = tt;
    own = tt;
    ready = λ told. tt;
    image = image;
    never = never;
    looked = looked;
  }

  -- whichever it is
  unopened_by : (fault : StoreFault) → (fault ≡ store.Failed → PairRose disk.faults 1 old new)
      → (fault ≡ store.Failed → disk.tells_fuse → fuses_of disk.fuse old ≡ both_unarmed → ⊥)
      → (disk.tells → fault ≡ store.NoImage → HoldsNoneOf keep.kept disk.seen number old)
      → (fault ≡ store.NoImage → PairSame disk.faults old new) → (fault ≡ store.Memory → PairSame disk.faults old new)
      → PairSame disk.armings old new → StayUnarmed disk old new
      → (PairAsked {A = Recovered K} disk number (Err (told_of number fault)) old new
      → PairLooked {A = Recovered K} disk number (Err (told_of number fault)) old new)
      → OpensMember keep disk number (Err (told_of number fault)) old new
  unopened_by store.Failed rose never none nothing spared armings unarmed looked =
      unopened (λ told r is. absurd (cc)) (λ r is. absurd (cc))
      (looked (asked_store (rose refl) armings unarmed (never refl)))
  unopened_by store.NoImage rose never none nothing spared armings unarmed looked =
      unopened (λ told r is. (sym (same_image number r (same_err (Image number) (Image r) is)), none told refl))
      (λ r is. absurd (cc)) (looked (asked_spared tt (nothing refl) armings unarmed))
  unopened_by store.Memory rose never none nothing spared armings unarmed looked =
      unopened (λ told r is. absurd (cc)) (λ r is. absurd (cc))
      (looked (asked_spared tt (spared refl) armings unarmed))

pub returns-in-Ok : goal.returns-in-Ok
returns-in-Ok g c =
    let opens = c.open_own.ensures in
    let found = c.in-Ok.ensures in
    record {
      fits = found.fits;
      own = found.own;
      ready = found.ready;
      image = λ told r is. absurd (cc);
      never = λ r is. absurd (cc);
      looked = looked_so (asked_ok found.steady opens.armings opens.unarmed) opens.same opens.crash opens.moments opens.spans;
    }

pub returns-in-Err : goal.returns-in-Err
returns-in-Err g c =
    let opens = c.open_own.ensures in
    let fault = c.in-Err.fault in
    let was : (one : StoreFault) → fault ≡ one → c.open_own.result ≡ Err one =
    λ one is. c.in-Err.is ∙ ap (λ (given : StoreFault). Err given) is in
    rw c.told_of.ensures
    (unopened_by c.args.number fault (λ is. opens.failed (was store.Failed is))
    (λ is fused none. opens.never fused none (was store.Failed is))
    (λ told is. opens.none told (was store.NoImage is)) (λ is. opens.nothing (was store.NoImage is))
    (λ is. opens.spared (was store.Memory is)) opens.armings opens.unarmed
    (λ asked. looked_so asked opens.same opens.crash opens.moments opens.spans))
