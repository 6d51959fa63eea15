-- What calls do to the disks of members, while one pair after the other is asked.
use Rattle.std.proofs.Common.{◌≡◌, ℕ, ◌+◌, ◌<◌, ◌≤◌, List, length, get_or, Result, Ok, Err, sym, ap, subst}
use Rattle.std.specs.Prelude.{slice_set, IsErrOf, OnOk}
use Rattle.ficus_disk.specs.Pair.{PairRose}
use Rattle.ficus_disk.specs.declared.disk.Disk.{Ghosts as Disk}
use Rattle.ficus_disk.specs.declared.pair.Pair.{Pair}
use Rattle.ficus_keeper.specs.Fuses.{both_unarmed, fuses_of}
use Rattle.ficus_keeper.specs.Moments.{PairLeavesOld, PairSpans}
use Rattle.ficus_keeper.specs.Pairs.{PairSame, PairWithin}
use Rattle.ficus_runs.specs.Numbered.{IsNumbered}
use Rattle.ficus_opening.specs.Fuses.{AreUnarmed}
use Rattle.ficus_opening.specs.Rests.{AllRest}
use Rattle.ficus_opening.specs.Opening.{DisksAsked, DisksLooked, IsAtFault, IsUnfailed, PairAsked, PairLooked, Steady}
use Rattle.ficus_opening.specs.declared.fault.WorldFault.{WorldFault}
use Rattle.ficus_opening.specs.declared.fault.WorldFault.TheVariants.{Store}
use Rattle.ficus_opening.proofs.Faults.{same_err, same_store, where_ok}
use Rattle.ficus_opening.proofs.Steadies.{fault_behind, fault_set, number_at, rose_from, same_trans, steady_none, steady_one, steady_set, steady_trans}
use Rattle.ficus_opening.proofs.Rests.{all_rest_none, all_rest_one, all_rest_then}
use Rattle.ficus_opening.proofs.Unarmed.{unfailing_behind, unfailing_none, unfailing_set}

-- a fault is the same, whatever would have been given
pub err_as : {A B : Type 0} (one two : WorldFault) → IsErrOf {T = A} (Err one) two → IsErrOf {T = B} (Err one) two
err_as one two is = ap (λ (f : WorldFault). Err f) (same_err one two is)

-- what holds anyway holds where it was done
pub on_ok : {A P : Type 0} (result : Result A WorldFault) → P → OnOk result P
on_ok (Ok done) fact = fact
on_ok (Err failed) fact = tt

-- no disk failed
pub never_store : {A : Type 0} (fault : WorldFault) → IsUnfailed fault → (r : ℕ) → IsErrOf {T = A} (Err fault) (Store r) → ⊥
never_store fault unfailed r is = subst IsUnfailed (same_err fault (Store r) is) unfailed

-- where no number was armed on a pair, none is
abbrev pub StayUnarmed : {D : Type 0} → Disk D → Pair D → Pair D → Type 0
StayUnarmed disk old new =
    disk.tells_fuse → fuses_of disk.fuse old ≡ both_unarmed → fuses_of disk.fuse new ≡ both_unarmed

module _ {D : Type 0} {disk : Disk D} {number : ℕ} where
  -- it was answered
  pub asked_ok : {A : Type 0} {given : A} {old new : Pair D} → PairSame disk.faults old new
      → PairSame disk.armings old new → StayUnarmed disk old new → PairAsked disk number (Ok given) old new
  asked_ok steady armings unarmed = record {
    failed = λ r is. absurd (cc);
    spared = λ fault unfailed is. absurd (cc);
    steady = steady;
    armings = armings;
    unfailing = λ fused. record { unarmed = unarmed fused; unfailing = λ none r is. absurd (cc) };
  }

  -- a disk failed
  pub asked_store : {A : Type 0} {old new : Pair D} → PairRose disk.faults 1 old new → PairSame disk.armings old new
      → StayUnarmed disk old new → (disk.tells_fuse → fuses_of disk.fuse old ≡ both_unarmed → ⊥)
      → PairAsked {A = A} disk number (Err (Store number)) old new
  asked_store rose armings unarmed never = record {
    failed = λ r is. (sym (same_store number r (same_err (Store number) (Store r) is)), rose);
    spared = λ fault unfailed is.
        absurd (subst IsUnfailed (sym (same_err (Store number) fault is)) unfailed);
    steady = tt;
    armings = armings;
    unfailing = λ fused. record { unarmed = unarmed fused; unfailing = λ none r is. never fused none };
  }

  -- another fault was told
  pub asked_spared : {A : Type 0} {fault : WorldFault} {old new : Pair D} → IsUnfailed fault
      → PairSame disk.faults old new → PairSame disk.armings old new → StayUnarmed disk old new
      → PairAsked {A = A} disk number (Err fault) old new
  asked_spared {fault = fault} unfailed steady armings unarmed = record {
    failed = λ r is. absurd (never_store fault unfailed r is);
    spared = λ other so is. steady;
    steady = tt;
    armings = armings;
    unfailing = λ fused. record {
      unarmed = unarmed fused;
      unfailing = λ none r is. never_store fault unfailed r is;
    };
  }

  -- a fault is handed on
  pub asked_err : {A B : Type 0} (fault : WorldFault) {old new : Pair D}
      → PairAsked {A = A} disk number (Err fault) old new → PairAsked {A = B} disk number (Err fault) old new
  asked_err fault asked = record {
    failed = λ r is. asked.failed r (err_as fault (Store r) is);
    spared = λ other so is. asked.spared other so (err_as fault other is);
    steady = tt;
    armings = asked.armings;
    unfailing = λ fused.
        let was = asked.unfailing fused in
        record {
          unarmed = was.unarmed;
          unfailing = λ none r is. was.unfailing none r (err_as fault (Store r) is);
        };
  }

  -- another call came before
  pub asked_after : {A : Type 0} {result : Result A WorldFault} {old mid new : Pair D} → PairSame disk.faults old mid
      → PairSame disk.armings old mid → StayUnarmed disk old mid → PairAsked disk number result mid new
      → PairAsked disk number result old new
  asked_after {result = result} {old = old} {mid = mid} {new = new} steady armings unarmed asked = record {
    failed = λ r is.
        let failed = asked.failed r is in (failed.0, rose_from disk.faults 1 old mid new steady failed.1);
    spared = λ fault so is. same_trans disk.faults old mid new steady (asked.spared fault so is);
    steady = where_ok result asked.steady (same_trans disk.faults old mid new steady);
    armings = same_trans disk.armings old mid new armings asked.armings;
    unfailing = λ fused.
        let then = asked.unfailing fused in
        record {
          unarmed = λ none. then.unarmed (unarmed fused none);
          unfailing = λ none r is. then.unfailing (unarmed fused none) r is;
        };
  }

module _ {D : Type 0} {disk : Disk D} where
  -- no disk failed
  pub disks_steady : {A : Type 0} (result : Result A WorldFault) (old new : List (Pair D))
      → Steady disk.faults old new → Steady disk.armings old new
      → (disk.tells_fuse → AreUnarmed disk.fuse old → AreUnarmed disk.fuse new)
      → ((r : ℕ) → IsErrOf result (Store r) → ⊥) → DisksAsked disk result old new
  disks_steady result old new steady armings unarmed never = record {
    failed = λ r is. absurd (never r is);
    spared = λ fault so is. steady;
    steady = on_ok result steady;
    armings = armings;
    unfailing = λ fused. unfailing_none disk.fuse result old new (unarmed fused) never;
  }

  -- a fault is handed on
  pub disks_err : {A B : Type 0} (fault : WorldFault) {old new : List (Pair D)}
      → DisksAsked {A = A} disk (Err fault) old new → DisksAsked {A = B} disk (Err fault) old new
  disks_err fault {old = old} {new = new} asked = record {
    failed = λ r is. asked.failed r (err_as fault (Store r) is);
    spared = λ other so is. asked.spared other so (err_as fault other is);
    steady = tt;
    armings = asked.armings;
    unfailing = λ fused.
        unfailing_behind disk.fuse (Err fault) (Err fault) old old new (λ none. none) (asked.unfailing fused)
        (λ r is. err_as fault (Store r) is);
  }

  module _ {A : Type 0} {result : Result A WorldFault} (old mid : List (Pair D)) (steady : Steady disk.faults old mid)
      (armings : Steady disk.armings old mid)
      (unarmed : disk.tells_fuse → AreUnarmed disk.fuse old → AreUnarmed disk.fuse mid) where
    -- one pair is asked, behind others
    pub disks_set : (index : ℕ) (before after : Pair D) → IsNumbered mid (index + 1) before
        → PairAsked disk (index + 1) result before after → DisksAsked disk result old (slice_set mid index after)
    disks_set index before after at asked = record {
      failed = λ r is.
          let failed = asked.failed r is in
          subst (IsAtFault disk.faults old (slice_set mid index after)) (sym failed.0)
          (fault_set disk.faults old mid index before after steady at failed.1);
      spared = λ fault so is. steady_set disk.faults old mid index before after steady at (asked.spared fault so is);
      steady = where_ok result asked.steady (steady_set disk.faults old mid index before after steady at);
      armings = steady_set disk.armings old mid index before after armings at asked.armings;
      unfailing = λ fused.
          unfailing_set disk.fuse result result old mid index before after (unarmed fused) at (asked.unfailing fused)
          (λ r is. is);
    }

    -- all are, behind them
    pub disks_behind : {new : List (Pair D)} → DisksAsked disk result mid new → DisksAsked disk result old new
    disks_behind {new} asked = record {
      failed = λ r is. fault_behind disk.faults old mid new r steady (asked.failed r is);
      spared = λ fault so is. steady_trans disk.faults old mid new steady (asked.spared fault so is);
      steady = where_ok result asked.steady (steady_trans disk.faults old mid new steady);
      armings = steady_trans disk.armings old mid new armings asked.armings;
      unfailing = λ fused.
          unfailing_behind disk.fuse result result old mid new (unarmed fused) (asked.unfailing fused) (λ r is. is);
    }

-- the same where nothing is written
module _ {D : Type 0} {disk : Disk D} where
  pub looked_so : {A : Type 0} {number : ℕ} {result : Result A WorldFault} {old new : Pair D}
      → PairAsked disk number result old new → (disk.tells → PairSame disk.seen old new)
      → PairWithin disk.may_leave old new → PairLeavesOld disk.moment disk.left_since disk.may_leave old new
      → (disk.tells_moments → PairSpans disk.moment disk.left_since old new) → PairLooked disk number result old new
  looked_so asked same within leaves spans = record {
    asked = asked;
    same = same;
    rests = record { within = within; leaves = leaves; spans = spans };
  }

  pub looked_then : {A B : Type 0} {number : ℕ} {given : A} (result : Result B WorldFault) {old new : Pair D}
      → ((r : ℕ) → IsErrOf result (Store r) → ⊥) → PairLooked disk number (Ok given) old new
      → PairLooked disk number result old new
  looked_then result never looked = record {
    asked = record {
      failed = λ r is. absurd (never r is);
      spared = λ fault so is. looked.asked.steady;
      steady = on_ok result looked.asked.steady;
      armings = looked.asked.armings;
      unfailing = λ fused. record {
        unarmed = (looked.asked.unfailing fused).unarmed;
        unfailing = λ none r is. never r is;
      };
    };
    same = looked.same;
    rests = looked.rests;
  }

  pub looked_err : {A B : Type 0} {number : ℕ} (fault : WorldFault) {old new : Pair D}
      → PairLooked {A = A} disk number (Err fault) old new → PairLooked {A = B} disk number (Err fault) old new
  looked_err fault looked = record {
    asked = asked_err fault looked.asked;
    same = looked.same;
    rests = looked.rests;
  }

  pub looks_err : {A B : Type 0} (fault : WorldFault) {old new : List (Pair D)}
      → DisksLooked {A = A} disk (Err fault) old new → DisksLooked {A = B} disk (Err fault) old new
  looks_err fault looked = record {
    asked = disks_err fault looked.asked;
    same = looked.same;
    rests = looked.rests;
  }

  -- one pair is looked at
  pub looked_one : {A : Type 0} {result : Result A WorldFault} (disks : List (Pair D)) (index number : ℕ)
      (before after : Pair D) → index + 1 ≡ number → index < length disks → before ≡ get_or disks index before
      → PairLooked disk number result before after → DisksLooked disk result disks (slice_set disks index after)
  looked_one {result = result} disks index number before after place within is looked = record {
    asked = disks_set disks disks (steady_none disk.faults disks) (steady_none disk.armings disks)
        (λ fused none. none) index before after (number_at disks index before within is)
        (subst (λ n. PairAsked disk n result before after) (sym place) looked.asked);
    same = λ told. steady_one disk.seen disks index before after within is (looked.same told);
    rests = all_rest_one disk disks index before after within is looked.rests;
  }

  -- no disk failed
  pub looks_steady : {A : Type 0} (result : Result A WorldFault) (old new : List (Pair D)) → Steady disk.faults old new
      → Steady disk.armings old new → (disk.tells_fuse → AreUnarmed disk.fuse old → AreUnarmed disk.fuse new)
      → (disk.tells → Steady disk.seen old new) → AllRest disk old new → ((r : ℕ) → IsErrOf result (Store r) → ⊥)
      → DisksLooked disk result old new
  looks_steady result old new steady armings unarmed same rests never = record {
    asked = disks_steady result old new steady armings unarmed never;
    same = same;
    rests = rests;
  }

  -- nothing was asked
  pub looks_none : {A : Type 0} {result : Result A WorldFault} (disks : List (Pair D))
      → ((r : ℕ) → IsErrOf result (Store r) → ⊥) → DisksLooked disk result disks disks
  looks_none {result = result} disks never =
      looks_steady result disks disks (steady_none disk.faults disks) (steady_none disk.armings disks)
      (λ fused none. none) (λ told. steady_none disk.seen disks) (all_rest_none disk disks) never

  -- all are, behind others
  pub looks_behind : {A : Type 0} {result : Result A WorldFault}
      → ((d : D) (t u : ℕ) (c : List ℕ) → t ≤ u → disk.left_since d u c → disk.left_since d t c)
      → (old mid new : List (Pair D)) → Steady disk.faults old mid → Steady disk.armings old mid
      → (disk.tells_fuse → AreUnarmed disk.fuse old → AreUnarmed disk.fuse mid)
      → (disk.tells → Steady disk.seen old mid) → AllRest disk old mid → DisksLooked disk result mid new
      → DisksLooked disk result old new
  looks_behind earlier old mid new steady armings unarmed same rests then = record {
    asked = disks_behind old mid steady armings unarmed then.asked;
    same = λ told. steady_trans disk.seen old mid new (same told) (then.same told);
    rests = all_rest_then disk earlier old mid new rests then.rests;
  }
