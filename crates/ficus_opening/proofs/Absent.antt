-- Members that are elsewhere are entered, one after the other.
use Rattle.std.proofs.Common.{◌≡◌, ◌≢◌, ℕ, ◌+◌, ◌<◌, ◌≤◌, List, [], ◌∷◌, ◌++◌, length, None, Result, Ok, Err, sym, ap, ap₂, subst, ◌∙◌, inl, inr, ◌⊎◌, arith}
use Rattle.std.specs.Prelude.{slice_set, IsErrOf, OnOk}
use Rattle.std.proofs.lemmas.Bool.{cases_lt}
use Rattle.std.proofs.lemmas.List.{length_push}
use Rattle.ficus_disk.specs.declared.disk.Disk.{Ghosts as Disk}
use Rattle.ficus_disk.specs.declared.pair.Pair.{Pair}
use Rattle.ficus_keeper.specs.declared.keep.Keep.{Ghosts as Keep}
use Rattle.ficus_model.specs.Lawful.{Volume}
use Rattle.ficus_runs.specs.Numbered.{IsNumbered}
use Rattle.ficus_runs.proofs.Numbers.{number_cases, number_exists, number_more, number_once}
use Rattle.ficus_durable_state.specs.declared.saved.Saved.{Saved}
use Rattle.ficus_stable_storage.proofs.leads.Led.{held_at}
use Rattle.ficus_stable_storage.specs.Stable.{IsReady}
use Rattle.ficus_stable_storage.specs.declared.stable.Stable.{Stable}
use Rattle.ficus_opening.specs.Alone.{AreAbsent, AreKept, EntersAbsent, IsAbsent}
use Rattle.ficus_opening.specs.Check.Judged.{IsEmptyPair}
use Rattle.ficus_opening.specs.Disks.{HoldsFor}
use Rattle.ficus_opening.specs.Opening.{PairAsked}
use Rattle.ficus_opening.specs.declared.fault.WorldFault.{WorldFault}
use Rattle.ficus_opening.specs.declared.fault.WorldFault.TheVariants.{Image, Occupied}
use Rattle.ficus_opening.specs.declared.member.Member.{Member}
use Rattle.ficus_opening.specs.declared.member.MemberState.TheVariants.{Down}
use Rattle.ficus_opening.specs.declared.opening.Opened.{Opened}
use Rattle.ficus_opening.proofs.Asking.{disks_behind, disks_err, disks_set, disks_steady, err_as}
use Rattle.ficus_opening.proofs.Entering.{set_other}
use Rattle.ficus_opening.proofs.Faults.{where_ok}
use Rattle.ficus_opening.proofs.Steadies.{steady_none}

-- whatever a crash leaves of a pair that is ready holds the same
pub holds_away : {K D : Type 0} (keep : Keep K) (disk : Disk D) (stable : Stable K) (pair : Pair D) (saved : Saved)
    → IsReady keep.kept keep.fits disk.seen disk.may_leave stable pair saved
    → HoldsFor keep disk stable pair saved (Down None)
holds_away keep disk stable pair saved ready = record {
  each = λ a b left_a left_b. inl (held_at _ _ saved
      (ap₂ keep.kept (ready.settled.synced_a a left_a) (ready.settled.synced_b b left_b)) ready.holds);
}

-- one is entered behind the others
pub absent_more : (volume : Volume) (before : ℕ) (old new : List Member) (member : Member) → before ≡ length old
    → new ≡ old ++ member ∷ [] → IsAbsent volume (before + 1) member → AreAbsent volume before (before + 1) old new
absent_more volume before old new member is new_is absent = record {
  count = ap (λ (l : List Member). length l) new_is ∙ length_push old member ∙ ap (λ n. n + 1) (sym is);
  stays = λ r other at. subst (λ (l : List Member). IsNumbered l r other) (sym new_is) (number_more old member at);
  each = λ r other behind at.
      elim (number_cases old member (subst (λ (l : List Member). IsNumbered l r other) new_is at)) [
        | inl here ↦ absurd (omega (arith, here.member.at_most, behind, is))
        | inr last ↦
            let place : before + 1 ≡ r = omega (arith, last.0, is) in
            subst (λ (m : Member). IsAbsent volume r m) (sym last.1)
            (subst (λ n. IsAbsent volume n member) place absent)
      ];
}

module _ {K D : Type 0} (keep : Keep K) (disk : Disk D) (volume : Volume) where
  -- none is
  pub enters_none : {A : Type 0} (given : A) (before : ℕ) (was : Opened K) (disks : List (Pair D))
      → before ≡ length was.members.items → AreKept keep disk was disks
      → EntersAbsent keep disk volume before before (Ok given) was was disks disks
  enters_none given before was disks is kept = record {
    members = record {
      count = sym is;
      stays = λ r member at. at;
      each = λ r member behind at. absurd (omega (arith, behind, at.member.at_most, is));
    };
    kept = kept;
    empty = λ told r pair behind most at. absurd (omega (arith, behind, most));
    occupied = λ told q is. absurd (cc);
    never = λ told q is. absurd (cc);
    others = λ r pair beside at. at;
    asked = disks_steady (Ok given) disks disks (steady_none disk.faults disks) (steady_none disk.armings disks)
        (λ fused none. none) (λ r is. absurd (cc));
  }

  -- of all pairs that of the next member is touched alone
  module _ {A : Type 0} {result : Result A WorldFault} (before : ℕ) (was now : Opened K) (disks : List (Pair D))
      (pair after : Pair D) (at : IsNumbered disks (before + 1) pair) where
    pub enters_next : OnOk result (AreAbsent volume before (before + 1) was.members.items now.members.items)
        → OnOk result (AreKept keep disk now (slice_set disks before after))
        → (disk.tells → OnOk result (IsEmptyPair disk.seen pair))
        → (disk.tells → (q : ℕ) → IsErrOf result (Occupied q) → (q ≡ before + 1) × (IsEmptyPair disk.seen pair → ⊥))
        → (disk.tells → (q : ℕ) → IsErrOf result (Image q) → ⊥) → PairAsked disk (before + 1) result pair after
        → EntersAbsent keep disk volume before (before + 1) result was now disks (slice_set disks before after)
    enters_next members kept empty occupied never asked = record {
      members = members;
      kept = kept;
      empty = λ told. where_ok result (empty told) (λ is r other behind most at_other.
          let place : before + 1 ≡ r = omega (arith, behind, most) in
          subst (λ (p : Pair D). IsEmptyPair disk.seen p)
          (number_once (subst (λ n. IsNumbered disks n pair) place at) at_other) is);
      occupied = λ told q is.
          let found = occupied told q is in (
            omega (arith, found.0),
            omega (arith, found.0),
            λ other at_other none.
                found.1 (subst (λ (p : Pair D). IsEmptyPair disk.seen p)
                (number_once (subst (λ n. IsNumbered disks n other) found.0 at_other) at) none),
          );
      never = never;
      others = λ r other beside at_other. set_other disks before r after other (differs r beside) at_other;
      asked = disks_set disks disks (steady_none disk.faults disks) (steady_none disk.armings disks)
          (λ fused none. none) before pair after at asked;
    }
      where
        differs : (r : ℕ) → (r ≤ before) ⊎ (before + 1 < r) → before + 1 ≢ r
        differs r (inl below) same = omega (arith, below, same)
        differs r (inr above) same = omega (arith, above, same)

  -- it ended with a fault, which is handed on
  pub enters_failed : {A B : Type 0} (fault : WorldFault) (before mid to : ℕ) {was now : Opened K} {old new : List (Pair D)}
      → mid ≤ to → EntersAbsent {A = A} keep disk volume before mid (Err fault) was now old new
      → EntersAbsent {A = B} keep disk volume before to (Err fault) was now old new
  enters_failed fault before mid to most entered = record {
    members = tt;
    kept = tt;
    empty = λ told. tt;
    occupied = λ told q is.
        let found = entered.occupied told q (err_as fault (Occupied q) is) in
        (found.0, omega (arith, found.1, most), found.2);
    never = λ told q is. entered.never told q (err_as fault (Image q) is);
    others = λ r pair beside at. entered.others r pair (narrower r beside) at;
    asked = disks_err fault entered.asked;
  }
    where
      narrower : (r : ℕ) → (r ≤ before) ⊎ (to < r) → (r ≤ before) ⊎ (mid < r)
      narrower r (inl below) = inl below
      narrower r (inr above) = inr (omega (arith, above, most))

  -- some are, behind those that were
  module _ {A B : Type 0} {given : A} (result : Result B WorldFault) (before mid to : ℕ) (was half now : Opened K)
      (old middle new : List (Pair D)) (since : before ≤ mid) (most : mid ≤ to)
      (first : EntersAbsent keep disk volume before mid (Ok given) was half old middle)
      (then : EntersAbsent keep disk volume mid to result half now middle new) where
    absent_then : AreAbsent volume mid to half.members.items now.members.items
        → AreAbsent volume before to was.members.items now.members.items
    absent_then more = record {
      count = more.count;
      stays = λ r member at. more.stays r member (first.members.stays r member at);
      each = λ r member behind at. elim (cases_lt mid r) [
        | inl above ↦ more.each r member above at
        | inr below ↦
            let here = number_exists half.members.items r (record {
              at_least = at.member.at_least;
              at_most = omega (arith, below, first.members.count);
            }) in
            subst (λ (m : Member). IsAbsent volume r m) (number_once (more.stays r here.0 here.1) at)
            (first.members.each r here.0 behind here.1)
      ];
    }

    beside_first : (r : ℕ) → (r ≤ before) ⊎ (to < r) → (r ≤ before) ⊎ (mid < r)
    beside_first r (inl below) = inl below
    beside_first r (inr above) = inr (omega (arith, above, most))

    beside_then : (r : ℕ) → (r ≤ before) ⊎ (to < r) → (r ≤ mid) ⊎ (to < r)
    beside_then r (inl below) = inl (omega (arith, below, since))
    beside_then r (inr above) = inr above

    pub enters_then : EntersAbsent keep disk volume before to result was now old new
    enters_then = record {
      members = where_ok result then.members absent_then;
      kept = then.kept;
      empty = λ told. where_ok result (then.empty told) (λ rest r pair behind within at. elim (cases_lt mid r) [
        | inl above ↦ rest r pair above within (first.others r pair (inr above) at)
        | inr below ↦ first.empty told r pair behind (omega (arith, below)) at
      ]);
      occupied = λ told q is.
          let found = then.occupied told q is in (
            omega (arith, found.0, since),
            found.1,
            λ pair at. found.2 pair (first.others q pair (inr found.0) at),
          );
      never = then.never;
      others = λ r pair beside at. then.others r pair (beside_then r beside) (first.others r pair (beside_first r beside) at);
      asked = disks_behind old middle first.asked.steady first.asked.armings
          (λ fused. (first.asked.unfailing fused).unarmed) then.asked;
    }
