-- One member is entered between those that are elsewhere.
use Rattle.std.proofs.Common.{◌≡◌, ◌≢◌, ℕ, ◌+◌, ◌-◌, ◌≤◌, Bool, List, [], ◌∷◌, ◌++◌, length, Result, Ok, Err, refl, sym, ap, subst, inl, inr, ◌⊎◌, arith}
use Rattle.std.specs.Prelude.{IfOk, IsErrOf, OnOk}
use Rattle.std.proofs.lemmas.Bool.{cases_lt}
use Rattle.std.proofs.lemmas.Result.{IfOk-weaker}
use Rattle.std.proofs.lemmas.List.{length_push}
use Rattle.ficus_disk.specs.declared.disk.Disk.{Ghosts as Disk}
use Rattle.ficus_disk.specs.declared.pair.Pair.{Pair}
use Rattle.ficus_durable_state.specs.Saved.{FitsImage}
use Rattle.ficus_durable_state.specs.declared.saved.Saved.{Saved}
use Rattle.ficus_ids.specs.Members.{IsMember}
use Rattle.ficus_keeper.specs.Kept.{found_in}
use Rattle.ficus_keeper.specs.Pairs.{PairSame}
use Rattle.ficus_keeper.specs.declared.keep.Keep.{Ghosts as Keep}
use Rattle.ficus_runs.specs.Numbered.{IsNumbered}
use Rattle.ficus_runs.proofs.Numbers.{number_end, number_exists, number_more, number_once}
use Rattle.ficus_stable_storage.specs.Leads.Holds.{Holds}
use Rattle.ficus_stable_storage.specs.Stable.{IsReady}
use Rattle.ficus_stable_storage.specs.declared.stable.Stable.{Stable}
use Rattle.ficus_opening.specs.Alone.{AreAbsent, AreKept, EntersAbsent, EntersAll, IsAbsent, IsAlone, IsAloneWith, OpensAlone, volume_of}
use Rattle.ficus_opening.specs.Check.Judged.{HoldsNoneOf, IsEmptyPair, IsOwn}
use Rattle.ficus_opening.specs.Disks.{IsPairOf, are_fused}
use Rattle.ficus_opening.specs.Opening.{DisksAsked, DisksLooked, IsStoreFault, opened_member}
use Rattle.ficus_opening.specs.Rests.{PairRests}
use Rattle.ficus_opening.specs.declared.fault.WorldFault.{WorldFault}
use Rattle.ficus_opening.specs.declared.fault.WorldFault.TheVariants.{Image, Memory, Occupied, Store}
use Rattle.ficus_opening.specs.declared.member.Member.{Member}
use Rattle.ficus_opening.specs.declared.opening.Opened.{Opened}
use Rattle.ficus_opening.proofs.Asking.{disks_behind}
use Rattle.ficus_opening.proofs.Entering.{kept_more}
use Rattle.ficus_opening.proofs.Faults.{where_ok}

module _ {K D : Type 0} (keep : Keep K) (disk : Disk D) (me : ℕ) (saved : Saved) (fused : Bool) (stable : Stable K)
    (some : 1 ≤ me) (within : me ≤ saved.members) (none half with_me : Opened K) (old mid : List (Pair D))
    (first : EntersAbsent {A = Unit {0}} keep disk (volume_of saved) 0 (me - 1) (Ok tt) none half old mid)
    (members_are : with_me.members.items ≡ half.members.items ++ opened_member saved fused ∷ [])
    (stables_are : with_me.stables.items ≡ half.stables.items ++ stable ∷ []) where
  -- as many as its number
  pub counted : length with_me.members.items ≡ me
  counted =
      let grown = ap (λ (l : List Member). length l) members_are in
      let entered = length_push half.members.items (opened_member saved fused) in
      omega (arith, grown, entered, first.members.count, some)

  place : length half.members.items + 1 ≡ me
  place = omega (arith, first.members.count, some)

  -- its own pair stays
  pub own_stays : (pair : Pair D) → IsNumbered old me pair → IsNumbered mid me pair
  own_stays pair at = first.others me pair (inr (omega (arith, some))) at

  pub kept_with : (pair : Pair D) → IsNumbered old me pair → fused ≡ are_fused disk.armings pair
      → (disk.tells → IsReady keep.kept keep.fits disk.seen disk.may_leave stable pair saved)
      → AreKept keep disk with_me mid
  kept_with pair at is_fused ready =
      kept_more keep disk mid mid (opened_member saved fused) stable half with_me first.kept members_are stables_are
      (λ r other most at_other. at_other)
      (λ other at_other.
      let same = number_once (own_stays pair at) (subst (λ n. IsNumbered mid n other) place at_other) in
      subst (λ (p : Pair D). IsPairOf keep disk (opened_member saved fused) stable p) same
      (record { fused = is_fused; holds = ready }))

  here : IsNumbered with_me.members.items me (opened_member saved fused)
  here =
      subst (λ n. IsNumbered with_me.members.items n (opened_member saved fused)) place
      (subst (λ (l : List Member). IsNumbered l (length half.members.items + 1) (opened_member saved fused))
      (sym members_are) (number_end half.members.items (opened_member saved fused)))

  before : (r : ℕ) (member : Member) → IsNumbered half.members.items r member
      → IsNumbered with_me.members.items r member
  before r member at =
      subst (λ (l : List Member). IsNumbered l r member) (sym members_are)
      (number_more half.members.items (opened_member saved fused) at)

  module _ {A : Type 0} (result : Result A WorldFault) (all : Opened K) (new : List (Pair D))
      (then : EntersAbsent keep disk (volume_of saved) me saved.members result with_me all mid new) where
    pub alone_with : AreAbsent (volume_of saved) me saved.members with_me.members.items all.members.items
        → IsAloneWith me saved all.members.items
    alone_with more = record {
      fused = fused;
      count = more.count;
      is = more.stays me (opened_member saved fused) here;
      absent = λ r member differs at. elim (cases_lt me r) [
        | inl above ↦ more.each r member above at
        | inr below ↦
            let found = number_exists half.members.items r (record {
              at_least = at.member.at_least;
              at_most = omega (arith, below, differs, first.members.count);
            }) in
            subst (λ (m : Member). IsAbsent (volume_of saved) r m)
            (number_once (more.stays r found.0 (before r found.0 found.1)) at)
            (first.members.each r found.0 (omega (arith, at.member.at_least)) found.1)
      ];
    }

    pub empty_all : disk.tells → OnOk result ((r : ℕ) (pair : Pair D) → r ≢ me → r ≤ saved.members
        → IsNumbered old r pair → IsEmptyPair disk.seen pair)
    empty_all told = where_ok result (then.empty told) (λ rest r pair differs most at. elim (cases_lt me r) [
      | inl above ↦ rest r pair above most (first.others r pair (inr (omega (arith, above))) at)
      | inr below ↦
          first.empty told r pair (omega (arith, at.member.at_least)) (omega (arith, below, differs)) at
    ])

    pub occupied_then : disk.tells → (q : ℕ) → IsErrOf result (Occupied q) → (q ≢ me) × IsMember saved.members q
        × ((pair : Pair D) → IsNumbered old q pair → IsEmptyPair disk.seen pair → ⊥)
    occupied_then told q is =
        let found = then.occupied told q is in (
          λ same. omega (arith, found.0, same),
          record { at_least = omega (arith, found.0, some); at_most = found.1 },
          λ pair at. found.2 pair (first.others q pair (inr (omega (arith, found.0))) at),
        )

    pub own_still : (pair : Pair D) → IsNumbered old me pair → IsNumbered new me pair
    own_still pair at = then.others me pair (inl (omega arith)) (own_stays pair at)

    pub asked_all : DisksAsked disk result old new
    asked_all =
        disks_behind old mid first.asked.steady first.asked.armings (λ fused. (first.asked.unfailing fused).unarmed)
        then.asked

-- a fault is told
pub unentered : {K D : Type 0} {keep : Keep K} {disk : Disk D} {me : ℕ} {saved : Saved} {fault : WorldFault}
    {old new : List (Pair D)}
    → (disk.tells → (q : ℕ) → IsErrOf {T = Opened K} (Err fault) (Occupied q) → (q ≢ me) × IsMember saved.members q
    × ((pair : Pair D) → IsNumbered old q pair → IsEmptyPair disk.seen pair → ⊥))
    → (disk.tells → (q : ℕ) → IsErrOf {T = Opened K} (Err fault) (Image q) → ⊥)
    → ((pair : Pair D) → IsNumbered old me pair → IsNumbered new me pair)
    → DisksAsked {A = Opened K} disk (Err fault) old new → EntersAll keep disk me saved (Err fault) old new
unentered occupied never own asked = record {
  alone = tt;
  kept = tt;
  empty = λ told. tt;
  occupied = occupied;
  never = never;
  own = own;
  asked = asked;
}

pub unopened_alone : {K D : Type 0} {keep : Keep K} {disk : Disk D} {me : ℕ} {fault : WorldFault}
    {old new : List (Pair D)}
    → (disk.tells → (r : ℕ) → IsErrOf {T = Opened K} (Err fault) (Image r)
    → (r ≡ me) × ((pair : Pair D) → IsNumbered old me pair → HoldsNoneOf keep.kept disk.seen me pair))
    → (disk.tells → (fault ≡ Image me) ⊎ IsStoreFault fault)
    → ((q : ℕ) → IsErrOf {T = Opened K} (Err fault) (Occupied q) → ⊥)
    → DisksLooked {A = Opened K} disk (Err fault) old new → OpensAlone keep disk me (Err fault) old new
unopened_alone {me = me} image comes never looked = record {
  alone = tt;
  kept = tt;
  read = λ told. tt;
  image = image;
  image_comes = λ told none. comes told;
  empty = λ told. tt;
  occupied = λ told q is. absurd (never q is);
  rests = λ was now at at_now. looked.rests.each me was now at at_now;
  same = λ told was now at at_now. (looked.same told).each me was now at at_now;
  asked = looked.asked;
}

-- what opening a member's disks may come to
pub own_fault : (fault : WorldFault) (me : ℕ) → ((q : ℕ) → fault ≡ Occupied q → ⊥)
    → ((r : ℕ) → fault ≡ Image r → r ≡ me) → (fault ≡ Image me) ⊎ IsStoreFault fault
own_fault (Store q) me never image = inr tt
own_fault Memory me never image = inr tt
own_fault (Occupied q) me never image = absurd (never q refl)
own_fault (Image r) me never image = inl (ap (λ k. Image k) (image r refl))

-- the member's own disks were opened, and then all others were entered
module _ {K D : Type 0} (keep : Keep K) (disk : Disk D) (me : ℕ) (saved : Saved) (fits : FitsImage saved)
    (own : IsOwn saved me) (old mid new : List (Pair D)) (pair : Pair D) (at : IsNumbered old me pair)
    (holds : disk.tells → Holds (found_in keep.kept disk.seen pair) saved) where
  empty_before : (result : Result (Opened K) WorldFault)
      → ((r : ℕ) (other : Pair D) → r ≢ me → IsNumbered old r other → IsNumbered mid r other)
      → IfOk result (λ opened. IsAloneWith me saved opened.members.items)
      → OnOk result ((r : ℕ) (other : Pair D) → r ≢ me → r ≤ saved.members → IsNumbered mid r other
      → IsEmptyPair disk.seen other)
      → IfOk result (λ opened. (r : ℕ) (other : Pair D) → r ≢ me → r ≤ length opened.members.items
      → IsNumbered old r other → IsEmptyPair disk.seen other)
  empty_before (Ok opened) others alone empty = λ r other differs most at_other.
      empty r other differs (omega (arith, most, alone.count)) (others r other differs at_other)
  empty_before (Err fault) others alone empty = tt

  pub opens_alone : {A : Type 0} {given : A} (result : Result (Opened K) WorldFault)
      → DisksLooked disk (Ok given) old mid
      → ((r : ℕ) (other : Pair D) → r ≢ me → IsNumbered old r other → IsNumbered mid r other)
      → EntersAll keep disk me saved result mid new → OpensAlone keep disk me result old new
  opens_alone result looked others entered = record {
    alone = IfOk-weaker result (λ opened. IsAloneWith me saved opened.members.items)
        (λ opened. IsAlone me opened.members.items)
        (λ opened among. record { saved = saved; fits = fits; own = own; among = among }) entered.alone;
    kept = entered.kept;
    read = λ told. IfOk-weaker result (λ opened. IsAloneWith me saved opened.members.items)
        (λ opened. (member : Member) (other : Pair D) → IsNumbered opened.members.items me member
        → IsNumbered old me other → Holds (found_in keep.kept disk.seen other) member.replica.saved)
        (λ opened among member other at_member at_other.
        subst (λ (m : Member). Holds (found_in keep.kept disk.seen other) m.replica.saved)
        (number_once among.is at_member)
        (subst (λ (p : Pair D). Holds (found_in keep.kept disk.seen p) saved) (number_once at at_other) (holds told)))
        entered.alone;
    image = λ told r is. absurd (entered.never told r is);
    image_comes = λ told none. absurd (none pair at saved fits (holds told) own);
    empty = λ told. empty_before result others entered.alone (entered.empty told);
    occupied = λ told q is.
        let found = entered.occupied told q is in
        let member : IsMember 8 q = record {
          at_least = found.1.at_least;
          at_most = omega (arith, found.1.at_most, fits.members.at_most);
        } in
        (found.0, member, λ other at_other none. found.2 other (others q other found.0 at_other) none);
    rests = λ was now at_was at_now.
        let then = number_exists mid me (subst (λ n. IsMember n me) (sym looked.rests.count) at_was.member) in
        subst (λ (p : Pair D). PairRests disk was p) (number_once (entered.own then.0 then.1) at_now)
        (looked.rests.each me was then.0 at_was then.1);
    same = λ told was now at_was at_now.
        let then = number_exists mid me (subst (λ n. IsMember n me) (sym looked.rests.count) at_was.member) in
        subst (λ (p : Pair D). PairSame disk.seen was p) (number_once (entered.own then.0 then.1) at_now)
        ((looked.same told).each me was then.0 at_was then.1);
    asked = disks_behind old mid looked.asked.steady looked.asked.armings
        (λ fused. (looked.asked.unfailing fused).unarmed) entered.asked;
  }
