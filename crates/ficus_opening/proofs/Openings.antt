-- The disks of one member after the other are opened.
use Rattle.std.proofs.Common.{◌≡◌, ℕ, ◌+◌, ◌<◌, ◌≤◌, Bool, false, List, [], ◌∷◌, ◌++◌, length, Option, Err, refl, sym, ap, ap₂, subst, ◌∙◌, inl, inr, ◌⊎◌, arith}
use Rattle.std.specs.Prelude.{◌↔◌, slice_set, IsTrue}
use Rattle.std.proofs.lemmas.Bool.{cases_lt}
use Rattle.std.proofs.lemmas.List.{length_push}
use Rattle.ficus_opening.specs.Check.Judged.{HoldsNoneOf, IsOfVolume, IsOwn, IsSound, MayOpen}
use Rattle.ficus_opening.specs.declared.check.checked.Checked.{Checked}
use Rattle.ficus_opening.proofs.check.Owning.{is_false}
use Rattle.ficus_disk.specs.declared.disk.Disk.{Ghosts as Disk}
use Rattle.ficus_disk.specs.declared.pair.Pair.{Pair}
use Rattle.ficus_ids.specs.Members.{IsMember}
use Rattle.ficus_keeper.specs.declared.keep.Keep.{Ghosts as Keep}
use Rattle.ficus_keeper.specs.Kept.{Kept, found_in}
use Rattle.ficus_durable_state.specs.Saved.{FitsImage}
use Rattle.ficus_durable_state.specs.declared.saved.Saved.{Saved}
use Rattle.ficus_stable_storage.specs.Leads.Holds.{Holds, OneHeld}
use Rattle.ficus_stable_storage.proofs.leads.Led.{held_at}
use Rattle.ficus_stable_storage.specs.Stable.{IsReady}
use Rattle.ficus_stable_storage.specs.declared.stable.Stable.{Stable}
use Rattle.ficus_runs.specs.Numbered.{IsNumbered}
use Rattle.ficus_opening.specs.Disks.{AreDisksOf, ArePairsOf, HoldsFor, are_fused}
use Rattle.ficus_opening.specs.Calls.{AreOpenedOn, OpensMembers, OpensNext}
use Rattle.ficus_opening.specs.Opening.{AreOpened, DisksLooked, IsBad, IsFirstBad, IsOneMore, IsOpened, Opens, Steady, opened_member}
use Rattle.ficus_opening.specs.declared.fault.WorldFault.{WorldFault}
use Rattle.ficus_opening.specs.declared.fault.WorldFault.TheVariants.{Image, Occupied, Store}
use Rattle.ficus_opening.specs.declared.member.Member.{Member}
use Rattle.ficus_opening.specs.declared.member.MemberState.{MemberState}
use Rattle.ficus_opening.specs.declared.opening.Opened.{Opened}
use Rattle.ficus_runs.proofs.Numbers.{number_once, number_exists, number_more, number_cases}
use Rattle.ficus_opening.proofs.Asking.{err_as}
use Rattle.ficus_opening.proofs.Entering.{kept_next}
use Rattle.ficus_opening.proofs.Steadies.{steady_back}

nothing_before : (members : List Member) → 1 ≡ length members + 1 → members ≡ []
nothing_before [] one = refl
nothing_before (member ∷ members) one = absurd (omega (arith, one))

-- one member more is up, behind those that are
module _ (members : List Member) (saved : Saved) (fused : Bool) (number : ℕ) (next : number ≡ length members + 1)
    (opened : AreOpened members) (fits : FitsImage saved) (own : IsOwn saved number)
    (behind : (first : Member) → IsNumbered members 1 first → IsOfVolume first.replica.saved saved) where
  abbrev new : List Member
  new = members ++ opened_member saved fused ∷ []

  made : (first : Saved) → IsOfVolume first saved → IsOpened first number (opened_member saved fused)
  made first same = record { up = refl; asks = refl; parts = refl; fits = fits; may = record { own = own; same = same } }

  each : (r : ℕ) (first member : Member)
      → IsNumbered members 1 first ⊎ ((1 ≡ length members + 1) × (first ≡ opened_member saved fused))
      → IsNumbered members r member ⊎ ((r ≡ length members + 1) × (member ≡ opened_member saved fused))
      → IsOpened first.replica.saved r member
  each r first member (inl one) (inl here) = opened.each r first member one here
  each r first member (inr one) (inl here) =
      absurd (omega (arith, one.0, here.member.at_least, here.member.at_most))
  each r first member (inl one) (inr last) =
      subst (λ k. IsOpened first.replica.saved k member) (next ∙ sym last.0)
      (subst (IsOpened first.replica.saved number) (sym last.1) (made first.replica.saved (behind first one)))
  each r first member (inr one) (inr last) =
      subst (λ k. IsOpened first.replica.saved k member) (next ∙ sym last.0)
      (subst (IsOpened first.replica.saved number) (sym last.1)
      (subst (λ (m : Member). IsOpened m.replica.saved number (opened_member saved fused)) (sym one.1)
      (made saved (record { members = refl; ids = refl; bytes = refl }))))

  pub opened_more : AreOpened new
  opened_more = record {
    each = λ r first member one at.
        each r first member (number_cases members (opened_member saved fused) one)
        (number_cases members (opened_member saved fused) at);
  }

pub one_more : (members : List Member) (next : Member) → IsOneMore members (members ++ next ∷ [])
one_more members next = record { count = length_push members next; stays = λ r member at. number_more members next at }

module _ {K D : Type 0} (keep : Keep K) (disk : Disk D) where
  -- none was opened yet
  pub opened_none : (opened : Opened K) (disks : List (Pair D)) → opened.members.items ≡ [] → opened.stables.items ≡ []
      → AreOpenedOn keep disk opened disks
  opened_none opened disks none no_keeper =
      let empty = ap (λ (l : List Member). length l) none in
      record {
        opened = record {
          each = λ r first member one at. absurd (omega (arith, at.member.at_least, at.member.at_most, empty));
        };
        stables = ap (λ (l : List (Stable K)). length l) no_keeper ∙ sym empty;
        disks = record {
          each = λ r member stable pair at at_stable at_pair.
              absurd (omega (arith, at.member.at_least, at.member.at_most, empty));
        };
      }

  -- one member more was
  module _ (was now : Opened K) (disks : List (Pair D)) (index : ℕ) (saved : Saved) (fused : Bool) (stable : Stable K)
      (after : Pair D) (before : AreOpenedOn keep disk was disks) (next : index ≡ length was.members.items)
      (members_are : now.members.items ≡ was.members.items ++ opened_member saved fused ∷ [])
      (stables_are : now.stables.items ≡ was.stables.items ++ stable ∷ [])
      (is_fused : fused ≡ are_fused disk.armings after)
      (ready : disk.tells → IsReady keep.kept keep.fits disk.seen disk.may_leave stable after saved) where
    pub more_opened : AreOpened now.members.items → AreOpenedOn keep disk now (slice_set disks index after)
    more_opened opened =
        let kept =
        kept_next keep disk was now disks index (opened_member saved fused) stable after next
        (record { stables = before.stables; disks = before.disks }) members_are stables_are
        (record { fused = is_fused; holds = ready }) in
        record { opened = opened; stables = kept.stables; disks = kept.disks }

  -- the pair of each member is its own where it has a keeper
  pub pairs_of : (members : List Member) (stables : List (Stable K)) (disks : List (Pair D))
      → length stables ≡ length members → AreDisksOf keep disk members stables disks → ArePairsOf keep disk members disks
  pairs_of members stables disks counted are = record {
    each = λ r member pair at at_pair.
        let stable = number_exists stables r (subst (λ n. IsMember n r) (sym counted) at.member) in
        (stable.0, are.each r member stable.0 pair at stable.1 at_pair);
  }

  pub opened_pairs : (opened : Opened K) (disks : List (Pair D)) → AreOpenedOn keep disk opened disks
      → ArePairsOf keep disk opened.members.items disks
  opened_pairs opened disks on = pairs_of opened.members.items opened.stables.items disks on.stables on.disks

  -- what the disks of a member hold that was opened
  pub held_of : (opened : Opened K) (disks : List (Pair D)) → AreOpenedOn keep disk opened disks → disk.tells → (r : ℕ)
      (member : Member) (pair : Pair D) → IsNumbered opened.members.items r member → IsNumbered disks r pair
      → Holds (found_in keep.kept disk.seen pair) member.replica.saved
  held_of opened disks on told r member pair at at_pair =
      let first =
      number_exists opened.members.items 1
      (record { at_least = omega arith; at_most = omega (arith, at.member.at_least, at.member.at_most) }) in
      let own = (opened_pairs opened disks on).each r member pair at at_pair in
      let up = (on.opened.each r first.0 member first.1 at).up in
      (subst (λ (s : MemberState). HoldsFor keep disk own.0 pair member.replica.saved s) up (own.1.holds told)).holds

-- The disks of this member are the next to be opened: it is a member, and those of none before it are bad; so its own
-- are the first that are, where what is read now is.
pub record IsNextOf {D : Type 0} (kept : List ℕ → List ℕ → Option Kept) (seen : D → List ℕ) (old now : List (Pair D))
    (number : ℕ) : Type 0 where
  pub named : (first : Saved) → Opens kept seen old first first 1 → number ≤ first.members
  pub earlier : (r : ℕ) → IsFirstBad kept seen old r → number ≤ r
  pub bad : IsBad kept seen now number → IsFirstBad kept seen old number

module _ {D : Type 0} (kept : List ℕ → List ℕ → Option Kept) (seen : D → List ℕ) where
  -- what holds in what is read holds while that stays
  pub opens_same : (one two : List (Pair D)) (first saved : Saved) (r : ℕ) → Steady seen one two
      → Opens kept seen one first saved r → Opens kept seen two first saved r
  opens_same one two first saved r steady opens =
      let now = number_exists two r (subst (λ n. IsMember n r) (sym steady.count) opens.is.member) in
      let same = steady.each r opens.pair now.0 opens.is now.1 in
      record {
        pair = now.0;
        is = now.1;
        fits = opens.fits;
        holds = held_at _ _ saved (ap₂ kept same.a same.b) opens.holds;
        may = opens.may;
      }

  pub bad_same : (one two : List (Pair D)) (r : ℕ) → Steady seen one two → IsBad kept seen two r → IsBad kept seen one r
  bad_same one two r steady bad = λ first saved opens_first opens.
      bad first saved (opens_same one two first first 1 steady opens_first)
      (opens_same one two first saved r steady opens)

  -- of disks that hold nothing of their member's own no world is opened
  pub none_held : (disks : List (Pair D)) (number : ℕ) (before : Pair D) → IsNumbered disks number before
      → HoldsNoneOf kept seen number before → IsBad kept seen disks number
  none_held disks number before at none = λ first saved opens_first opens.
      none saved opens.fits
      (subst (λ (p : Pair D). Holds (found_in kept seen p) saved) (number_once opens.is at) opens.holds) opens.may.own

  -- disks that are sound, and with which no world is opened, are of another volume than the first member's
  pub sound_bad : (disks : List (Pair D)) (first : Saved) (r : ℕ) (pair : Pair D) (told : Checked)
      → Opens kept seen disks first first 1 → IsNumbered disks r pair → IsSound kept seen r pair told
      → IsBad kept seen disks r → (saved : Saved) × Holds (found_in kept seen pair) saved × (IsOfVolume first saved → ⊥)
  sound_bad disks first r pair told opens at sound bad = (
    sound.saved,
    sound.holds,
    λ same. bad first sound.saved opens (record {
      pair = pair;
      is = at;
      fits = sound.fits;
      holds = sound.holds;
      may = record { own = sound.own; same = same };
    }),
  )

  -- the disks of members that were opened hold what these save
  module _ (members : List Member) (disks : List (Pair D)) (opened : AreOpened members)
      (held : (r : ℕ) (member : Member) (pair : Pair D) → IsNumbered members r member → IsNumbered disks r pair
      → Holds (found_in kept seen pair) member.replica.saved) where
    pub opens_of : (r : ℕ) (first member : Member) → IsNumbered members 1 first → IsNumbered members r member
        → r ≤ length disks → Opens kept seen disks first.replica.saved member.replica.saved r
    opens_of r first member one at within =
        let pair = number_exists disks r (record { at_least = at.member.at_least; at_most = within }) in
        let so = opened.each r first member one at in
        record { pair = pair.0; is = pair.1; fits = so.fits; holds = held r member pair.0 at pair.1; may = so.may }

    -- what the first disks hold is what the first member saves
    pub first_is : OneHeld → (first : Saved) (member : Member) → IsNumbered members 1 member
        → Opens kept seen disks first first 1 → first ≡ member.replica.saved
    first_is held_once first member one opens =
        held_once (found_in kept seen opens.pair) first member.replica.saved opens.holds
        (held 1 member opens.pair one opens.is)

    -- with what was read no world is opened
    module _ (held_once : OneHeld) (number : ℕ) (before : Pair D) (read : Saved) (at : IsNumbered disks number before)
        (holds : Holds (found_in kept seen before) read)
        (next : number ≡ length members + 1) (answer : Bool) (refused : answer ≡ false)
        (alone : members ≡ [] → IsTrue answer)
        (behind : (first : Member) → IsNumbered members 1 first
        → IsTrue answer ↔ IsOfVolume first.replica.saved read) where
      read_is : (first saved : Saved) → Opens kept seen disks first saved number → saved ≡ read
      read_is first saved opens =
          held_once (found_in kept seen before) saved read
          (subst (λ (p : Pair D). Holds (found_in kept seen p) saved) (number_once opens.is at) opens.holds) holds

      pub none_may : IsBad kept seen disks number
      none_may first saved opens_first opens = elim (cases_lt 0 (length members)) [
        | inl some ↦
            let one = number_exists members 1 (record { at_least = omega arith; at_most = omega (arith, some) }) in
            let may =
            subst (λ (f : Saved). MayOpen f saved number) (first_is held_once first one.0 one.1 opens_first) opens.may in
            is_false answer _ refused (behind one.0 one.1)
            (subst (λ (s : Saved). MayOpen one.0.replica.saved s number) (read_is first saved opens) may).same
        | inr none ↦ let so = alone (nothing_before members (omega (arith, none))) in absurd (cc)
      ]

  -- the first disks are those of no world
  first_bad_one : (disks : List (Pair D)) → IsBad kept seen disks 1 → IsFirstBad kept seen disks 1
  first_bad_one disks bad = record {
    some = omega arith;
    member = λ first opens. absurd (bad first first opens opens);
    bad = bad;
    before = λ q one below. absurd (omega (arith, one, below));
  }

  -- it is a member
  pub one_next : (disks : List (Pair D)) → IsNextOf kept seen disks disks 1
  one_next disks = record {
    named = λ first opens. omega (arith, opens.fits.members.at_least);
    earlier = λ r bad. bad.some;
    bad = first_bad_one disks;
  }

  -- so is the next one behind those that were opened, and none of them is bad
  module _ (held_once : OneHeld) (old now : List (Pair D)) (members : List Member) (before count : ℕ)
      (steady : Steady seen old now) (opened : AreOpened members)
      (held : (r : ℕ) (member : Member) (pair : Pair D) → IsNumbered members r member → IsNumbered now r pair
      → Holds (found_in kept seen pair) member.replica.saved)
      (counted : length members ≡ before) (some : 1 ≤ before) (below : before < count) (within : before ≤ length now)
      (says : (first : Member) → IsNumbered members 1 first → first.replica.saved.members ≡ count) where
    one_of : (one : Member) × IsNumbered members 1 one
    one_of = number_exists members 1 (record { at_least = omega arith; at_most = omega (arith, some, counted) })

    one_opens : (r : ℕ) → 1 ≤ r → r ≤ before
        → (saved : Saved) × Opens kept seen old one_of.0.replica.saved one_of.0.replica.saved 1
        × Opens kept seen old one_of.0.replica.saved saved r
    one_opens r least most =
        let one = one_of in
        let at = number_exists members r (record { at_least = least; at_most = omega (arith, most, counted) }) in
        let back = steady_back seen old now steady in (
          at.0.replica.saved,
          opens_same now old one.0.replica.saved one.0.replica.saved 1 back
              (opens_of members now opened held 1 one.0 one.0 one.1 one.1 (omega (arith, some, within))),
          opens_same now old one.0.replica.saved at.0.replica.saved r back
              (opens_of members now opened held r one.0 at.0 one.1 at.1 (omega (arith, most, within))),
        )

    is_named : (first : Saved) → Opens kept seen old first first 1 → before + 1 ≤ first.members
    is_named first opens =
        let one = one_of in
        let says_one = says one.0 one.1 in
        let is =
        first_is members now opened held held_once first one.0 one.1 (opens_same old now first first 1 steady opens) in
        let as_many = ap (λ (s : Saved). s.members) is in
        omega (arith, as_many, says_one, below)

    is_earlier : (r : ℕ) → IsFirstBad kept seen old r → before + 1 ≤ r
    is_earlier r bad = elim (cases_lt before r) [
      | inl past ↦ omega (arith, past)
      | inr most ↦
          let opens = one_opens r bad.some most in
          absurd (bad.bad one_of.0.replica.saved opens.0 opens.1 opens.2)
    ]

    pub more_next : IsNextOf kept seen old now (before + 1)
    more_next = record {
      named = is_named;
      earlier = is_earlier;
      bad = λ bad. record {
        some = omega arith;
        member = is_named;
        bad = bad_same old now (before + 1) steady bad;
        before = λ q least below.
            let opens = one_opens q least (omega (arith, below)) in
            (one_of.0.replica.saved, opens.0, opens.1, opens.2);
      };
    }

-- opening the disks of the next member fails
pub next_fails : {K D : Type 0} {keep : Keep K} {disk : Disk D} {number : ℕ} {was now : Opened K}
    {old mid new : List (Pair D)} (fault : WorldFault) → (disk.tells → IsNextOf keep.kept disk.seen old mid number)
    → OpensNext {A = Unit {0}} keep disk number (Err fault) was now mid new
    → DisksLooked {A = Opened K} disk (Err fault) old new → OpensMembers keep disk (Err fault) old new
next_fails {keep = keep} {disk = disk} {old = old} {mid = mid} fault next fails looked = record {
  opened = tt;
  counted = tt;
  count = tt;
  image = λ told r is.
      let bad = fails.image told r (err_as fault (Image r) is) in
      subst (IsFirstBad keep.kept disk.seen old) (sym bad.0)
      ((next told).bad (subst (IsBad keep.kept disk.seen mid) bad.0 bad.1));
  never = λ r is. fails.never r (err_as fault (Occupied r) is);
  others = tt;
  member = λ told r is first opens.
      subst (λ q. q ≤ first.members) (sym (fails.named r (err_as fault (Store r) is))) ((next told).named first opens);
  earlier = λ told q r is bad.
      subst (λ k. k ≤ r) (sym (fails.named q (err_as fault (Store q) is))) ((next told).earlier r bad);
  looked = looked;
}
