-- What is found of the disks before a volume is made, and what is made of them.
use Rattle.std.proofs.Common.{◌≡◌, ◌≢◌, ℕ, ◌+◌, ◌<◌, ◌≤◌, Bool, true, false, List, [], ◌∷◌, Option, Some, None, refl, sym, ap, ap₂, subst, ◌∙◌, inl, inr, ◌⊎◌, arith}
use Rattle.std.specs.Prelude.{◌↔◌, slice_set, length, IsErrOf, IsTrue, Result, Err}
use Rattle.std.proofs.lemmas.Bool.{cases_lt}
use Rattle.std.proofs.lemmas.List.{length-set}
use Rattle.ficus_disk.specs.declared.disk.Disk.{Ghosts as Disk}
use Rattle.ficus_disk.specs.declared.pair.Pair.{Pair}
use Rattle.ficus_ids.specs.Members.{IsMember}
use Rattle.ficus_keeper.specs.Calls.{AreAsBefore}
use Rattle.ficus_keeper.specs.Kept.{Kept, found_in}
use Rattle.ficus_model.specs.Lawful.{Volume}
use Rattle.ficus_replica.specs.SavedOf.{fresh_saved}
use Rattle.ficus_stable_storage.specs.Leads.Holds.{Holds}
use Rattle.ficus_stable_storage.proofs.leads.Led.{held_at}
use Rattle.ficus_stable_storage.specs.Holds.{HoldsOneOf}
use Rattle.ficus_runs.specs.Numbered.{IsNumbered}
use Rattle.ficus_opening.specs.Rests.{AllRest, OthersRest, PairRests}
use Rattle.ficus_opening.specs.Check.Judged.{IsEmptyPair}
use Rattle.ficus_opening.specs.Opening.{AreEmpty, AreMade, AreMadeBefore, AreMadeInPart, AreSynced, IsFirstOccupied, IsFoundFault, IsMadeInPart, IsStoreFault, SomeAreMade, Steady}
use Rattle.ficus_opening.specs.declared.fault.WorldFault.{WorldFault}
use Rattle.ficus_opening.specs.declared.fault.WorldFault.TheVariants.{Image, Memory, Occupied, Store}
use Rattle.ficus_runs.proofs.Numbers.{number_exists, number_once}
use Rattle.ficus_opening.proofs.Others.{all_others_rest, others_rest_then}
use Rattle.ficus_opening.proofs.Rests.{all_rest_then, rests_none}
use Rattle.ficus_opening.proofs.Steadies.{set_at}

-- what is known of the disks of the members so far: none holds something, or this one is the first that does
abbrev pub FoundSo : {D : Type 0} → (D → List ℕ) → List (Pair D) → ℕ → Option ℕ → Type 0
FoundSo seen disks before None = AreEmpty seen disks before
FoundSo seen disks before (Some r) = IsFirstOccupied seen disks r × (r ≤ before)

some_of : (one two : List ℕ) → ((one ≡ []) × (two ≡ []) → ⊥) → (one ≢ []) ⊎ (two ≢ [])
some_of [] [] not = absurd (not (refl, refl))
some_of [] (x ∷ two) not = inr (λ e. absurd (cc))
some_of (x ∷ one) two not = inl (λ e. absurd (cc))

-- a pair that holds something isn't empty
not_both : {D : Type 0} (seen : D → List ℕ) (pair : Pair D) → (seen pair.a ≢ []) ⊎ (seen pair.b ≢ [])
    → IsEmptyPair seen pair → ⊥
not_both seen pair (inl some) empty = some empty.0
not_both seen pair (inr some) empty = some empty.1

module _ {D : Type 0} (seen : D → List ℕ) where
  pub empty_none : (disks : List (Pair D)) → AreEmpty seen disks 0
  empty_none disks = record { each = λ r pair at most. absurd (omega (arith, at.member.at_least, most)) }

  -- what all disks hold stays, so that of a pair which is asked now what it held before is known
  module _ (old new : List (Pair D)) (before : ℕ) (pair : Pair D) (steady : Steady seen old new)
      (at : IsNumbered new (before + 1) pair) where
    held : (other : Pair D) → IsNumbered old (before + 1) other → IsEmptyPair seen pair → IsEmptyPair seen other
    held other at_other empty =
        let same = steady.each (before + 1) other pair at_other at in
        (sym same.a ∙ empty.0, sym same.b ∙ empty.1)

    held_now : (other : Pair D) → IsNumbered old (before + 1) other → IsEmptyPair seen other → IsEmptyPair seen pair
    held_now other at_other empty =
        let same = steady.each (before + 1) other pair at_other at in
        (same.a ∙ empty.0, same.b ∙ empty.1)

    still_empty : AreEmpty seen old before → IsEmptyPair seen pair → AreEmpty seen old (before + 1)
    still_empty earlier empty = record {
      each = λ r other at_other most. elim (cases_lt before r) [
        | inl past ↦
            let last : r ≡ before + 1 = omega (arith, past, most) in
            held other (subst (λ k. IsNumbered old k other) last at_other) empty
        | inr within ↦ earlier.each r other at_other within
      ];
    }

    first_so : AreEmpty seen old before → (IsEmptyPair seen pair → ⊥) → IsFirstOccupied seen old (before + 1)
    first_so earlier not =
        let found = number_exists old (before + 1) (subst (λ n. IsMember n (before + 1)) steady.count at.member) in
        record {
          pair = found.0;
          is = found.1;
          some = some_of (seen found.0.a) (seen found.0.b) (λ empty. not (held_now found.0 found.1 empty));
          before = λ q other at_other below. earlier.each q other at_other (omega (arith, below));
        }

    go : (occupied next : Option ℕ) (is_empty : Bool) → (IsTrue is_empty ↔ IsEmptyPair seen pair)
        → ((r : ℕ) → occupied ≡ Some r → next ≡ Some r) → (is_empty ≡ true → next ≡ occupied)
        → (is_empty ≡ false → occupied ≡ None → next ≡ Some (before + 1)) → FoundSo seen old before occupied
        → FoundSo seen old (before + 1) next
    go (Some r) next is_empty tells earlier empty first found =
        subst (FoundSo seen old (before + 1)) (sym (earlier r refl)) (found.0, omega (arith, found.1))
    go None next true tells earlier empty first found =
        subst (FoundSo seen old (before + 1)) (sym (empty refl)) (still_empty found (tells.0 refl))
    go None next false tells earlier empty first found =
        subst (FoundSo seen old (before + 1)) (sym (first refl refl))
        (first_so found (λ both. let no = tells.1 both in absurd (cc)), omega arith)

    pub found_more : (occupied next : Option ℕ) (is_empty : Bool) → (IsTrue is_empty ↔ IsEmptyPair seen pair)
        → ((r : ℕ) → occupied ≡ Some r → next ≡ Some r) → (is_empty ≡ true → next ≡ occupied)
        → (is_empty ≡ false → occupied ≡ None → next ≡ Some (before + 1)) → FoundSo seen old before occupied
        → FoundSo seen old (before + 1) next
    found_more = go

  pub empty_or : (disks : List (Pair D)) (count r : ℕ) → AreEmpty seen disks count → IsFirstOccupied seen disks r
      → r ≤ count → ⊥
  empty_or disks count r empty first within = not_both seen first.pair first.some (empty.each r first.pair first.is within)

  pub first_once : (disks : List (Pair D)) (r q : ℕ) → IsFirstOccupied seen disks r → IsFirstOccupied seen disks q
      → r ≡ q
  first_once disks r q one two = elim (cases_lt r q) [
    | inl below ↦ absurd (not_both seen one.pair one.some (two.before r one.pair one.is below))
    | inr most ↦ elim (cases_lt q r) [
      | inl below ↦ absurd (not_both seen two.pair two.some (one.before q two.pair two.is below))
      | inr also ↦ omega (arith, most, also)
    ]
  ]

  pub empty_same : (old new : List (Pair D)) (count : ℕ) → Steady seen old new → AreEmpty seen old count
      → AreEmpty seen new count
  empty_same old new count steady empty = record {
    each = λ r pair at within.
        let was = number_exists old r (subst (λ n. IsMember n r) steady.count at.member) in
        let same = steady.each r was.0 pair was.1 at in
        let nothing = empty.each r was.0 was.1 within in
        (same.a ∙ nothing.0, same.b ∙ nothing.1);
  }

  -- what was found answers as the first disk that holds something asks
  pub found_comes : (disks : List (Pair D)) (r : ℕ) (result : Result (Unit {0}) WorldFault) (fault : WorldFault)
      → result ≡ Err fault → IsFoundFault fault
      → ((q : ℕ) → result ≡ Err (Occupied q) → IsFirstOccupied seen disks q)
      → IsFirstOccupied seen disks r → (result ≡ Err (Occupied r)) ⊎ ((q : ℕ) × (result ≡ Err (Store q)))
  found_comes disks r result (Store q) is found occupied first = inr (q, is)
  found_comes disks r result (Occupied q) is found occupied first =
      inl (is ∙ ap (λ k. Err (Occupied k)) (first_once disks q r (occupied q is) first))
  found_comes disks r result (Image q) is found occupied first = absurd found
  found_comes disks r result Memory is found occupied first = absurd found

  -- where the disks of so many members are empty, none of theirs holds something
  pub none_occupied : (disks : List (Pair D)) (count r : ℕ) → AreEmpty seen disks count → IsFirstOccupied seen disks r
      → r ≤ count → ⊥
  none_occupied disks count r empty first within = go first.some
    where
      both : IsEmptyPair seen first.pair
      both = empty.each r first.pair first.is within

      go : (seen first.pair.a ≢ []) ⊎ (seen first.pair.b ≢ []) → ⊥
      go (inl some) = some both.0
      go (inr some) = some both.1

-- where both disks are as before, nothing is written on them
pub rests_before : {D : Type 0} {disk : Disk D} {old new : Pair D} → AreAsBefore disk old new → PairRests disk old new
rests_before as_before = record {
  within = as_before.keeps.crash;
  leaves = as_before.keeps.moments;
  spans = as_before.keeps.spans;
}

-- the disks of the members up to this one are made, and those behind it are as they were
pub record MadeSo {D : Type 0} (kept : List ℕ → List ℕ → Option Kept) (seen : D → List ℕ) (volume : Volume)
    (old new : List (Pair D)) (before : ℕ) : Type 0 where
  pub made : (r : ℕ) (pair : Pair D) → IsNumbered new r pair → r ≤ before
      → Holds (found_in kept seen pair) (fresh_saved volume r)
  pub rest : (r : ℕ) (pair : Pair D) → IsNumbered new r pair → before < r → IsNumbered old r pair

module _ {D : Type 0} (kept : List ℕ → List ℕ → Option Kept) (seen : D → List ℕ) (volume : Volume)
    (old : List (Pair D)) where
  pub made_none : MadeSo kept seen volume old old 0
  made_none = record {
    made = λ r pair at most. absurd (omega (arith, at.member.at_least, most));
    rest = λ r pair at past. at;
  }

  pub made_more : (new : List (Pair D)) (before : ℕ) (after : Pair D) → MadeSo kept seen volume old new before
      → Holds (found_in kept seen after) (fresh_saved volume (before + 1))
      → MadeSo kept seen volume old (slice_set new before after) (before + 1)
  made_more new before after so holds = record {
    made = λ r pair at most. elim (set_at new before r after pair at) [
      | inl (number, is) ↦
          subst (λ (p : Pair D). Holds (found_in kept seen p) (fresh_saved volume r)) (sym is)
          (subst (λ k. Holds (found_in kept seen after) (fresh_saved volume k)) (sym number) holds)
      | inr (differs, here) ↦ so.made r pair here (omega (arith, most, differs))
    ];
    rest = λ r pair at past. elim (set_at new before r after pair at) [
      | inl (number, is) ↦ absurd (omega (arith, number, past))
      | inr (differs, here) ↦ so.rest r pair here (omega (arith, past))
    ];
  }

  pub made_all : (new : List (Pair D)) (before : ℕ) → MadeSo kept seen volume old new before
      → volume.members ≤ before → AreMade kept seen volume new
  made_all new before so all = record {
    each = λ r pair at member. so.made r pair at (omega (arith, member.at_most, all));
  }

  module _ (disk : Disk D) (new : List (Pair D)) (before : ℕ) (after : Pair D)
      (so : MadeSo kept seen volume old new before) (count : length new ≡ length old) where
    -- those before stay made, whatever a crash leaves
    before_made : AreSynced seen disk.may_leave new volume.members
        → AreMadeBefore kept disk.may_leave volume (before + 1) (slice_set new before after)
    before_made all = record {
      each = λ r pair at member below a b left_a left_b. elim (set_at new before r after pair at) [
        | inl (number, is) ↦ absurd (omega (arith, number, below))
        | inr (differs, here) ↦
            let only = all.each r pair here member.at_most in
            let made = so.made r pair here (omega (arith, below)) in
            held_at _ _ _ (ap₂ kept (only.a a left_a) (only.b b left_b)) made
      ];
    }

    -- the disk of one more failed
    pub one_in_part : AreSynced seen disk.may_leave new volume.members
        → HoldsOneOf kept disk.may_leave after None (Some (fresh_saved volume (before + 1)))
        → IsMadeInPart kept disk volume (before + 1) old (slice_set new before after)
    one_in_part all holds = record {
      before = before_made all;
      there = λ pair at. elim (set_at new before (before + 1) after pair at) [
        | inl (number, is) ↦
            subst (λ (p : Pair D). HoldsOneOf kept disk.may_leave p None (Some (fresh_saved volume (before + 1))))
            (sym is) holds
        | inr (differs, here) ↦ absurd (differs refl)
      ];
      rest = record {
        pairs = length-set new before after ∙ count;
        each = λ r was now past at at_now. elim (set_at new before r after now at_now) [
          | inl (number, is) ↦ absurd (omega (arith, number, past))
          | inr (differs, here) ↦ stays_at r was now (omega (arith, past)) at here
        ];
      };
    }
      where
        stays_at : (r : ℕ) (was now : Pair D) → before < r → IsNumbered old r was → IsNumbered new r now
            → PairRests disk was now
        stays_at r was now past at here =
            subst (λ (p : Pair D). PairRests disk was p) (number_once at (so.rest r now here past)) (rests_none disk was)

    -- memory was refused to one more
    pub some_made : (pair : Pair D) → IsNumbered new (before + 1) pair → PairRests disk pair after
        → AreSynced seen disk.may_leave new volume.members
        → SomeAreMade kept disk volume old (slice_set new before after)
    some_made pair there rests all = record {
      count = before;
      first = record {
        made = before_made all;
        rest = record {
          pairs = length-set new before after ∙ count;
          each = λ r was now past at at_now. elim (set_at new before r after now at_now) [
            | inl (number, is) ↦
                let here : IsNumbered old (before + 1) was = subst (λ n. IsNumbered old n was) number at in
                let same = number_once here (so.rest (before + 1) pair there (omega arith)) in
                subst (λ (p : Pair D). PairRests disk p now) (sym same)
                (subst (λ (p : Pair D). PairRests disk pair p) (sym is) rests)
            | inr (differs, here) ↦
                subst (λ (p : Pair D). PairRests disk was p) (number_once at (so.rest r now here past))
                (rests_none disk was)
          ];
        };
      };
    }

    -- so what is made is made in part, as the fault says
    pub made_in_part : (fault : WorldFault) → IsStoreFault fault
        → ((r : ℕ) → IsErrOf {T = Unit {0}} (Err fault) (Store r) → r ≡ before + 1)
        → IsMadeInPart kept disk volume (before + 1) old (slice_set new before after)
        → (IsErrOf {T = Unit {0}} (Err fault) Memory → SomeAreMade kept disk volume old (slice_set new before after))
        → AreMadeInPart kept disk volume old (slice_set new before after) fault
    made_in_part (Store r) store named part some =
        inr (subst (λ n. IsMadeInPart kept disk volume n old (slice_set new before after)) (sym (named r refl)) part)
    made_in_part Memory store named part some = some refl
    made_in_part (Occupied r) store named part some = absurd store
    made_in_part (Image r) store named part some = absurd store

module _ {D : Type 0} (kept : List ℕ → List ℕ → Option Kept) (disk : Disk D) (volume : Volume) where
  -- where nothing is written, nothing is made
  pub none_made : (old new : List (Pair D)) → AllRest disk old new → SomeAreMade kept disk volume old new
  none_made old new rests = record {
    count = 0;
    first = record {
      made = record { each = λ r pair at member below. absurd (omega (arith, member.at_least, below)) };
      rest = all_others_rest disk 0 old new rests;
    };
  }

  -- so it is where something was looked for on empty disks, and nothing was there
  pub found_in_part : (old new : List (Pair D)) (fault : WorldFault) → IsFoundFault fault → AllRest disk old new
      → AreEmpty disk.seen old volume.members
      → ((r : ℕ) → IsErrOf {T = Unit {0}} (Err fault) (Occupied r)
      → IsFirstOccupied disk.seen old r × (r ≤ volume.members))
      → AreMadeInPart kept disk volume old new fault
  found_in_part old new (Store r) found rests empty occupied = inl rests
  found_in_part old new (Occupied r) found rests empty occupied =
      let first = occupied r refl in
      absurd (none_occupied disk.seen old volume.members r empty first.0 first.1)
  found_in_part old new (Image r) found rests empty occupied = absurd found
  found_in_part old new Memory found rests empty occupied = absurd found

  -- and what is made behind that is made of what was there at first
  pub part_behind : ((d : D) (t u : ℕ) (c : List ℕ) → t ≤ u → disk.left_since d u c → disk.left_since d t c)
      → (old mid new : List (Pair D)) → AllRest disk old mid → (fault : WorldFault)
      → AreMadeInPart kept disk volume mid new fault → AreMadeInPart kept disk volume old new fault
  part_behind earlier old mid new first = go
    where
      behind : (count : ℕ) → OthersRest disk count mid new → OthersRest disk count old new
      behind count rest =
          others_rest_then disk count earlier old mid new (all_others_rest disk count old mid first) rest

      go : (fault : WorldFault) → AreMadeInPart kept disk volume mid new fault
          → AreMadeInPart kept disk volume old new fault
      go (Store r) (inl rests) = inl (all_rest_then disk earlier old mid new first rests)
      go (Store r) (inr part) =
          inr (record { before = part.before; there = part.there; rest = behind r part.rest })
      go Memory some = record {
        count = some.count;
        first = record { made = some.first.made; rest = behind some.count some.first.rest };
      }
      go (Occupied r) none = none
      go (Image r) none = none

  -- where nothing is written on disks on which all is made, all is made
  pub made_rests : (mid new : List (Pair D)) → AreMade kept disk.seen volume mid
      → AreSynced disk.seen disk.may_leave mid volume.members → AllRest disk mid new
      → AreMadeBefore kept disk.may_leave volume (volume.members + 1) new
  made_rests mid new made synced rests = record {
    each = λ r pair at member below a b left_a left_b.
        let was = number_exists mid r (subst (λ n. IsMember n r) rests.count at.member) in
        let within = (rests.each r was.0 pair was.1 at).within in
        let only = synced.each r was.0 was.1 member.at_most in
        let holds = made.each r was.0 was.1 member in
        held_at _ _ _ (ap₂ kept (only.a a (within.a a left_a)) (only.b b (within.b b left_b))) holds;
  }
