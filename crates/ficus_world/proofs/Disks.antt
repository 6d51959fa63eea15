-- What the disks of a world come to, one thing that is asked of them after the other.
use Rattle.std.proofs.Common.{◌≡◌, ◌≢◌, ℕ, ◌+◌, ◌-◌, ◌≤◌, ◌&&◌, Bool, List, [], ◌++◌, cond, length, Option, Some, None, refl, sym, ap, ap₂, subst, ◌∙◌, inl, inr, ◌⊎◌, is_some, arith}
use Rattle.std.specs.Prelude.{count_by, slice_set}
use Rattle.std.proofs.lemmas.Bool.{cases_eq}
use Rattle.std.proofs.lemmas.List.{length-set}
use Rattle.std.proofs.lemmas.List.Sums.{sum_by-append}
use Rattle.ficus_disk.specs.declared.disk.Disk.{Ghosts as Disk}
use Rattle.ficus_disk.specs.Pair.{PairRose}
use Rattle.ficus_disk.specs.declared.pair.Pair.{Pair}
use Rattle.ficus_ids.specs.Members.{IsMember}
use Rattle.ficus_keeper.specs.declared.keep.Keep.{Ghosts as Keep}
use Rattle.ficus_keeper.specs.Kept.{found_in}
use Rattle.ficus_keeper.specs.Pairs.{PairSame, PairWithin}
use Rattle.ficus_durable_state.specs.declared.saved.Saved.{Saved}
use Rattle.ficus_stable_storage.proofs.leads.Led.{held_at}
use Rattle.ficus_stable_storage.specs.Holds.{HoldsOneOf}
use Rattle.ficus_stable_storage.specs.Stable.{IsReady}
use Rattle.ficus_stable_storage.specs.declared.stable.Stable.{Stable}
use Rattle.ficus_runs.specs.Numbered.{IsNumbered}
use Rattle.ficus_runs.specs.Outcome.{Outcome, armings_in, is_arming, is_store_failure, store_failures}
use Rattle.ficus_opening.specs.declared.member.Member.{Member}
use Rattle.ficus_opening.specs.declared.member.MemberState.{MemberState}
use Rattle.ficus_opening.specs.declared.member.MemberState.TheVariants.{Up, Down}
use Rattle.ficus_opening.specs.Disks.{HoldsFor, IsPairAt, IsPairOf, are_fused}
use Rattle.ficus_world.specs.Disks.{DisksFollow, DisksPass, DisksStay, PairFollows}
use Rattle.ficus_world.specs.Moves.{still_pending}
use Rattle.ficus_runs.proofs.Numbers.{number_exists, number_once}
use Rattle.ficus_runs.proofs.Replaced.{replaced}

-- how often something became of one and the other
pub count_append : (test : Outcome → Bool) (one other : List Outcome)
    → count_by test (one ++ other) ≡ count_by test one + count_by test other
count_append test one other = sum_by-append (λ outcome. cond (test outcome) 1 0) one other

module _ {D : Type 0} {faults : D → ℕ} where
  -- the count of a pair's faults rose by both, one after the other
  pub rose_then : {one other : ℕ} {x y z : Pair D} → PairRose faults one x y → PairRose faults other y z
      → PairRose faults (one + other) x z
  rose_then {one} {other} {x} {y} {z} first second = record {
    a = omega (arith, first.a, second.a);
    b = omega (arith, first.b, second.b);
    sum = λ below_a below_b. omega (
      arith,
      first.sum (omega (arith, second.a)) (omega (arith, second.b)),
      second.sum below_a below_b,
    );
  }

  -- the counts of a pair that stay have risen by none
  pub rose_none : {x y : Pair D} → PairSame faults x y → PairRose faults 0 x y
  rose_none {x} {y} same = record {
    a = omega (arith, same.a);
    b = omega (arith, same.b);
    sum = λ below_a below_b. omega (arith, same.a, same.b);
  }

module _ {D : Type 0} {faults : D → ℕ} {armings : D → Option ℕ} where
  -- a pair follows one thing after the other
  pub pair_follows_then : {failures others armed more : ℕ} {x y z : Pair D}
      → PairFollows faults armings failures armed x y → PairFollows faults armings others more y z
      → PairFollows faults armings (failures + others) (armed + more) x z
  pair_follows_then {failures} {others} {armed} {more} {x} {y} {z} first second = record {
    rose = rose_then first.rose second.rose;
    unarmed = λ none.
        let same = first.unarmed (omega (arith, none)) in
        let same_too = second.unarmed (omega (arith, none)) in
        record { a = same_too.a ∙ same.a; b = same_too.b ∙ same.b };
  }

  -- a pair whose counts stay follows nothing
  pub pair_follows_none : {x y : Pair D} → PairSame faults x y → PairSame armings x y
      → PairFollows faults armings 0 0 x y
  pair_follows_none steady same = record { rose = rose_none steady; unarmed = λ none. same }

  -- the disks follow one thing after the other
  pub follows_then : {one other : List Outcome} {x y z : List (Pair D)} → DisksFollow faults armings one x y
      → DisksFollow faults armings other y z → DisksFollow faults armings (one ++ other) x z
  follows_then {one} {other} {x} {y} {z} first second = record {
    count = second.count ∙ first.count;
    each = λ r was now is_was is_now.
        let middle = number_exists y r (subst (λ n. IsMember n r) (sym first.count) is_was.member) in
        let one_and_other = pair_follows_then (first.each r was middle.0 is_was middle.1)
        (second.each r middle.0 now middle.1 is_now) in
        subst (λ n. PairFollows faults armings n (armings_in r (one ++ other)) was now)
        (sym (count_append (is_store_failure r) one other))
        (subst (λ n. PairFollows faults armings (store_failures r one + store_failures r other) n was now)
        (sym (count_append (is_arming r) one other)) one_and_other);
  }

  -- disks whose counts stay follow nothing
  pub follows_steady : {x y : List (Pair D)} → length y ≡ length x
      → ((r : ℕ) (was now : Pair D) → IsNumbered x r was → IsNumbered y r now
      → PairSame faults was now × PairSame armings was now)
      → DisksFollow faults armings [] x y
  follows_steady {x} {y} count same = record {
    count = count;
    each = λ r was now is_was is_now.
        let both = same r was now is_was is_now in pair_follows_none both.0 both.1;
  }

  -- so do the same disks
  pub follows_none : {x : List (Pair D)} → DisksFollow faults armings [] x x
  follows_none {x} = follows_steady refl (λ r was now is_was is_now.
      let same : now ≡ was = number_once is_now is_was in (
        record { a = ap (λ (pair : Pair D). faults pair.a) same; b = ap (λ (pair : Pair D). faults pair.b) same },
        record { a = ap (λ (pair : Pair D). armings pair.a) same; b = ap (λ (pair : Pair D). armings pair.b) same },
      ))

  -- outcomes by which the disks of each member fail and are armed as often are followed alike
  pub follows_alike : {one other : List Outcome} {x y : List (Pair D)}
      → ((r : ℕ) → store_failures r one ≡ store_failures r other)
      → ((r : ℕ) → armings_in r one ≡ armings_in r other)
      → DisksFollow faults armings one x y → DisksFollow faults armings other x y
  follows_alike {one} {other} {x} {y} failures armed follows = record {
    count = follows.count;
    each = λ r was now is_was is_now.
        subst (λ n. PairFollows faults armings n (armings_in r other) was now) (failures r)
        (subst (λ n. PairFollows faults armings (store_failures r one) n was now) (armed r)
        (follows.each r was now is_was is_now));
  }

  -- where the pair of one member changes, the disks follow what happened to its disks alone
  pub follows_at : {outcomes : List Outcome} {x : List (Pair D)} (by : ℕ) {was now : Pair D} → IsNumbered x by was
      → PairFollows faults armings (store_failures by outcomes) (armings_in by outcomes) was now
      → ((r : ℕ) → by ≢ r → store_failures r outcomes ≡ 0) → ((r : ℕ) → by ≢ r → armings_in r outcomes ≡ 0)
      → DisksFollow faults armings outcomes x (slice_set x (by - 1) now)
  follows_at {outcomes} {x} by {was} {now} is follows failures armed = record {
    count = length-set x (by - 1) now;
    each = λ r before after is_before is_after. go r before after is_before
        (replaced x by r now after is.member.at_least is_after);
  }
    where
      go : (r : ℕ) (before after : Pair D) → IsNumbered x r before
          → ((r ≡ by) × (after ≡ now)) ⊎ ((by ≢ r) × IsNumbered x r after)
          → PairFollows faults armings (store_failures r outcomes) (armings_in r outcomes) before after
      go r before after is_before (inl here) =
          let found : IsNumbered x by before = subst (λ n. IsNumbered x n before) here.0 is_before in
          subst (λ n. PairFollows faults armings (store_failures n outcomes) (armings_in n outcomes) before after)
          (sym here.0)
          (subst (λ pair. PairFollows faults armings (store_failures by outcomes) (armings_in by outcomes) pair after)
          (number_once is found)
          (subst (λ pair. PairFollows faults armings (store_failures by outcomes) (armings_in by outcomes) was pair)
          (sym here.1) follows))
      go r before after is_before (inr other) =
          let same : after ≡ before = number_once other.1 is_before in
          subst (λ n. PairFollows faults armings n (armings_in r outcomes) before after)
          (sym (failures r other.0))
          (subst (λ n. PairFollows faults armings 0 n before after) (sym (armed r other.0))
          (pair_follows_none
          (record { a = ap (λ (pair : Pair D). faults pair.a) same; b = ap (λ (pair : Pair D). faults pair.b) same })
          (record {
            a = ap (λ (pair : Pair D). armings pair.a) same;
            b = ap (λ (pair : Pair D). armings pair.b) same;
          })))

-- the others of a list stay
abbrev pub OthersStay : {A : Type 0} → ℕ → List A → List A → Type 0
OthersStay {A} by old new = (r : ℕ) (x : A) → by ≢ r → IsNumbered new r x → IsNumbered old r x

pub others_set : {A : Type 0} (by : ℕ) (list : List A) (now : A) → 1 ≤ by
    → OthersStay by list (slice_set list (by - 1) now)
others_set by list now one r x differs is =
    elim (replaced list by r now x one is) [ inl here ↦ absurd (differs (sym here.0)) | inr other ↦ other.1 ]

pub set_here : {A : Type 0} (by : ℕ) (list : List A) (now found : A) → 1 ≤ by
    → IsNumbered (slice_set list (by - 1) now) by found → found ≡ now
set_here by list now found one is =
    elim (replaced list by by now found one is) [ inl here ↦ here.1 | inr other ↦ absurd (other.0 refl) ]

-- the same of a list in whose place another was set
pub others_as : {A : Type 0} {by : ℕ} {list new : List A} (now : A) → 1 ≤ by → new ≡ slice_set list (by - 1) now
    → OthersStay by list new
others_as {by = by} {list = list} now one set = λ r x differs is.
    others_set by list now one r x differs (subst (λ l. IsNumbered l r x) set is)

pub set_as : {A : Type 0} {by : ℕ} {new : List A} (list : List A) (now found : A) → 1 ≤ by → new ≡ slice_set list (by - 1) now
    → IsNumbered new by found → found ≡ now
set_as {by = by} list now found one set is = set_here by list now found one (subst (λ l. IsNumbered l by found) set is)

-- where all members but one stay, with their keepers and pairs, it is enough that the pair of this one is its own still
module _ {K D : Type 0} {keep : Keep K} {disk : Disk D} {Stand : List Member → List Member → Type 0} (by : ℕ)
    {stables : List (Stable K)} {disks : List (Pair D)}
    (others : (old new : List Member) → Stand old new → OthersStay by old new) where
  pub disks_moved : {now_stables : List (Stable K)} {now_disks : List (Pair D)} → OthersStay by stables now_stables
      → OthersStay by disks now_disks
      → ((old new : List Member) → Stand old new → IsPairAt keep disk by old stables disks
      → IsPairAt keep disk by new now_stables now_disks)
      → DisksPass keep disk Stand stables now_stables disks now_disks
  disks_moved {now_stables} {now_disks} other_stables other_disks here old new stand before = record {
    each = λ r member stable pair is is_stable is_pair. go r member stable pair is is_stable is_pair (cases_eq r by);
  }
    where
      go : (r : ℕ) (member : Member) (stable : Stable K) (pair : Pair D) → IsNumbered new r member
          → IsNumbered now_stables r stable → IsNumbered now_disks r pair → (r ≡ by) ⊎ (r ≢ by)
          → IsPairOf keep disk member stable pair
      go r member stable pair is is_stable is_pair (inl same) =
          here old new stand (before.each by) member stable pair (subst (λ n. IsNumbered new n member) same is)
          (subst (λ n. IsNumbered now_stables n stable) same is_stable)
          (subst (λ n. IsNumbered now_disks n pair) same is_pair)
      go r member stable pair is is_stable is_pair (inr differs) =
          let other : by ≢ r = λ same. differs (sym same) in
          before.each r member stable pair (others old new stand r member other is) (other_stables r stable other is_stable)
          (other_disks r pair other is_pair)

  -- where a member, its keeper and its pair change
  pub disks_set : (stable : Stable K) (pair : Pair D) → 1 ≤ by
      → ((old new : List Member) → Stand old new → IsPairAt keep disk by old stables disks → (member : Member)
      → IsNumbered new by member → IsPairOf keep disk member stable pair)
      → DisksPass keep disk Stand stables (slice_set stables (by - 1) stable) disks (slice_set disks (by - 1) pair)
  disks_set stable pair one here =
      disks_moved (others_set by stables stable one) (others_set by disks pair one)
      (λ old new stand own member found found_pair is is_stable is_pair.
      subst (λ z. IsPairOf keep disk member z found_pair)
      (sym (set_here by stables stable found one is_stable))
      (subst (λ z. IsPairOf keep disk member stable z)
      (sym (set_here by disks pair found_pair one is_pair)) (here old new stand own member is)))

  -- where its keeper stays
  pub disks_set_pair : (pair : Pair D) → 1 ≤ by
      → ((old new : List Member) → Stand old new → IsPairAt keep disk by old stables disks → (member : Member)
      (stable : Stable K) → IsNumbered new by member → IsNumbered stables by stable
      → IsPairOf keep disk member stable pair)
      → DisksPass keep disk Stand stables stables disks (slice_set disks (by - 1) pair)
  disks_set_pair pair one here =
      disks_moved (λ r x differs is. is) (others_set by disks pair one)
      (λ old new stand own member stable found_pair is is_stable is_pair.
      subst (λ z. IsPairOf keep disk member stable z)
      (sym (set_here by disks pair found_pair one is_pair)) (here old new stand own member stable is is_stable))

-- the same members
pub same_numbered : {old new : List Member} (r : ℕ) (member : Member) → new ≡ old → IsNumbered new r member
    → IsNumbered old r member
same_numbered r member same is = subst (λ (l : List Member). IsNumbered l r member) same is

-- the same disks are those of the same members
pub disks_same : {K D : Type 0} {keep : Keep K} {disk : Disk D} {stables : List (Stable K)} {disks : List (Pair D)}
    → DisksStay keep disk stables stables disks disks
disks_same old new same are = record {
  each = λ r member stable pair is is_stable is_pair.
      are.each r member stable pair (same_numbered r member same is) is_stable is_pair;
}

-- whether a pair is fused stays where its armings do
pub fused_same : {D : Type 0} (armings : D → Option ℕ) {old new : Pair D} → PairSame armings old new
    → are_fused armings new ≡ are_fused armings old
fused_same armings {old} {new} same =
    ap₂ (λ (one other : Option ℕ). is_some one && is_some other) same.a same.b

module _ {K D : Type 0} (keep : Keep K) (disk : Disk D) where
  -- a crash that leaves no more leaves one of the same two
  one_of_within : {before after : Option Saved} {old new : Pair D} → PairWithin disk.may_leave old new
      → HoldsOneOf keep.kept disk.may_leave old before after → HoldsOneOf keep.kept disk.may_leave new before after
  one_of_within within holds = record {
    each = λ a b left_a left_b. holds.each a b (within.a a left_a) (within.b b left_b);
  }

  -- what is ready leaves one thing
  ready_leaves : (stable : Stable K) (pair : Pair D) (saved : Saved)
      → IsReady keep.kept keep.fits disk.seen disk.may_leave stable pair saved → HoldsOneOf keep.kept disk.may_leave pair (Some saved) (Some saved)
  ready_leaves stable pair saved ready = record {
    each = λ a b left_a left_b.
        let same : keep.kept a b ≡ found_in keep.kept disk.seen pair
        = ap₂ keep.kept (ready.settled.synced_a a left_a) (ready.settled.synced_b b left_b) in
        inl (held_at _ _ saved same ready.holds);
  }

  -- what becomes of a pair that a crash leaves no more of, and that stays ready
  pub holds_still : (state : MemberState) (saved : Saved) (stable now_stable : Stable K) (pair now_pair : Pair D)
      → PairWithin disk.may_leave pair now_pair
      → (IsReady keep.kept keep.fits disk.seen disk.may_leave stable pair saved
      → IsReady keep.kept keep.fits disk.seen disk.may_leave now_stable now_pair saved)
      → HoldsFor keep disk stable pair saved state
      → HoldsFor keep disk now_stable now_pair saved state
  holds_still Up saved stable now_stable pair now_pair within stays holds = stays holds
  holds_still (Down None) saved stable now_stable pair now_pair within stays holds = one_of_within within holds
  holds_still (Down (Some pending)) saved stable now_stable pair now_pair within stays holds =
      one_of_within within holds

  -- the same where the member is put down
  pub holds_down : (state : MemberState) (saved : Saved) (stable now_stable : Stable K) (pair now_pair : Pair D)
      → PairWithin disk.may_leave pair now_pair → HoldsFor keep disk stable pair saved state
      → HoldsFor keep disk now_stable now_pair saved (Down (still_pending state))
  holds_down Up saved stable now_stable pair now_pair within holds =
      one_of_within within (ready_leaves stable pair saved holds)
  holds_down (Down None) saved stable now_stable pair now_pair within holds = one_of_within within holds
  holds_down (Down (Some pending)) saved stable now_stable pair now_pair within holds = one_of_within within holds
