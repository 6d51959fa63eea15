-- One member more is entered, with a keeper and a pair of its own.
use Rattle.std.proofs.Common.{◌≡◌, ◌≢◌, ℕ, ◌+◌, ◌≤◌, List, [], ◌∷◌, ◌++◌, length, sym, ap, subst, inl, inr, ◌⊎◌, arith}
use Rattle.std.specs.Prelude.{slice_set}
use Rattle.std.proofs.lemmas.List.{length-set, length_push}
use Rattle.ficus_disk.specs.declared.disk.Disk.{Ghosts as Disk}
use Rattle.ficus_disk.specs.declared.pair.Pair.{Pair}
use Rattle.ficus_ids.specs.Members.{IsMember}
use Rattle.ficus_keeper.specs.declared.keep.Keep.{Ghosts as Keep}
use Rattle.ficus_runs.specs.Numbered.{IsNumbered}
use Rattle.ficus_runs.proofs.Numbers.{number_cases, number_exists, number_once}
use Rattle.ficus_stable_storage.specs.declared.stable.Stable.{Stable}
use Rattle.ficus_opening.specs.Alone.{AreKept}
use Rattle.ficus_opening.specs.Disks.{AreDisksOf, IsPairOf}
use Rattle.ficus_opening.specs.declared.member.Member.{Member}
use Rattle.ficus_opening.specs.declared.opening.Opened.{Opened}
use Rattle.ficus_opening.proofs.Steadies.{set_at}

-- where one is set, the others stay
pub set_other : {A : Type 0} (list : List A) (index r : ℕ) (next x : A) → index + 1 ≢ r → IsNumbered list r x
    → IsNumbered (slice_set list index next) r x
set_other {A} list index r next x differs at =
    let found =
    number_exists (slice_set list index next) r
    (subst (λ n. IsMember n r) (sym (length-set list index next)) at.member) in
    elim (set_at list index r next found.0 found.1) [
      | inl here ↦ absurd (differs (sym here.0))
      | inr kept ↦ subst (λ (y : A). IsNumbered (slice_set list index next) r y) (number_once kept.1 at) found.1
    ]

module _ {K D : Type 0} (keep : Keep K) (disk : Disk D) (old new : List (Pair D)) (member : Member)
    (stable : Stable K) where
  module _ (members : List Member) (stables : List (Stable K)) (as_many : length stables ≡ length members)
      (are : AreDisksOf keep disk members stables old)
      (stay : (r : ℕ) (pair : Pair D) → r ≤ length members → IsNumbered new r pair → IsNumbered old r pair)
      (own : (pair : Pair D) → IsNumbered new (length members + 1) pair → IsPairOf keep disk member stable pair) where
    pair_of : (r : ℕ) (m : Member) (s : Stable K) (p : Pair D) → IsNumbered new r p
        → IsNumbered members r m ⊎ ((r ≡ length members + 1) × (m ≡ member))
        → IsNumbered stables r s ⊎ ((r ≡ length stables + 1) × (s ≡ stable)) → IsPairOf keep disk m s p
    pair_of r m s p at (inl here) (inl there) = are.each r m s p here there (stay r p here.member.at_most at)
    pair_of r m s p at (inl here) (inr last) = absurd (omega (arith, here.member.at_most, last.0, as_many))
    pair_of r m s p at (inr last) (inl there) = absurd (omega (arith, there.member.at_most, last.0, as_many))
    pair_of r m s p at (inr last) (inr also) =
        subst (λ (x : Member). IsPairOf keep disk x s p) (sym last.1)
        (subst (λ (x : Stable K). IsPairOf keep disk member x p) (sym also.1)
        (own p (subst (λ n. IsNumbered new n p) last.0 at)))

    disks_more : AreDisksOf keep disk (members ++ member ∷ []) (stables ++ stable ∷ []) new
    disks_more = record {
      each = λ r m s p at at_stable at_pair.
          pair_of r m s p at_pair (number_cases members member at) (number_cases stables stable at_stable);
    }

  -- those before it keep theirs
  pub kept_more : (was now : Opened K) → AreKept keep disk was old
      → now.members.items ≡ was.members.items ++ member ∷ [] → now.stables.items ≡ was.stables.items ++ stable ∷ []
      → ((r : ℕ) (pair : Pair D) → r ≤ length was.members.items → IsNumbered new r pair → IsNumbered old r pair)
      → ((pair : Pair D) → IsNumbered new (length was.members.items + 1) pair → IsPairOf keep disk member stable pair)
      → AreKept keep disk now new
  kept_more was now kept members_are stables_are stay own =
      let grown = ap (λ (l : List Member). length l) members_are in
      let entered = length_push was.members.items member in
      let keepers = ap (λ (l : List (Stable K)). length l) stables_are in
      let entered_too = length_push was.stables.items stable in
      record {
        stables = omega (arith, grown, entered, keepers, entered_too, kept.stables);
        disks =
            subst (λ (l : List (Stable K)). AreDisksOf keep disk now.members.items l new) (sym stables_are)
            (subst (λ (l : List Member). AreDisksOf keep disk l (was.stables.items ++ stable ∷ []) new)
            (sym members_are)
            (disks_more was.members.items was.stables.items kept.stables kept.disks stay own));
      }

-- the pair behind those of the others is set, and is its own
module _ {K D : Type 0} (keep : Keep K) (disk : Disk D) (was now : Opened K) (disks : List (Pair D)) (index : ℕ)
    (member : Member) (stable : Stable K) (after : Pair D) (next : index ≡ length was.members.items)
    (kept : AreKept keep disk was disks) (members_are : now.members.items ≡ was.members.items ++ member ∷ [])
    (stables_are : now.stables.items ≡ was.stables.items ++ stable ∷ []) (own : IsPairOf keep disk member stable after)
  where
    others_stay : (r : ℕ) (pair : Pair D) → r ≤ length was.members.items
        → IsNumbered (slice_set disks index after) r pair → IsNumbered disks r pair
    others_stay r pair within at = elim (set_at disks index r after pair at) [
      | inl here ↦ absurd (omega (arith, here.0, next, within))
      | inr there ↦ there.1
    ]

    its_own : (pair : Pair D) → IsNumbered (slice_set disks index after) (length was.members.items + 1) pair
        → IsPairOf keep disk member stable pair
    its_own pair at = elim (set_at disks index (length was.members.items + 1) after pair at) [
      | inl here ↦ subst (λ (p : Pair D). IsPairOf keep disk member stable p) (sym here.1) own
      | inr there ↦
          let same : index + 1 ≡ length was.members.items + 1 = omega (arith, next) in
          absurd (there.0 same)
    ]

    pub kept_next : AreKept keep disk now (slice_set disks index after)
    kept_next =
        kept_more keep disk disks (slice_set disks index after) member stable was now kept members_are stables_are
        others_stay its_own
