-- What a save leaves.
use Rattle.std.proofs.Common.{◌≡◌, inl, inr, ⊎_elim, ℕ, ◌+◌, Bool, true, false, List, Option, Some, None, refl, subst, arith, ap, ◌∙◌}
use Rattle.std.specs.Prelude.{if◌then◌else◌}
use Rattle.ficus_disk.specs.declared.fuse.Fuse.{Fuse}
use Rattle.ficus_disk.specs.declared.fuse.Pick.{Pick}
use Rattle.ficus_disk.specs.declared.pair.Pair.{Pair}
use Rattle.ficus_image.specs.Image.{image_bytes}
use Rattle.ficus_keeper.specs.Framed.{body_in}
use Rattle.ficus_keeper.specs.Fuses.{FusedSave, finds, found_again, fuses_of, on_side}
use Rattle.ficus_keeper.specs.Kept.{Kept, KeepsOneBetween, KeepsOneOf, after_commit, found_in, generation_of, image_alone}
use Rattle.ficus_stable_storage.specs.Leads.Holds.{Holds, Leads}
use Rattle.ficus_stable_storage.proofs.leads.Led.{held_after, held_at, held_generation, held_image, led_next}
use Rattle.ficus_durable_state.specs.Saved.{FitsImage}
use Rattle.ficus_durable_state.specs.declared.saved.Saved.{Saved}
use Rattle.ficus_stable_storage.specs.Fuses.{DecidedByFuses}
use Rattle.ficus_stable_storage.specs.Holds.{HoldsOneBetween, HoldsOneOf}
use Rattle.ficus_stable_storage.specs.Stable.{IsPrepared, MayFollow}
use Rattle.ficus_stable_storage.specs.declared.stable.Stable.{Stable}

-- what is kept after a save holds what was saved
holds_next : (is_image : Bool) (found : Option Kept) (bytes body : List ℕ) (old next : Saved)
    → (is_image ≡ true → bytes ≡ image_bytes next) → (is_image ≡ false → bytes ≡ body) → Holds found old
    → Leads body old next → Holds (after_commit is_image next.generation bytes found) next
holds_next is_image found bytes body old next spelled noted holds leads =
    held_after is_image found next.generation bytes body old next refl spelled noted holds leads

-- so it is of what was prepared
pub held_prepared : {K D : Type 0} (wants_image : K → Bool) {Allows : K → ℕ → Type 0} {size_of : K → ℕ → ℕ}
    {disk_room : D → ℕ} (kept : List ℕ → List ℕ → Option Kept) {fits : K → List ℕ → List ℕ → Type 0}
    (seen : D → List ℕ) {may_leave : D → List ℕ → Type 0} (stable : Stable K) (pair : Pair D) (next : Saved)
    (body : List ℕ) → IsPrepared wants_image Allows size_of disk_room stable pair next body
    → MayFollow kept fits seen may_leave stable pair next body
    → Holds (after_commit (wants_image stable.keeper) next.generation (body_in stable.framed.items) (found_in kept seen pair))
    next
held_prepared wants_image kept seen stable pair next body prepared follows =
    holds_next (wants_image stable.keeper) (found_in kept seen pair) (body_in stable.framed.items) body follows.saved next
    prepared.image prepared.noted follows.ready.holds follows.leads

-- it is the next generation
pub next_generation : (found : Option Kept) (old next : Saved) (body : List ℕ) → Holds found old → Leads body old next
    → (before : Kept) → found ≡ Some before → next.generation ≡ generation_of before + 1
next_generation found old next body holds leads before is =
    omega (
      arith,
      led_next body old next leads,
      held_generation before old (subst (λ (k : Option Kept). Holds k old) is holds),
    )

pub one_of : {D : Type 0} (kept : List ℕ → List ℕ → Option Kept) (may_leave : D → List ℕ → Type 0) (pair : Pair D)
    (before after : Option Kept) (old next : Saved) → Holds before old → Holds after next
    → KeepsOneOf kept may_leave pair before after → HoldsOneOf kept may_leave pair (Some old) (Some next)
one_of kept may_leave pair before after old next holds follows keeps = record {
  each = λ a b left_a left_b. ⊎_elim (λ is. inl (held_at (kept a b) before old is holds))
      (λ is. inr (held_at (kept a b) after next is follows)) (keeps.each a b left_a left_b);
}

pub one_between : {D : Type 0} (kept : List ℕ → List ℕ → Option Kept) (moment : D → ℕ)
    (left_since : D → ℕ → List ℕ → Type 0) (was new : Pair D) (before after : Option Kept) (old next : Saved)
    → Holds before old → Holds after next → KeepsOneBetween kept moment left_since was new before after
    → HoldsOneBetween kept moment left_since was new (Some old) (Some next)
one_between kept moment left_since was new before after old next holds follows keeps = record {
  each = λ a b left_a left_b. ⊎_elim (λ is. inl (held_at (kept a b) before old is holds))
      (λ is. inr (held_at (kept a b) after next is follows)) (keeps.each a b left_a left_b);
}

-- one of the two is found
either : (found after old : Option Kept) (is_found : Bool) (before next : Saved) → Holds after next
    → Holds old before → found ≡ (if is_found then after else old) → Holds found (if is_found then next else before)
either found after old true before next follows holds is = held_at found after next is follows
either found after old false before next follows holds is = held_at found old before is holds

pub decided : {D : Type 0} (kept : List ℕ → List ℕ → Option Kept) (seen : D → List ℕ) (image : D → Pick → List ℕ)
    (fuse : D → Fuse) (calls : ℕ) (on_a : Bool) (old new : Pair D) (is_saved : Bool) (after : Option Kept)
    (before next : Saved) → Holds after next → Holds (found_in kept seen old) before
    → FusedSave kept seen image fuse calls on_a old new is_saved after
    → DecidedByFuses kept image fuse calls on_a old new is_saved before next
decided kept seen image fuse calls on_a old new is_saved after before next follows holds by = record {
  saved = by.saved;
  falls = by.falls;
  found = λ fails. either (found_again kept image fuse new) after (found_in kept seen old)
      (finds calls (on_side on_a (fuses_of fuse old))) before next follows holds (by.found fails);
}

-- what a volume begins with
pub holds_first : (found : Option Kept) (saved : Saved) (image : List ℕ) → FitsImage saved → saved.generation ≡ 0
    → image ≡ image_bytes saved → found ≡ Some (image_alone 0 image) → Holds found saved
holds_first found saved image fits first spelled is =
    held_at found (Some (image_alone 0 (image_bytes saved))) saved
    (is ∙ ap (λ (l : List ℕ). Some (image_alone 0 l)) spelled)
    (subst (λ (g : ℕ). Holds (Some (image_alone g (image_bytes saved))) saved) first (held_image None saved fits))
