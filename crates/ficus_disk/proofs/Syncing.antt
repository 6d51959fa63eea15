-- What lies outside the range that was written, and what a sync of that range makes.
use Rattle.std.proofs.Common.{◌≡◌, ◌⊎◌, inl, inr, ℕ, ◌+◌, ◌-◌, ◌<◌, ◌≤◌, true, List, ◌++◌, length, get_or, refl, sym, ◌∙◌, ap, subst, arith, replicate}
use Rattle.std.proofs.lemmas.List.{get_or-replicate, length-replicate, replicate-append-replicate, get_or_past, ext_get_or}
use Rattle.std.proofs.lemmas.Bool.{cases_lt}
use Rattle.ficus_disk.specs.Bytes.{patch}
use Rattle.ficus_disk.specs.Crash.{Within}
use Rattle.ficus_disk.specs.Platter.{Held, IsCleanBut, IsMarked, Leaves, is_clean, marks_of, settled}
use Rattle.ficus_disk.proofs.Crashes.{only-settled}
use Rattle.ficus_disk.specs.declared.mark.Mark.{Mark}
use Rattle.ficus_disk.specs.declared.mark.Mark.TheVariants.{Clean, Front, Rest}
use Rattle.ficus_disk.proofs.Patches.{length-marks_of, length-patch, get_or-patch_before, get_or-patch_inside, get_or-patch_after}

clean_of : (mark : Mark) → is_clean mark ≡ true → mark ≡ Clean
clean_of Clean is = refl
clean_of Front is = absurd (cc)
clean_of Rest is = absurd (cc)

-- nothing was written yet, or all is synced
pub all_clean : (n : ℕ) (marks : List Mark) → marks ≡ replicate n Clean → IsCleanBut 0 0 marks
all_clean n marks is = record {
  before = λ k less. absurd (omega arith);
  behind = λ k from. ap (λ (l : List Mark). is_clean (get_or l k Clean)) is ∙ of_place k (cases_lt k n);
}
  where
    of_place : (k : ℕ) → (k < n) ⊎ (n ≤ k) → is_clean (get_or (replicate n Clean) k Clean) ≡ true
    of_place k (inl less) = ap is_clean (get_or-replicate n k Clean Clean less)
    of_place k (inr past) = ap is_clean (get_or_past (replicate n Clean) k Clean (omega (arith, length-replicate n Clean)))

-- one more range is written
module _ (from upto at n : ℕ) (marks new : List Mark) (clean : IsCleanBut from upto marks) (rises : from ≤ upto)
    (le : at ≤ length marks) (is : new ≡ patch marks at (marks_of n)) where
  still : (k : ℕ) → (k < at) ⊎ (at + n ≤ k) → is_clean (get_or marks k Clean) ≡ true
      → is_clean (get_or new k Clean) ≡ true
  still k (inl less) was =
      ap (λ (l : List Mark). is_clean (get_or l k Clean)) is
      ∙ ap is_clean (get_or-patch_before marks (marks_of n) at k Clean le less) ∙ was
  still k (inr far) was =
      ap (λ (l : List Mark). is_clean (get_or l k Clean)) is
      ∙ ap is_clean (get_or-patch_after marks (marks_of n) at k Clean le (omega (arith, length-marks_of n))) ∙ was

  was_clean : (k : ℕ) → (k < from) ⊎ (upto ≤ k) → is_clean (get_or marks k Clean) ≡ true
  was_clean k (inl less) = clean.before k less
  was_clean k (inr far) = clean.behind k far

  pub clean_with : (low high : ℕ) → low ≤ at → at + n ≤ high → (from < upto → low ≤ from) → (from < upto → upto ≤ high)
      → IsCleanBut low high new
  clean_with low high lower upper keeps_low keeps_high = record {
    before = λ k less. still k (inl (omega arith)) (elim (cases_lt from upto) [
      | inl some ↦ was_clean k (inl (omega (arith, keeps_low some)))
      | inr none ↦ elim (cases_lt k from) [ inl b ↦ was_clean k (inl b) | inr a ↦ was_clean k (inr (omega arith)) ]
    ]);
    behind = λ k far. still k (inr (omega arith)) (elim (cases_lt from upto) [
      | inl some ↦ was_clean k (inr (omega (arith, keeps_high some)))
      | inr none ↦ elim (cases_lt k from) [ inl b ↦ was_clean k (inl b) | inr a ↦ was_clean k (inr (omega arith)) ]
    ]);
  }

clean_at : (from upto : ℕ) (marks : List Mark) → IsCleanBut from upto marks → (k : ℕ) → (k < from) ⊎ (upto ≤ k)
    → get_or marks k Clean ≡ Clean
clean_at from upto marks clean k (inl less) = clean_of (get_or marks k Clean) (clean.before k less)
clean_at from upto marks clean k (inr far) = clean_of (get_or marks k Clean) (clean.behind k far)

-- what was marked is cleared
module _ (from upto : ℕ) (marks : List Mark) (clean : IsCleanBut from upto marks) (rises : from ≤ upto)
    (within : upto ≤ length marks) where
  pub cleared : patch marks from (replicate (upto - from) Clean) ≡ replicate (length marks) Clean
  cleared =
      let le : from ≤ length marks = omega arith in
      let reps = length-replicate (upto - from) Clean in
      let long = length-patch marks (replicate (upto - from) Clean) from le in
      let all = length-replicate (length marks) Clean in
      ext_get_or Clean (patch marks from (replicate (upto - from) Clean)) (replicate (length marks) Clean)
      (omega (arith, long, reps, all))
      (λ k less. clean_place k le (omega (arith, long, reps)) (cases_lt k from))
    where
      clean_behind : (k : ℕ) → from ≤ length marks → from ≤ k → (k < upto) ⊎ (upto ≤ k)
          → get_or (patch marks from (replicate (upto - from) Clean)) k Clean ≡ Clean
      clean_behind k le far (inl inside) =
          get_or-patch_inside marks (replicate (upto - from) Clean) from k Clean le far
          (omega (arith, length-replicate (upto - from) Clean))
          ∙ get_or-replicate (upto - from) (k - from) Clean Clean (omega arith)
      clean_behind k le far (inr past) =
          get_or-patch_after marks (replicate (upto - from) Clean) from k Clean le
          (omega (arith, length-replicate (upto - from) Clean))
          ∙ clean_at from upto marks clean k (inr past)

      clean_place : (k : ℕ) → from ≤ length marks → k < length marks → (k < from) ⊎ (from ≤ k)
          → get_or (patch marks from (replicate (upto - from) Clean)) k Clean
          ≡ get_or (replicate (length marks) Clean) k Clean
      clean_place k le here (inl less) =
          get_or-patch_before marks (replicate (upto - from) Clean) from k Clean le less
          ∙ clean_at from upto marks clean k (inl less)
          ∙ sym (get_or-replicate (length marks) k Clean Clean here)
      clean_place k le here (inr far) =
          clean_behind k le far (cases_lt k upto) ∙ sym (get_or-replicate (length marks) k Clean Clean here)

  -- and there are so many clean marks
  pub all_cleared : (count : ℕ) (middle new : List Mark) → length marks ≤ count
      → middle ≡ patch marks from (replicate (upto - from) Clean)
      → new ≡ middle ++ replicate (count - length middle) Clean → new ≡ replicate count Clean
  all_cleared count middle new more is behind =
      let front : middle ≡ replicate (length marks) Clean = is ∙ cleared in
      let long : length middle ≡ length marks = ap length front ∙ length-replicate (length marks) Clean in
      behind
      ∙ (λ i. front i ++ replicate (count - long i) Clean)
      ∙ replicate-append-replicate (length marks) (count - length marks) Clean
      ∙ ap (λ (n : ℕ). replicate n Clean) (omega arith)

-- all is synced
pub settles : (bytes synced : List ℕ) (marks : List Mark) → synced ≡ bytes → marks ≡ replicate (length bytes) Clean
    → (let new : Held = record { synced = synced; marks = marks; bytes = bytes } in new ≡ settled bytes)
settles bytes synced marks same all_clear = λ i. record { synced = same i; marks = all_clear i; bytes = bytes }

-- what stands there might have been left before
pub within_settled : (held : Held) → IsMarked held → Within (Leaves held) (Leaves (settled held.bytes))
within_settled held marked c left =
    subst (λ (l : List ℕ). Leaves held l) (sym (only-settled held.bytes c left)) (record {
      no_shorter = marked.no_shorter;
      no_longer = omega arith;
      same = λ k less is. refl;
    })
