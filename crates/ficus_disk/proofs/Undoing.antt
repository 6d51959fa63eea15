-- What is kept where bytes are written over.
use Rattle.std.proofs.Common.{◌≡◌, ◌⊎◌, inl, inr, ℕ, ◌+◌, ◌-◌, ◌<◌, ◌≤◌, List, ◌++◌, length, get_or, take, drop, sym, ◌∙◌, ap, arith, length-append, length-take, length-drop}
use Rattle.std.proofs.lemmas.Bool.{cases_lt}
use Rattle.std.proofs.lemmas.List.{drop_at, ext_get_or, get_or-take, get_or-drop}
use Rattle.ficus_disk.specs.Bytes.{patch}
use Rattle.ficus_disk.proofs.Patches.{length-patch, patch-patch, get_or-patch_before, get_or-patch_inside, get_or-patch_after}

-- a range put where it stands
module _ (l : List ℕ) (at n : ℕ) (le : at ≤ length l) where
  abbrev part : List ℕ
  part = take n (drop at l)

  fits : at + length part ≤ length l
  fits = omega (arith, length-take n (drop at l), length-drop at l)

  place : (k : ℕ) → get_or (patch l at part) k 0 ≡ get_or l k 0
  place k = elim (cases_lt k at) [
    | inl before ↦ get_or-patch_before l part at k 0 le before
    | inr from ↦ elim (cases_lt k (at + length part)) [
      | inl inside ↦
          get_or-patch_inside l part at k 0 le from inside
          ∙ get_or-take n (drop at l) (k - at) 0 (omega (arith, length-take n (drop at l)))
          ∙ get_or-drop at l (k - at) 0
          ∙ ap (λ (i : ℕ). get_or l i 0) (let e : at + (k - at) ≡ k = omega arith in e)
      | inr after ↦ get_or-patch_after l part at k 0 le after
    ]
  ]

  patch-same : patch l at part ≡ l
  patch-same = ext_get_or 0 (patch l at part) l (omega (arith, length-patch l part at le, fits)) (λ k less. place k)

-- more is kept before
pub patch-before : (bytes kept : List ℕ) (at from : ℕ) → at ≤ from → from ≤ length bytes
    → patch bytes at (take (from - at) (drop at bytes) ++ kept) ≡ patch bytes from kept
patch-before bytes kept at from le within =
    let xs = take (from - at) (drop at bytes) in
    let here : at ≤ length bytes = omega arith in
    let ends : at + length xs ≡ from = omega (arith, length-take (from - at) (drop at bytes), length-drop at bytes) in
    sym (patch-patch bytes xs kept at here)
    ∙ (λ i. patch (patch-same bytes at (from - at) here i) (ends i) kept)

-- more is kept behind
pub patch-behind : (bytes kept : List ℕ) (from end n : ℕ) → end ≡ from + length kept → end ≤ length bytes
    → patch bytes from (kept ++ take n (drop end bytes)) ≡ patch bytes from kept
patch-behind bytes kept from end n is within =
    let here : from ≤ length bytes = omega (arith, is) in
    let front : length (take from bytes ++ kept) ≡ end =
    omega (arith, is, length-append (take from bytes) kept, length-take from bytes) in
    let far : drop end (patch bytes from kept) ≡ drop end bytes =
    (λ i. drop end (take from bytes ++ kept ++ drop (sym is i) bytes))
    ∙ drop_at (take from bytes ++ kept) (drop end bytes) end front in
    ap (λ (l : List ℕ). patch bytes from (kept ++ take n l)) (sym far)
    ∙ sym (patch-patch bytes kept (take n (drop end (patch bytes from kept))) from here)
    ∙ (λ i. patch (patch bytes from kept) (sym is i) (take n (drop end (patch bytes from kept))))
    ∙ patch-same (patch bytes from kept) end n (omega (arith, is, length-patch bytes kept from here))

-- what was synced stays, where all of it that is written over is kept
module _ (bytes over kept : List ℕ) (at from count : ℕ) (le : at ≤ length bytes) (counted : count ≤ length bytes)
    (within : from + length kept ≤ count)
    (covers : (k : ℕ) → at ≤ k → k < at + length over → k < count → (from ≤ k) × (k < from + length kept)) where
  abbrev written : List ℕ
  written = patch bytes at over

  long : length bytes ≤ length written
  long = omega (arith, length-patch bytes over at le)

  -- a synced place where nothing is kept
  stands : (k : ℕ) → k < count → (k < from) ⊎ (from + length kept ≤ k) → get_or written k 0 ≡ get_or bytes k 0
  stands k less outside = elim (cases_lt k at) [
    | inl before ↦ get_or-patch_before bytes over at k 0 le before
    | inr far ↦ elim (cases_lt k (at + length over)) [
      | inl inside ↦
          let in_kept = covers k far inside less in
          absurd (elim outside [ inl b ↦ omega (arith, in_kept.0) | inr a ↦ omega (arith, in_kept.1) ])
      | inr after ↦ get_or-patch_after bytes over at k 0 le after
    ]
  ]

  each : (k : ℕ) → k < count → get_or (patch written from kept) k 0 ≡ get_or (patch bytes from kept) k 0
  each k less = elim (cases_lt k from) [
    | inl before ↦
        get_or-patch_before written kept from k 0 (omega (arith, long)) before
        ∙ stands k less (inl before)
        ∙ sym (get_or-patch_before bytes kept from k 0 (omega arith) before)
    | inr far ↦ elim (cases_lt k (from + length kept)) [
      | inl inside ↦
          get_or-patch_inside written kept from k 0 (omega (arith, long)) far inside
          ∙ sym (get_or-patch_inside bytes kept from k 0 (omega arith) far inside)
      | inr after ↦
          get_or-patch_after written kept from k 0 (omega (arith, long)) after
          ∙ stands k less (inr after)
          ∙ sym (get_or-patch_after bytes kept from k 0 (omega arith) after)
    ]
  ]

  pub still_synced : take count (patch written from kept) ≡ take count (patch bytes from kept)
  still_synced =
      let old = length-patch bytes kept from (omega arith) in
      let new = length-patch written kept from (omega (arith, long)) in
      let old_taken = length-take count (patch bytes from kept) in
      let new_taken = length-take count (patch written from kept) in
      ext_get_or 0 (take count (patch written from kept)) (take count (patch bytes from kept))
      (omega (arith, old, new, old_taken, new_taken, long))
      (λ k less.
      let here : k < count = omega (arith, new_taken, less) in
      get_or-take count (patch written from kept) k 0 here
      ∙ each k here
      ∙ sym (get_or-take count (patch bytes from kept) k 0 here))
