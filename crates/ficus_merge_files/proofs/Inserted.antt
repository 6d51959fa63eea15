-- An insert into a list in order, whatever the order is.
use Rattle.std.proofs.Common.{◌≡◌, ℕ, ◌+◌, ◌-◌, ◌<◌, ◌≤◌, List, length, get_or, subst, arith, inl, inr}
use Rattle.std.specs.Prelude.{AllPairs}
use Rattle.std.specs.List.{insert, AllWithin}
use Rattle.std.proofs.lemmas.Bool.{cases_order}
use Rattle.std.proofs.lemmas.List.Edits.{length-insert, get_or-insert_below, get_or-insert_at, get_or-insert_above}

module _ {X : Type 0} (Below : X → X → Type 0) (xs : List X) (index : ℕ) (y : X) where
  past : (k : ℕ) (d : X) → index ≤ length xs → index < k → get_or (insert xs index y) k d ≡ get_or xs (k - 1) d
  past k d fits behind =
      let back : k - 1 + 1 ≡ k = omega arith in
      subst (λ n. get_or (insert xs index y) n d ≡ get_or xs (k - 1) d) back (get_or-insert_above xs index y d (k - 1) (omega arith) fits)

  -- an item at its place keeps the order
  pub insert_rises : AllPairs Below xs → index ≤ length xs → AllWithin (λ x. Below x y) xs 0 index →
      AllWithin (λ x. Below y x) xs index (length xs) → AllPairs Below (insert xs index y)
  insert_rises rises fits above below i j d before within =
      let inside : j < length xs + 1 = omega (arith, within, length-insert xs index y fits) in
      elim (cases_order i index) [
        | inl here ↦ rw (here, get_or-insert_at xs index y d fits, past j d fits (omega arith)) (below (j - 1) d (omega arith) (omega arith))
        | inr (inl front) ↦ elim (cases_order j index) [
          | inl j_here ↦ rw (j_here, get_or-insert_below xs index y d i front, get_or-insert_at xs index y d fits) (above i d (omega arith) front)
          | inr (inl j_front) ↦ rw (get_or-insert_below xs index y d i front, get_or-insert_below xs index y d j j_front) (rises i j d before (omega arith))
          | inr (inr j_behind) ↦ rw (get_or-insert_below xs index y d i front, past j d fits j_behind) (rises i (j - 1) d (omega arith) (omega arith))
        ]
        | inr (inr behind) ↦ rw (past i d fits behind, past j d fits (omega arith)) (rises (i - 1) (j - 1) d (omega arith) (omega arith))
      ]
