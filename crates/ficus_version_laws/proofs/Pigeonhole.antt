-- A list has at most as many items as there are marks for them.
use Rattle.std.proofs.Common.{◌≡◌, ◌⊎◌, inl, inr, ℕ, suc, ◌<◌, ◌≤◌, List, [], ◌∷◌, length, arith, sym, subst}
use Rattle.std.specs.Prelude.{AllPairs, Contains}
use Rattle.std.proofs.lemmas.Bool.{cases_eq}
use Rattle.ficus_ids.specs.ListLaws.{here, there, here_or_there, not_inside_none, first_below, rest_rises}
use Rattle.ficus_model.specs.Vectors.{Counts}
use Rattle.ficus_model.specs.Vectors.Counts.{Nothing, OneMore, AsMany}
use Rattle.ficus_version_laws.proofs.Counting.{counts_same, counts_none}

-- no more are counted than lie below the bound
counts_bounded : {P : ℕ → Type 0} {bound count : ℕ} → Counts P bound count → count ≤ bound
counts_bounded Nothing = omega arith
counts_bounded (OneMore p s) = let l = counts_bounded s in omega arith
counts_bounded (AsMany p s) = let l = counts_bounded s in omega arith

-- one more number with the property counts one more
counts_insert : {P : ℕ → Type 0} {bound count : ℕ} (new : ℕ) → new < bound → (P new → ⊥) → Counts P bound count →
    Counts (λ number. (number ≡ new) ⊎ P number) bound (suc count)
counts_insert new l fresh Nothing = absurd (omega arith)
counts_insert {P} new l fresh (OneMore {bound = bound} p s) =
    let other : new ≡ bound → ⊥ = λ e. fresh (subst P (sym e) p) in
    OneMore (inr p) (counts_insert new (omega arith) fresh s)
counts_insert {P} new l fresh (AsMany {bound = bound} {count = count} q s) = go (cases_eq new bound) (λ m. counts_insert new m fresh s)
  where
    none : (new ≡ bound → ⊥) → (bound ≡ new) ⊎ P bound → ⊥
    none other (inl e) = other (sym e)
    none other (inr p) = q p

    old : {number : ℕ} → new ≡ bound → number < bound → (number ≡ new) ⊎ P number → P number
    old e m (inl f) = absurd (omega arith)
    old e m (inr p) = p

    go : (new ≡ bound) ⊎ (new ≡ bound → ⊥) →
        (new < bound → Counts (λ number. (number ≡ new) ⊎ P number) bound (suc count)) →
        Counts (λ number. (number ≡ new) ⊎ P number) (suc bound) (suc count)
    go (inl e) more = OneMore (inl (sym e)) (counts_same s (λ number m p. inr p) (λ number m p. old e m p))
    go (inr other) more = AsMany (λ z. none other z) (more (omega arith))

-- Each item of a list has one mark below the bound, and no two have the same.
module _ {X : Type 0} (Has : X → ℕ → Type 0) (one : (x : X) (mark again : ℕ) → Has x mark → Has x again → mark ≡ again)
    (bound : ℕ) where
  abbrev Differ : X → X → Type 0
  Differ x y = (mark : ℕ) → Has x mark → Has y mark → ⊥

  record IsMarked (xs : List X) (mark : ℕ) : Type 0 where
    item : X
    inside : Contains xs item
    has : Has item mark

  marks : (xs : List X) → ((x : X) → Contains xs x → (mark : ℕ) × (mark < bound) × Has x mark) → AllPairs Differ xs →
      Counts (IsMarked xs) bound (length xs)
  marks [] marked apart = counts_none bound (λ mark l m. not_inside_none m.item m.inside)
  marks (x ∷ xs) marked apart = counts_same
      (counts_insert first.0 first.1 fresh
      (marks xs (λ y inside. marked y (there x y xs inside)) (rest_rises Differ x xs apart)))
      (λ mark l m. join mark m)
      (λ mark l m. split mark m (here_or_there x m.item xs m.inside))
    where
      first : (mark : ℕ) × (mark < bound) × Has x mark
      first = marked x (here x xs)

      fresh : IsMarked xs first.0 → ⊥
      fresh m = first_below Differ x xs m.item apart m.inside first.0 first.2 m.has

      join : (mark : ℕ) → (mark ≡ first.0) ⊎ IsMarked xs mark → IsMarked (x ∷ xs) mark
      join mark (inl e) = record { item = x; inside = here x xs; has = subst (Has x) (sym e) first.2 }
      join mark (inr m) = record { item = m.item; inside = there x m.item xs m.inside; has = m.has }

      split : (mark : ℕ) (m : IsMarked (x ∷ xs) mark) → (m.item ≡ x) ⊎ Contains xs m.item →
          (mark ≡ first.0) ⊎ IsMarked xs mark
      split mark m (inl e) = inl (one x mark first.0 (subst (λ y. Has y mark) e m.has) first.2)
      split mark m (inr inside) = inr (record { item = m.item; inside = inside; has = m.has })

  -- so there are at most as many items
  pub at_most_marks : (xs : List X) → ((x : X) → Contains xs x → (mark : ℕ) × (mark < bound) × Has x mark) →
      AllPairs Differ xs → length xs ≤ bound
  at_most_marks xs marked apart = counts_bounded (marks xs marked apart)
