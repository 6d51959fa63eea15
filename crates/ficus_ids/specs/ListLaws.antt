-- Laws of lists, whatever their items are, for the proofs of this crate and of those above it.
use Rattle.std.specs.Prelude.{◌≡◌, ◌⊎◌, List, [], ◌∷◌, AllPairs, Contains, refl}
use Rattle.std.proofs.Common.{zero, suc, map, arith, ap, sym, ◌∙◌, subst, inl, inr}

-- membership, an item at a time
pub here : {X : Type 0} (x : X) (xs : List X) → Contains (x ∷ xs) x
here x xs = (0, omega arith, refl)

pub there : {X : Type 0} (x y : X) (xs : List X) → Contains xs y → Contains (x ∷ xs) y
there x y xs inside = (suc inside.0, omega arith, inside.2)

pub here_or_there : {X : Type 0} (x y : X) (xs : List X) → Contains (x ∷ xs) y → (y ≡ x) ⊎ Contains xs y
here_or_there x y xs (zero, within, is) = inl (sym is)
here_or_there x y xs (suc k, within, is) = inr (k, omega arith, is)

pub not_inside_none : {X : Type 0} (x : X) → Contains [] x → ⊥
not_inside_none x inside = omega arith

-- where items can be told apart, one is in a list or it isn't
pub contained_or_not : {X : Type 0} → ((a b : X) → (a ≡ b) ⊎ (a ≡ b → ⊥)) → (xs : List X) (x : X) →
    Contains xs x ⊎ (Contains xs x → ⊥)
contained_or_not same [] x = inr (not_inside_none x)
contained_or_not {X} same (first ∷ xs) x = go (same first x) (contained_or_not same xs x)
  where
    beside : (first ≡ x → ⊥) → (Contains xs x → ⊥) → (x ≡ first) ⊎ Contains xs x → ⊥
    beside differs none (inl is) = differs (sym is)
    beside differs none (inr later) = none later

    go : (first ≡ x) ⊎ (first ≡ x → ⊥) → Contains xs x ⊎ (Contains xs x → ⊥) →
        Contains (first ∷ xs) x ⊎ (Contains (first ∷ xs) x → ⊥)
    go (inl is) later = inl (subst (λ (y : X). Contains (first ∷ xs) y) is (here first xs))
    go (inr differs) (inl later) = inl (there first x xs later)
    go (inr differs) (inr none) = inr (λ inside. beside differs none (here_or_there first x xs inside))

-- what is made of the items of a list, and of no others, is in the mapped list
pub into_map : {X Y : Type 0} (f : X → Y) (xs : List X) (x : X) → Contains xs x → Contains (map f xs) (f x)
into_map f [] x inside = absurd (not_inside_none x inside)
into_map f (y ∷ xs) x inside =
    elim (here_or_there y x xs inside) [
      | inl is ↦ subst (λ z. Contains (f y ∷ map f xs) (f z)) (sym is) (here (f y) (map f xs))
      | inr later ↦ there (f y) (f x) (map f xs) (into_map f xs x later)
    ]

pub from_map : {X Y : Type 0} (f : X → Y) (xs : List X) (y : Y) → Contains (map f xs) y →
    (x : X) × Contains xs x × (f x ≡ y)
from_map f [] y inside = absurd (not_inside_none y inside)
from_map f (x ∷ xs) y inside =
    elim (here_or_there (f x) y (map f xs) inside) [
      | inl is ↦ (x, here x xs, sym is)
      | inr later ↦ let found = from_map f xs y later in (found.0, there x found.0 xs found.1, found.2)
    ]

-- lists in which each item is below all later ones
module _ {X : Type 0} (Below : X → X → Type 0) where
  -- the first item is below all others, and the others rise
  pub first_below : (x : X) (xs : List X) (y : X) → AllPairs Below (x ∷ xs) → Contains xs y → Below x y
  first_below x xs y rises inside =
      subst (Below x) inside.2 (rises 0 (suc inside.0) y (omega arith) (omega (arith, inside.1)))

  pub rest_rises : (x : X) (xs : List X) → AllPairs Below (x ∷ xs) → AllPairs Below xs
  rest_rises x xs rises one other d before within = rises (suc one) (suc other) d (omega arith) (omega arith)

  module _ (not_below_itself : (x : X) → Below x x → ⊥)
      (through : (x y z : X) → Below x y → Below y z → Below x z) where
    same_first : (x : X) (xs : List X) (y : X) (ys : List X) → AllPairs Below (x ∷ xs) → AllPairs Below (y ∷ ys) →
        Contains (y ∷ ys) x → Contains (x ∷ xs) y → x ≡ y
    same_first x xs y ys rises rises_too inside inside_too =
        elim (here_or_there y x ys inside) [
          | inl same ↦ same
          | inr later ↦
              elim (here_or_there x y xs inside_too) [
                | inl same ↦ sym same
                | inr later_too ↦ absurd (not_below_itself x
                    (through x y x (first_below x xs y rises later_too) (first_below y ys x rises_too later)))
              ]
        ]

    rest_inside : (x : X) (xs ys : List X) (z : X) → AllPairs Below (x ∷ xs) → Contains xs z → Contains (x ∷ ys) z →
        Contains ys z
    rest_inside x xs ys z rises inside inside_too =
        elim (here_or_there x z ys inside_too) [
          | inl same ↦ absurd (not_below_itself x (subst (Below x) same (first_below x xs z rises inside)))
          | inr later ↦ later
        ]

    -- those with the same items are the same list
    pub same_rising : (xs ys : List X) → AllPairs Below xs → AllPairs Below ys →
        ((z : X) → Contains xs z → Contains ys z) → ((z : X) → Contains ys z → Contains xs z) → xs ≡ ys
    same_rising [] [] rises rises_too into back = refl
    same_rising [] (y ∷ ys) rises rises_too into back = absurd (not_inside_none y (back y (here y ys)))
    same_rising (x ∷ xs) [] rises rises_too into back = absurd (not_inside_none x (into x (here x xs)))
    same_rising (x ∷ xs) (y ∷ ys) rises rises_too into back =
        let first : x ≡ y = same_first x xs y ys rises rises_too (into x (here x xs)) (back y (here y ys)) in
        let rises_here : AllPairs Below (x ∷ ys) = subst (λ z. AllPairs Below (z ∷ ys)) (sym first) rises_too in
        let rest = same_rising xs ys (rest_rises x xs rises) (rest_rises y ys rises_too)
        (λ z inside. rest_inside x xs ys z rises inside
        (subst (λ w. Contains (w ∷ ys) z) (sym first) (into z (there x z xs inside))))
        (λ z inside. rest_inside x ys xs z rises_here inside (back z (there y z ys inside))) in
        ap (λ z. z ∷ xs) first ∙ ap (λ zs. y ∷ zs) rest
