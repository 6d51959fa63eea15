-- Plain facts on lists.
use Rattle.std.proofs.Common.{◌≡◌, ℕ, ◌+◌, ◌<◌, List, [], ◌∷◌, ◌++◌, length, get_or, take, All, append_assoc, append-nil}
use Rattle.std.specs.List.{flat_map}
use Rattle.std.proofs.lemmas.Grind.{flat_map-append}
use Rattle.std.proofs.lemmas.List.{take_more}
use Rattle.std.proofs.lemmas.List.Elements.{All-nil, All-append, All-head, All-tail}

pub cons_same : {A : Type 0} {x y : A} {xs ys : List A} → x ≡ y → xs ≡ ys → (x ∷ xs) ≡ (y ∷ ys)
cons_same e f = cc

pub head_same : {A : Type 0} {x y : A} {xs ys : List A} → x ∷ xs ≡ y ∷ ys → x ≡ y
head_same e = cc

pub tail_same : {A : Type 0} {x y : A} {xs ys : List A} → x ∷ xs ≡ y ∷ ys → xs ≡ ys
tail_same e = cc

-- what holds in each piece holds in all of them
pub All-flat_map : {X A : Type 0} (P : A → Type 0) (Q : X → Type 0) (f : X → List A) → ((x : X) → Q x → All P (f x)) →
    (xs : List X) → All Q xs → All P (flat_map f xs)
All-flat_map P Q f each [] all = All-nil P
All-flat_map P Q f each (x ∷ xs) all =
    All-append P (f x) (flat_map f xs) (each x (All-head Q x xs all)) (All-flat_map P Q f each xs (All-tail Q x xs all))

-- one more piece behind the first ones
pub flat_map_more : {X A : Type 0} (f : X → List A) (start : List A) (xs : List X) (i : ℕ) (d : X) → i < length xs →
    start ++ flat_map f (take (i + 1) xs) ≡ (start ++ flat_map f (take i xs)) ++ f (get_or xs i d)
flat_map_more f start xs i d within =
    rw (
      take_more xs i d within,
      flat_map-append f (take i xs) (get_or xs i d ∷ []),
      append-nil (f (get_or xs i d)),
      append_assoc,
    )
