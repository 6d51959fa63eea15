-- The items of trees that stand side by side.
use Rattle.std.proofs.Common.{◌≡◌, ℕ, ◌+◌, ◌-◌, ◌<◌, ◌≤◌, List, [], ◌∷◌, ◌++◌, suc, zero, length, get_or, set, take, drop, slice_get, Some, refl, sym, ap, add-one, ◌∙◌, arith, length-append, append_assoc, append-nil}
use Rattle.std.specs.List.{insert, remove, AllByRecursion}
use Rattle.std.proofs.lemmas.List.{take_more, take_all, take-take, drop-take, drop-drop, drop_at, take-append-le, length-take-le, drop_more, take-append-drop, set-append_left, set-append_right, set_split}
use Rattle.std.proofs.lemmas.List.Concat.{flat_map-append}
use Rattle.std.proofs.lemmas.List.Edits.{insert-append_left, insert-append_right, remove-append_left, remove-append_right}
use Rattle.std.proofs.lemmas.List.Elements.{All-from_recursion, recursion_from_All, All-get_or, All-take, All-drop, All-append, All-set}
use Rattle.ficus_persistent.specs.Shape.{Shape, joined, IsBelow, AreBelow}

pub joined-append : {T : Type 0} (left right : List (Shape T)) → joined (left ++ right) ≡ joined left ++ joined right
joined-append left right = flat_map-append (λ tree. tree.items) left right

pub joined_more : {T : Type 0} (row : List (Shape T)) (i : ℕ) (d : Shape T) → i < length row →
    joined (take (i + 1) row) ≡ joined (take i row) ++ (get_or row i d).items
joined_more row i d within =
    rw (take_more row i d within, joined-append (take i row) (get_or row i d ∷ []), append-nil) refl

pub length-joined_more : {T : Type 0} (row : List (Shape T)) (i : ℕ) (d : Shape T) → i < length row →
    length (joined (take (i + 1) row)) ≡ length (joined (take i row)) + length (get_or row i d).items
length-joined_more row i d within = ap length (joined_more row i d within)
    ∙ length-append (joined (take i row)) (get_or row i d).items

pub joined_all : {T : Type 0} (row : List (Shape T)) (i : ℕ) → length row ≤ i → joined (take i row) ≡ joined row
joined_all row i past = ap joined (take_all i row past)

-- the items in front of one of the trees, its own, and those behind it
pub joined_split : {T : Type 0} (row : List (Shape T)) (i : ℕ) (d : Shape T) → i < length row →
    joined row ≡ joined (take i row) ++ ((get_or row i d).items ++ joined (drop (i + 1) row))
joined_split row i d within =
    ap joined (sym (take-append-drop i row))
    ∙ joined-append (take i row) (drop i row)
    ∙ ap (λ rest. joined (take i row) ++ joined rest) (drop_more row i d within)

pub length_in_front : {T : Type 0} (row : List (Shape T)) (i : ℕ) → length (joined (take i row)) ≤ length (joined row)
length_in_front row i = omega (
  arith,
  ap length (ap joined (sym (take-append-drop i row)) ∙ joined-append (take i row) (drop i row)),
  length-append (joined (take i row)) (joined (drop i row)),
)

pub below_at : {T : Type 0} (height : ℕ) (row : List (Shape T)) (i : ℕ) (d : Shape T) → AreBelow height row →
    i < length row → IsBelow height (get_or row i d)
below_at height row i d level within =
    All-get_or (IsBelow height) row i d within (All-from_recursion (IsBelow height) row level)

pub below_take : {T : Type 0} (height : ℕ) (row : List (Shape T)) (i : ℕ) → AreBelow height row →
    AreBelow height (take i row)
below_take height row i level =
    recursion_from_All (IsBelow height) (take i row)
    (All-take (IsBelow height) i row (All-from_recursion (IsBelow height) row level))

pub below_drop : {T : Type 0} (height : ℕ) (row : List (Shape T)) (i : ℕ) → AreBelow height row →
    AreBelow height (drop i row)
below_drop height row i level =
    recursion_from_All (IsBelow height) (drop i row)
    (All-drop (IsBelow height) i row (All-from_recursion (IsBelow height) row level))

pub below_set : {T : Type 0} (height : ℕ) (row : List (Shape T)) (i : ℕ) (tree : Shape T) → AreBelow height row →
    IsBelow height tree → AreBelow height (set row i tree)
below_set height row i tree level below =
    recursion_from_All (IsBelow height) (set row i tree)
    (All-set (IsBelow height) row i tree below (All-from_recursion (IsBelow height) row level))

pub below-append : {T : Type 0} (height : ℕ) (left right : List (Shape T)) → AreBelow height left →
    AreBelow height right → AreBelow height (left ++ right)
below-append height left right first last =
    recursion_from_All (IsBelow height) (left ++ right)
    (All-append (IsBelow height) left right (All-from_recursion (IsBelow height) left first)
    (All-from_recursion (IsBelow height) right last))

-- an edit of one of three lists in a row
module _ {X : Type 0} (front middle behind : List X) where
  pub insert_between : (i : ℕ) (y : X) → length front ≤ i → i ≤ length front + length middle →
      insert (front ++ (middle ++ behind)) i y ≡ front ++ (insert middle (i - length front) y ++ behind)
  insert_between i y from to =
      insert-append_right front (middle ++ behind) (length front) i y refl from
      ∙ ap (λ rest. front ++ rest) (insert-append_left middle behind (i - length front) y (omega arith))

  pub set_between : (i : ℕ) (y : X) → length front ≤ i → i < length front + length middle →
      set (front ++ (middle ++ behind)) i y ≡ front ++ (set middle (i - length front) y ++ behind)
  set_between i y from to =
      set-append_right front (middle ++ behind) (length front) i y refl from
      ∙ ap (λ rest. front ++ rest) (set-append_left middle behind (i - length front) y (omega arith))

  pub remove_between : (i : ℕ) → length front ≤ i → i < length front + length middle →
      remove (front ++ (middle ++ behind)) i ≡ front ++ (remove middle (i - length front) ++ behind)
  remove_between i from to =
      remove-append_right front (middle ++ behind) (length front) i refl from
      ∙ ap (λ rest. front ++ rest) (remove-append_left middle behind (i - length front) (omega arith))

slice_get_front : {X : Type 0} (xs ys : List X) (i : ℕ) (x : X) → slice_get xs i ≡ Some x →
    slice_get (xs ++ ys) i ≡ Some x
slice_get_front [] ys i x is = absurd (cc)
slice_get_front (y ∷ xs) ys zero x is = is
slice_get_front (y ∷ xs) ys (suc i) x is = slice_get_front xs ys i x is

slice_get_behind : {X : Type 0} (xs ys : List X) (n i : ℕ) → length xs + i ≡ n →
    slice_get (xs ++ ys) n ≡ slice_get ys i
slice_get_behind [] ys n i at = let same : n ≡ i = omega arith in ap (λ k. slice_get ys k) same
slice_get_behind (y ∷ xs) ys zero i at = absurd (omega arith)
slice_get_behind (y ∷ xs) ys (suc n) i at = slice_get_behind xs ys n i (omega arith)

-- an item of one of the trees
pub at_in : {T : Type 0} (row : List (Shape T)) (i j n : ℕ) (d : Shape T) (x : T) → i < length row →
    length (joined (take i row)) + j ≡ n → slice_get (get_or row i d).items j ≡ Some x →
    slice_get (joined row) n ≡ Some x
at_in row i j n d x within at is =
    rw (joined_split row i d within)
    (slice_get_behind (joined (take i row)) ((get_or row i d).items ++ joined (drop (i + 1) row)) n j at
    ∙ slice_get_front (get_or row i d).items (joined (drop (i + 1) row)) j x is)

all_front : {X : Type 0} (P : X → Type 0) (left rest : List X) → AllByRecursion P (left ++ rest) →
    AllByRecursion P left
all_front P [] rest all = tt
all_front P (item ∷ left) rest all = (all.0, all_front P left rest all.1)

all_behind : {X : Type 0} (P : X → Type 0) (left rest : List X) → AllByRecursion P (left ++ rest) →
    AllByRecursion P rest
all_behind P [] rest all = all
all_behind P (item ∷ left) rest all = all_behind P left rest all.1

module _ {T : Type 0} (row : List (Shape T)) (i : ℕ) (d : Shape T) (within : i < length row) where
  -- other trees in place of one
  pub joined_spliced : (news : List (Shape T)) →
      joined (take i row ++ (news ++ drop (i + 1) row))
      ≡ joined (take i row) ++ (joined news ++ joined (drop (i + 1) row))
  joined_spliced news =
      joined-append (take i row) (news ++ drop (i + 1) row)
      ∙ ap (λ rest. joined (take i row) ++ rest) (joined-append news (drop (i + 1) row))

  pub joined_set : (tree : Shape T) →
      joined (set row i tree) ≡ joined (take i row) ++ (tree.items ++ joined (drop (i + 1) row))
  joined_set tree =
      ap joined (set_split row i tree within)
      ∙ joined-append (take i row) (tree ∷ drop (suc i) row)
      ∙ ap (λ n. joined (take i row) ++ (tree.items ++ joined (drop n row))) (sym (add-one i))

  module _ (j n : ℕ) (at : length (joined (take i row)) + j ≡ n) where
    long : length (joined (take (i + 1) row)) ≡ length (joined (take i row)) + length (get_or row i d).items
    long = length-joined_more row i d within

    there : n - length (joined (take i row)) ≡ j
    there = omega arith

    pub insert_in : n ≤ length (joined (take (i + 1) row)) → (news : List (Shape T)) (y : T) →
        joined news ≡ insert (get_or row i d).items j y →
        joined (take i row ++ (news ++ drop (i + 1) row)) ≡ insert (joined row) n y
    insert_in inside news y is =
        joined_spliced news
        ∙ ap (λ middle. joined (take i row) ++ (middle ++ joined (drop (i + 1) row))) is
        ∙ ap (λ k. joined (take i row) ++ (insert (get_or row i d).items k y ++ joined (drop (i + 1) row))) (sym there)
        ∙ sym (insert_between (joined (take i row)) (get_or row i d).items (joined (drop (i + 1) row)) n y (omega arith)
        (omega (arith, long)))
        ∙ ap (λ whole. insert whole n y) (sym (joined_split row i d within))

    pub set_in : n < length (joined (take (i + 1) row)) → (tree : Shape T) (y : T) →
        tree.items ≡ set (get_or row i d).items j y → joined (set row i tree) ≡ set (joined row) n y
    set_in inside tree y is =
        joined_set tree
        ∙ ap (λ middle. joined (take i row) ++ (middle ++ joined (drop (i + 1) row))) is
        ∙ ap (λ k. joined (take i row) ++ (set (get_or row i d).items k y ++ joined (drop (i + 1) row))) (sym there)
        ∙ sym (set_between (joined (take i row)) (get_or row i d).items (joined (drop (i + 1) row)) n y (omega arith)
        (omega (arith, long)))
        ∙ ap (λ whole. set whole n y) (sym (joined_split row i d within))

    pub remove_in : n < length (joined (take (i + 1) row)) → (less : List T) →
        less ≡ remove (get_or row i d).items j →
        joined (take i row) ++ (less ++ joined (drop (i + 1) row)) ≡ remove (joined row) n
    remove_in inside less is =
        ap (λ middle. joined (take i row) ++ (middle ++ joined (drop (i + 1) row))) is
        ∙ ap (λ k. joined (take i row) ++ (remove (get_or row i d).items k ++ joined (drop (i + 1) row))) (sym there)
        ∙ sym (remove_between (joined (take i row)) (get_or row i d).items (joined (drop (i + 1) row)) n (omega arith)
        (omega (arith, long)))
        ∙ ap (λ whole. remove whole n) (sym (joined_split row i d within))

-- of two rows, one behind the other
pub below_front : {T : Type 0} (height : ℕ) (left right : List (Shape T)) → AreBelow height (left ++ right) →
    AreBelow height left
below_front height [] right level = tt
below_front height (tree ∷ left) right level = (level.0, below_front height left right level.1)

pub below_behind : {T : Type 0} (height : ℕ) (left right : List (Shape T)) → AreBelow height (left ++ right) →
    AreBelow height right
below_behind height [] right level = level
below_behind height (tree ∷ left) right level = below_behind height left right level.1

-- what is so of each item is so of those of one of the trees
pub all_in : {T : Type 0} (P : T → Type 0) (row : List (Shape T)) (i : ℕ) (d : Shape T) → i < length row →
    AllByRecursion P (joined row) → AllByRecursion P (get_or row i d).items
all_in P [] i d within all = absurd (omega arith)
all_in P (tree ∷ row) zero d within all = all_front P tree.items (joined row) all
all_in P (tree ∷ row) (suc i) d within all = all_in P row i d (omega arith) (all_behind P tree.items (joined row) all)

-- a list with the part that follows
pub take_part : {X : Type 0} (xs part : List X) (from to : ℕ) → from ≤ to → part ≡ take (to - from) (drop from xs) →
    take from xs ++ part ≡ take to xs
take_part xs part from to order is =
    let at : from + (to - from) ≡ to = omega arith in
    rw is
    (ap (λ rest. take from xs ++ rest) (sym (drop-take from (to - from) xs))
    ∙ ap (λ front. front ++ drop from (take (from + (to - from)) xs)) (sym (take-take from (from + (to - from)) xs (omega arith)))
    ∙ take-append-drop from (take (from + (to - from)) xs)
    ∙ ap (λ n. take n xs) at)

-- what stands on both sides of the neighbour in front
without_front : {X : Type 0} (row : List X) (i : ℕ) → i + 1 ≤ length row →
    take i (remove row (i + 1)) ≡ take i row
without_front row i within =
    take-append-le i (take (i + 1) row) (drop (suc (i + 1)) row) (omega (arith, length-take-le (i + 1) row within))
    ∙ take-take i (i + 1) row (omega arith)

without_behind : {X : Type 0} (row : List X) (i : ℕ) → i + 1 ≤ length row →
    drop (i + 1) (remove row (i + 1)) ≡ drop (i + 2) row
without_behind row i within =
    drop_at (take (i + 1) row) (drop (suc (i + 1)) row) (i + 1) (length-take-le (i + 1) row within)
    ∙ (let at : suc (i + 1) ≡ i + 2 = omega arith in ap (λ n. drop n row) at)

-- a tree that became too low, put in front of its neighbour or behind it
module _ {T : Type 0} (row : List (Shape T)) (d : Shape T) (less : List T) (news : List (Shape T)) where
  pub mended_in_front : (rest : List (Shape T)) → 1 < length row → rest ≡ drop 1 row →
      joined news ≡ less ++ (get_or row 1 d).items →
      joined (news ++ drop 1 rest) ≡ less ++ joined (drop 1 row)
  mended_in_front rest more is grown =
      let behind : drop 1 rest ≡ drop 2 row = ap (λ xs. drop 1 xs) is ∙ drop-drop 1 1 row in
      joined-append news (drop 1 rest)
      ∙ ap (λ front. front ++ joined (drop 1 rest)) grown
      ∙ append_assoc less (get_or row 1 d).items (joined (drop 1 rest))
      ∙ ap (λ xs. less ++ ((get_or row 1 d).items ++ joined xs)) behind
      ∙ ap (λ xs. less ++ joined xs) (sym (drop_more row 1 d more))

  between_sides : (i : ℕ) → i + 1 < length row → joined news ≡ (get_or row i d).items ++ less →
      joined (take i row ++ (news ++ drop (i + 2) row)) ≡ joined (take (i + 1) row) ++ (less ++ joined (drop (i + 2) row))
  between_sides i within grown =
      joined-append (take i row) (news ++ drop (i + 2) row)
      ∙ ap (λ rest. joined (take i row) ++ rest)
      (joined-append news (drop (i + 2) row)
      ∙ ap (λ front. front ++ joined (drop (i + 2) row)) grown
      ∙ append_assoc (get_or row i d).items less (joined (drop (i + 2) row)))
      ∙ sym (append_assoc (joined (take i row)) (get_or row i d).items (less ++ joined (drop (i + 2) row)))
      ∙ ap (λ front. front ++ (less ++ joined (drop (i + 2) row))) (sym (joined_more row i d (omega arith)))

  pub mended_behind : (rest : List (Shape T)) (i child : ℕ) → i + 1 ≡ child → child < length row →
      rest ≡ remove row child → joined news ≡ (get_or row i d).items ++ less →
      joined (take i rest ++ (news ++ drop (i + 1) rest))
      ≡ joined (take child row) ++ (less ++ joined (drop (child + 1) row))
  mended_behind rest i child one within is grown =
      let left : rest ≡ remove row (i + 1) = rw one is in
      let front : take i rest ≡ take i row = ap (λ xs. take i xs) left ∙ without_front row i (omega arith) in
      let behind : drop (i + 1) rest ≡ drop (i + 2) row =
      ap (λ xs. drop (i + 1) xs) left ∙ without_behind row i (omega arith) in
      let two : i + 2 ≡ child + 1 = omega arith in
      rw (front, behind)
      (between_sides i (omega arith) grown
      ∙ ap (λ n. joined (take n row) ++ (less ++ joined (drop (i + 2) row))) one
      ∙ ap (λ n. joined (take child row) ++ (less ++ joined (drop n row))) two)
