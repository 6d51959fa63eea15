-- A list without two items of one rank can be put in order.
use Rattle.std.proofs.Common.{◌≡◌, ◌⊎◌, List, [], ◌∷◌, inl, inr, subst, sym, arith}
use Rattle.std.specs.Prelude.{AllPairs, Contains}
use Rattle.std.proofs.lemmas.List.Elements.{All-contains_itself, All-weaker}
use Rattle.std.proofs.lemmas.List.Kept.{AllPairs-cons}
use Rattle.ficus_ids.specs.ListLaws.{first_below, here, here_or_there, not_inside_none, rest_rises, there}

module _ {X : Type 0} (Below Same : X → X → Type 0) (compare : (x y : X) → Below x y ⊎ (Same x y ⊎ Below y x))
    (through : (x y z : X) → Below x y → Below y z → Below x z) where
  -- the list rises and has the items of the other and this one
  record IsInserted (x : X) (xs ys : List X) : Type 0 where
    rises : AllPairs Below ys
    each : (y : X) → Contains ys y → (y ≡ x) ⊎ Contains xs y
    first : Contains ys x
    all : (y : X) → Contains xs y → Contains ys y

  abbrev pub NoneSame : X → List X → Type 0
  NoneSame x xs = (y : X) → Contains xs y → Same x y → x ≡ y

  above : (x : X) (xs : List X) → ((y : X) → Contains xs y → Below x y) → AllPairs Below xs → AllPairs Below (x ∷ xs)
  above x xs below rises = AllPairs-cons Below x xs
      (All-weaker (Contains xs) (Below x) below xs (All-contains_itself xs)) rises

  -- where the rest of a list is done, so is the list
  module _ (x y : X) (xs : List X) (rises : AllPairs Below (y ∷ xs)) (none : NoneSame x (y ∷ xs))
      (rest : (ys : List X) × IsInserted x xs ys) where
    over : Below x y → (z : X) → (z ≡ y) ⊎ Contains xs z → Below x z
    over below z (inl is) = subst (Below x) (sym is) below
    over below z (inr later) = through x y z below (first_below Below y xs z rises later)

    under : Below y x → (z : X) → (z ≡ x) ⊎ Contains xs z → Below y z
    under below z (inl is) = subst (Below y) (sym is) below
    under below z (inr later) = first_below Below y xs z rises later

    moved : (z : X) → (z ≡ x) ⊎ Contains xs z → (z ≡ x) ⊎ Contains (y ∷ xs) z
    moved z (inl is) = inl is
    moved z (inr later) = inr (there y z xs later)

    behind : (z : X) → (z ≡ y) ⊎ Contains rest.0 z → (z ≡ x) ⊎ Contains (y ∷ xs) z
    behind z (inl is) = inr (subst (Contains (y ∷ xs)) (sym is) (here y xs))
    behind z (inr later) = moved z (rest.1.each z later)

    kept : (z : X) → (z ≡ y) ⊎ Contains xs z → Contains (y ∷ rest.0) z
    kept z (inl is) = subst (Contains (y ∷ rest.0)) (sym is) (here y rest.0)
    kept z (inr later) = there y z rest.0 (rest.1.all z later)

    placed : Below x y ⊎ (Same x y ⊎ Below y x) → (ys : List X) × IsInserted x (y ∷ xs) ys
    placed (inl below) = (
      x ∷ y ∷ xs,
      record {
        rises = above x (y ∷ xs) (λ z inside. over below z (here_or_there y z xs inside)) rises;
        each = λ z inside. here_or_there x z (y ∷ xs) inside;
        first = here x (y ∷ xs);
        all = λ z inside. there x z (y ∷ xs) inside;
      },
    )
    placed (inr (inl same)) = (
      y ∷ xs,
      record {
        rises = rises;
        each = λ z inside. inr inside;
        first = subst (Contains (y ∷ xs)) (sym (none y (here y xs) same)) (here y xs);
        all = λ z inside. inside;
      },
    )
    placed (inr (inr below)) = (
      y ∷ rest.0,
      record {
        rises = above y rest.0 (λ z inside. under below z (rest.1.each z inside)) rest.1.rises;
        each = λ z inside. behind z (here_or_there y z rest.0 inside);
        first = there y x rest.0 rest.1.first;
        all = λ z inside. kept z (here_or_there y z xs inside);
      },
    )

  inserted : (x : X) (xs : List X) → AllPairs Below xs → NoneSame x xs → (ys : List X) × IsInserted x xs ys
  inserted x [] rises none = (
    x ∷ [],
    record {
      rises = above x [] (λ y inside. absurd (not_inside_none y inside)) rises;
      each = λ y inside. here_or_there x y [] inside;
      first = here x [];
      all = λ y inside. absurd (not_inside_none y inside);
    },
  )
  inserted x (y ∷ xs) rises none =
      placed x y xs rises none
      (inserted x xs (rest_rises Below y xs rises) (λ z inside. none z (there y z xs inside))) (compare x y)

  -- the list rises and has the items of the other
  pub record IsSorted (xs ys : List X) : Type 0 where
    pub rises : AllPairs Below ys
    pub each : (x : X) → Contains ys x → Contains xs x
    pub all : (x : X) → Contains xs x → Contains ys x

  module _ (x : X) (xs : List X) (none : (y : X) → Contains (x ∷ xs) y → NoneSame y (x ∷ xs))
      (rest : (ys : List X) × IsSorted xs ys) where
    ys : (ys : List X) × IsInserted x rest.0 ys
    ys = inserted x rest.0 rest.1.rises (λ y inside. none x (here x xs) y (there x y xs (rest.1.each y inside)))

    from : (y : X) → (y ≡ x) ⊎ Contains rest.0 y → Contains (x ∷ xs) y
    from y (inl is) = subst (Contains (x ∷ xs)) (sym is) (here x xs)
    from y (inr later) = there x y xs (rest.1.each y later)

    into : (y : X) → (y ≡ x) ⊎ Contains xs y → Contains ys.0 y
    into y (inl is) = subst (Contains ys.0) (sym is) ys.1.first
    into y (inr later) = ys.1.all y (rest.1.all y later)

    with_first : (ys : List X) × IsSorted (x ∷ xs) ys
    with_first = (
      ys.0,
      record {
        rises = ys.1.rises;
        each = λ y inside. from y (ys.1.each y inside);
        all = λ y inside. into y (here_or_there x y xs inside);
      },
    )

  pub sorted : (xs : List X) → ((x : X) → Contains xs x → NoneSame x xs) → (ys : List X) × IsSorted xs ys
  sorted [] none = (
    [],
    record {
      rises = λ one other d before within. absurd (omega arith);
      each = λ x inside. inside;
      all = λ x inside. inside;
    },
  )
  sorted (x ∷ xs) none =
      with_first x xs none
      (sorted xs (λ y inside z inside_too. none y (there x y xs inside) z (there x z xs inside_too)))
