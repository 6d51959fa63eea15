-- What stands at the positions of a history, gathered in a list by identifier.
use Rattle.std.proofs.Common.{◌≡◌, ◌⊎◌, ℕ, zero, suc, ◌<◌, List, [], ◌∷◌, inl, inr, refl, subst, sym, arith}
use Rattle.std.specs.Prelude.{Contains}
use Rattle.std.specs.declared.cmp.Ordering.{Ordering}
use Rattle.std.specs.declared.cmp.Ordering.TheVariants.{Less, Equal, Greater}
use Rattle.std.proofs.lemmas.Bool.{cases_eq}
use Rattle.ficus_ids.specs.Id.{id_cmp}
use Rattle.ficus_ids.specs.IdLaws.{id_cmp-Equal, id_cmp-flip_back, id_cmp_total}
use Rattle.ficus_ids.specs.ListLaws.{here, here_or_there, not_inside_none, there}
use Rattle.ficus_ids.specs.Rising.{IsRisingBy}
use Rattle.ficus_ids.specs.declared.id.Id.{Id}
use Rattle.ficus_table_laws.proofs.Sorting.{sorted}

-- in each of these an item may stand at a position, and which one is decided
module _ {X : Type 0} (Stands : ℕ → X → Type 0)
    (find : (position : ℕ) → ((x : X) × Stands position x) ⊎ ((x : X) → Stands position x → ⊥)) where
  -- an item of the list stands at the position
  pub record IsGathered (xs : List X) (position : ℕ) : Type 0 where
    pub item : X
    pub inside : Contains xs item
    pub stands : Stands position item

  -- each item of the list stands somewhere, and where one stands below the bound the list has one that does
  pub record Gathered (bound : ℕ) : Type 0 where
    pub items : List X
    pub each : (x : X) → Contains items x → (position : ℕ) × Stands position x
    pub all : (position : ℕ) (x : X) → position < bound → Stands position x → IsGathered items position

  pub gathered : (bound : ℕ) → Gathered bound
  gathered zero = record {
    items = [];
    each = λ x inside. absurd (not_inside_none x inside);
    all = λ position x within stands. absurd (omega arith);
  }
  gathered (suc bound) = go (find bound) (gathered bound)
    where
      go : ((x : X) × Stands bound x) ⊎ ((x : X) → Stands bound x → ⊥) → Gathered bound → Gathered (suc bound)
      go (inr none) rest = record {
        items = rest.items;
        each = rest.each;
        all = λ position x within stands. old position x (cases_eq position bound) within stands;
      }
        where
          old : (position : ℕ) (x : X) → (position ≡ bound) ⊎ (position ≡ bound → ⊥) → position < suc bound →
              Stands position x → IsGathered rest.items position
          old position x (inl end) within stands = absurd (none x (subst (λ at. Stands at x) end stands))
          old position x (inr other) within stands = rest.all position x (omega (arith, other, within)) stands
      go (inl (item, at)) rest = record {
        items = item ∷ rest.items;
        each = λ x inside. of x (here_or_there item x rest.items inside);
        all = λ position x within stands. new position x (cases_eq position bound) within stands;
      }
        where
          of : (x : X) → (x ≡ item) ⊎ Contains rest.items x → (position : ℕ) × Stands position x
          of x (inl is) = (bound, subst (Stands bound) (sym is) at)
          of x (inr later) = rest.each x later

          behind : {position : ℕ} → IsGathered rest.items position → IsGathered (item ∷ rest.items) position
          behind g = record { item = g.item; inside = there item g.item rest.items g.inside; stands = g.stands }

          new : (position : ℕ) (x : X) → (position ≡ bound) ⊎ (position ≡ bound → ⊥) → position < suc bound →
              Stands position x → IsGathered (item ∷ rest.items) position
          new position x (inl end) within stands = record {
            item = item;
            inside = here item rest.items;
            stands = subst (λ p. Stands p item) (sym end) at;
          }
          new position x (inr other) within stands = behind (rest.all position x (omega (arith, other, within)) stands)

-- items with one identifier
module _ {X : Type 0} (id_of : X → Id) where
  abbrev IsBelow : X → X → Type 0
  IsBelow x y = id_cmp (id_of x) (id_of y) ≡ Less

  abbrev pub HaveOneId : X → X → Type 0
  HaveOneId x y = id_of x ≡ id_of y

  compared : (x y : X) → IsBelow x y ⊎ (HaveOneId x y ⊎ IsBelow y x)
  compared x y = go (id_cmp (id_of x) (id_of y)) refl
    where
      go : (answer : Ordering) → id_cmp (id_of x) (id_of y) ≡ answer → IsBelow x y ⊎ (HaveOneId x y ⊎ IsBelow y x)
      go Less is = inl is
      go Equal is = inr (inl (id_cmp-Equal (id_of x) (id_of y) is))
      go Greater is = inr (inr (id_cmp-flip_back (id_of x) (id_of y) is))

  -- the same items, rising
  pub record IsInOrder (xs ys : List X) : Type 0 where
    pub rising : IsRisingBy id_of ys
    pub each : (x : X) → Contains ys x → Contains xs x
    pub all : (x : X) → Contains xs x → Contains ys x

  pub in_order : (xs : List X) →
      ((x y : X) → Contains xs x → Contains xs y → id_of x ≡ id_of y → x ≡ y) → (ys : List X) × IsInOrder xs ys
  in_order xs one =
      let ys = sorted IsBelow HaveOneId compared
      (λ x y z. id_cmp_total.trans (id_of x) (id_of y) (id_of z))
      xs (λ x inside y inside_too. one x y inside inside_too) in
      (ys.0, record { rising = record { each = ys.1.rises }; each = ys.1.each; all = ys.1.all })
