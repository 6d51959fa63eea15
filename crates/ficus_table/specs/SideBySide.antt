-- Two lists of rows side by side.
use Rattle.std.specs.Prelude.{◌≡◌, ℕ, ◌+◌, ◌-◌, ◌<◌, List, [], ◌∷◌, ◌++◌, length, Option, Some, None, Contains}
use Rattle.std.specs.Ordering.{MatchOrdering}
use Rattle.std.specs.declared.cmp.Ordering.TheVariants.{Less}
use Rattle.ficus_ids.specs.declared.id.Id.{Id}
use Rattle.ficus_ids.specs.Id.{id_cmp}
use Rattle.ficus_ids.specs.Rising.{IsRisingBy, HoldsUnderBy}

-- the rows of two tables, and those of each that a walk has passed
pub record Sides (S : Type 0) : Type 0 where
  pub mine : List S
  pub theirs : List S
  pub mine_passed : List S
  pub theirs_passed : List S

-- both lists rise
pub record AreRising {S : Type 0} (id_of : S → Id) (sides : Sides S) : Type 0 where
  pub mine : IsRisingBy id_of sides.mine
  pub theirs : IsRisingBy id_of sides.theirs

-- how many rows the walk has before it
abbrev pub left : {S : Type 0} → Sides S → ℕ
left sides =
    (length sides.mine - length sides.mine_passed) + (length sides.theirs - length sides.theirs_passed)

-- the item, if there is one, as a list
abbrev pub as_list : {S : Type 0} → Option S → List S
as_list None = []
as_list (Some item) = item ∷ []

-- the walk passes an identifier that is above all that it has passed: these are what the two lists hold under it, and
-- one of them is there
pub record Passes {S : Type 0} (id_of : S → Id) (old new : Sides S) (mine theirs : Option S) : Type 0 where
  pub id : Id
  pub mine_holds : HoldsUnderBy id_of old.mine id mine
  pub theirs_holds : HoldsUnderBy id_of old.theirs id theirs
  pub above_mine : (item : S) → Contains old.mine_passed item → id_cmp (id_of item) id ≡ Less
  pub above_theirs : (item : S) → Contains old.theirs_passed item → id_cmp (id_of item) id ≡ Less
  pub is : new ≡ record old {
    mine_passed = old.mine_passed ++ as_list mine;
    theirs_passed = old.theirs_passed ++ as_list theirs;
  }
  pub fewer : left new < left old

-- the walk has passed all rows
pub record ArePassed {S : Type 0} (sides : Sides S) : Type 0 where
  pub mine : sides.mine_passed ≡ sides.mine
  pub theirs : sides.theirs_passed ≡ sides.theirs

-- of the two items that come next, those with the lower identifier
abbrev pub AreLowest : {S : Type 0} → (S → Id) → Option S → Option S → Option S → Option S → Type 0
AreLowest id_of (Some mine) (Some theirs) low_mine low_theirs =
    MatchOrdering (id_cmp (id_of mine) (id_of theirs)) ((low_mine ≡ Some mine) × (low_theirs ≡ None))
    ((low_mine ≡ Some mine) × (low_theirs ≡ Some theirs)) ((low_mine ≡ None) × (low_theirs ≡ Some theirs))
AreLowest id_of (Some mine) None low_mine low_theirs = (low_mine ≡ Some mine) × (low_theirs ≡ None)
AreLowest id_of None theirs low_mine low_theirs = (low_mine ≡ None) × (low_theirs ≡ theirs)
