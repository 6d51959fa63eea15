-- Lists that are made of some items of others.
use Rattle.std.specs.Prelude.{◌↔◌, List, Contains}

-- what is made of an item of the list
pub record IsMadeOf {X Y : Type 0} (makes : X → Y → Type 0) (items : List X) (made : Y) : Type 0 where
  pub item : X
  pub inside : Contains items item
  pub makes_it : makes item made

-- the list has what is made of the items, and nothing else
pub record AreMadeOf {X Y : Type 0} (makes : X → Y → Type 0) (items : List X) (list : List Y) : Type 0 where
  pub all : (made : Y) → Contains list made ↔ IsMadeOf makes items made
