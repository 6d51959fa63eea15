-- Objects found so far, in the order in which they were found.
use Rattle.std.specs.Prelude.{◌≡◌, ◌⊎◌, ◌↔◌, List, ◌++◌, length, Contains, IsTrue}
use Rattle.std.specs.BTreeSet.{BTreeSet, btree_set_len, contains, IsOrdered}
use Rattle.ficus_ids.specs.declared.id.Id.{Id}
use Rattle.ficus_ids.specs.Id.{id_cmp}

-- the set has the objects of the list, each of which stands there once
pub record IsTracked (set : BTreeSet Id) (order : List Id) : Type 0 where
  pub ordered : IsOrdered id_cmp set
  pub same : (object : Id) → IsTrue (contains id_cmp set object) ↔ Contains order object
  pub count : btree_set_len set ≡ length order

-- the list goes on behind what it was, and has these objects besides
pub record Gains (old new : List Id) (gained : Id → Type 0) : Type 0 where
  pub more : List Id
  pub appended : new ≡ old ++ more
  pub objects : (object : Id) → Contains new object ↔ (Contains old object ⊎ gained object)
