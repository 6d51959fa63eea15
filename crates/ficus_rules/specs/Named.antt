-- The entries of a name: two replicas may each have given a file one name, and then one shown name is two entries.
use Rattle.std.specs.Prelude.{◌≡◌, ◌↔◌, ℕ, List, Contains}
use Rattle.ficus_ids.specs.Rising.{IsRisingBy}
use Rattle.ficus_ids.specs.declared.id.Id.{Id}
use Rattle.ficus_model.specs.Live.{ModelEntry}
use Rattle.ficus_rules.specs.View.{View, IsBoundIn}

-- the live entry with this identifier lies in the directory, has the name and leads to the object
pub record IsBoundByIn (view : View) (id dir : Id) (name : List ℕ) (target : Id) : Type 0 where
  pub bound : IsBoundIn view dir name target
  pub by : bound.entry.id ≡ id

-- the identifiers of exactly the live entries of the directory that have the name and lead to the object, rising
pub record AreNamedIn (view : View) (dir : Id) (name : List ℕ) (target : Id) (entries : List Id) : Type 0 where
  pub all : (id : Id) → Contains entries id ↔ IsBoundByIn view id dir name target
  pub rising : IsRisingBy (λ (id : Id). id) entries

-- a live entry leads to the object from another directory or under another name
pub record HasOtherNameIn (view : View) (dir : Id) (name : List ℕ) (target : Id) : Type 0 where
  pub entry : ModelEntry
  pub live : view.live entry
  pub leads : entry.target ≡ target
  pub other : entry.dir ≡ dir → entry.name ≡ name → ⊥
