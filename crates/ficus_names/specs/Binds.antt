-- What the live entries of a list say of a directory.
use Rattle.std.specs.Prelude.{◌≡◌, ℕ, List, Contains}
use Rattle.ficus_ids.specs.declared.id.Id.{Id}
use Rattle.ficus_entry.specs.declared.entry.Entry.{Entry}
use Rattle.ficus_entry.specs.declared.entry.State.TheVariants.{Live}

-- a live entry of the list lies in the directory, has the name and leads to the object
pub record BindsIn (entries : List Entry) (dir : Id) (name : List ℕ) (target : Id) : Type 0 where
  pub entry : Entry
  pub inside : Contains entries entry
  pub live : entry.state ≡ Live
  pub in_dir : entry.dir ≡ dir
  pub named : entry.name ≡ name
  pub leads : entry.target ≡ target

-- the entry of the list with the identifier is live and lies in the directory
pub record IsLiveIn (entries : List Entry) (id dir : Id) (entry : Entry) : Type 0 where
  pub inside : Contains entries entry
  pub live : entry.state ≡ Live
  pub in_dir : entry.dir ≡ dir
  pub has_id : entry.id ≡ id
