-- What the live entries of a list say of the ways between objects.
use Rattle.std.specs.Prelude.{◌≡◌, List, Contains}
use Rattle.ficus_ids.specs.declared.id.Id.{Id}
use Rattle.ficus_entry.specs.declared.entry.Entry.{Entry}
use Rattle.ficus_entry.specs.declared.entry.State.TheVariants.{Live}

-- a live entry of the list lies in the directory and leads to the object
pub record LeadsIn (entries : List Entry) (dir object : Id) : Type 0 where
  pub entry : Entry
  pub inside : Contains entries entry
  pub live : entry.state ≡ Live
  pub in_dir : entry.dir ≡ dir
  pub leads : entry.target ≡ object
