-- What lies in a directory.
use Rattle.std.specs.Prelude.{◌≡◌, ◌≢◌, ◌≤◌, ◌<◌, ℕ, List, Contains}
use Rattle.ficus_ids.specs.declared.id.Id.{Id}
use Rattle.ficus_entry.specs.declared.entry.Entry.{Entry}
use Rattle.ficus_entry.specs.declared.entry.State.TheVariants.{Live}
use Rattle.ficus_entry.specs.declared.inside.Leading.{Leading}
use Rattle.ficus_entry.specs.declared.inside.Leading.TheVariants.{Anywhere, To, Besides}
use Rattle.ficus_entry.specs.declared.scan.Asked.{Asked}
use Rattle.ficus_entry.specs.declared.scan.Asked.TheVariants.{InDirectory, ToObject}
use Rattle.ficus_index.specs.declared.place.Place.{Place}
use Rattle.ficus_index.specs.Place.{order_of}
use Rattle.ficus_entry.specs.Place.{place_of}

-- the entry is live, lies in the directory and has the name
pub record IsNamedIn (entry : Entry) (dir : Id) (name : List ℕ) : Type 0 where
  pub live : entry.state ≡ Live
  pub in_dir : entry.dir ≡ dir
  pub named : entry.name ≡ name

-- the target is one of those that are asked for
abbrev pub Leads : Leading → Id → Type 0
Leads Anywhere target = Unit {0}
Leads (To wanted) target = target ≡ wanted
Leads (Besides other) target = target ≢ other

-- a live entry of the list lies in the directory
pub record HasLiveInside (entries : List Entry) (dir : Id) : Type 0 where
  pub entry : Entry
  pub inside : Contains entries entry
  pub live : entry.state ≡ Live
  pub in_dir : entry.dir ≡ dir

-- an entry of the list has the identifier and is so
pub record HoldsSuch (is : Entry → Type 0) (entries : List Entry) (id : Id) : Type 0 where
  pub entry : Entry
  pub inside : Contains entries entry
  pub so : is entry
  pub has_id : entry.id ≡ id

-- an entry of the list, live or not, lies in the directory and has the identifier
abbrev pub LiesInside : List Entry → Id → Id → Type 0
LiesInside entries dir id = HoldsSuch (λ entry. entry.dir ≡ dir) entries id

-- an entry of the list, live or not, leads to the object and has the identifier
abbrev pub LeadsThere : List Entry → Id → Id → Type 0
LeadsThere entries object id = HoldsSuch (λ entry. entry.target ≡ object) entries id

-- the entry, live or not, lies in the directory or leads to the object, as is asked
abbrev pub IsAsked : Asked → Entry → Type 0
IsAsked (InDirectory dir) entry = entry.dir ≡ dir
IsAsked (ToObject object) entry = entry.target ≡ object

-- the place of the entry is from one place up to another
pub record LiesBetween (from to : Place) (entry : Entry) : Type 0 where
  pub at_least : order_of from ≤ order_of (place_of entry)
  pub below : order_of (place_of entry) < order_of to

-- the entry is live, lies in the directory, has the name and leads to the object
pub record IsNameOf (dir : Id) (name : List ℕ) (target : Id) (entry : Entry) : Type 0 where
  pub named : IsNamedIn entry dir name
  pub leads : entry.target ≡ target

-- the entry is live and leads to the object from another directory or under another name
pub record IsOtherName (dir : Id) (name : List ℕ) (target : Id) (entry : Entry) : Type 0 where
  pub live : entry.state ≡ Live
  pub leads : entry.target ≡ target
  pub other : entry.dir ≡ dir → entry.name ≡ name → ⊥

-- an entry of the list is such
abbrev pub HasOtherName : List Entry → Id → List ℕ → Id → Type 0
HasOtherName entries dir name target = (entry : Entry) × Contains entries entry × IsOtherName dir name target entry

-- the entry is live and leads to the object
pub record IsNameFor (entry : Entry) (object : Id) : Type 0 where
  pub live : entry.state ≡ Live
  pub leads : entry.target ≡ object

-- a live entry of the list leads to the object
pub record IsNamedBy (entries : List Entry) (object : Id) : Type 0 where
  pub entry : Entry
  pub inside : Contains entries entry
  pub live : entry.state ≡ Live
  pub leads : entry.target ≡ object
