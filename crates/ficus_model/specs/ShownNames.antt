-- Under which names the objects of one directory are shown. `binds name target` says that a live entry of the
-- directory has the name and leads to the object.
use Rattle.std.specs.Prelude.{◌≢◌, ◌↔◌, ℕ, Bool, List, IsTrue}
use Rattle.ficus_ids.specs.declared.id.Id.{Id}

-- the name leads to another object too
pub record HasOther (binds : List ℕ → Id → Type 0) (name : List ℕ) (target : Id) : Type 0 where
  pub other : Id
  pub bound : binds name other
  pub differs : other ≢ target

-- One object is shown under the plain name; several are each shown with their identifier as a suffix.
pub record IsShownAs (binds : List ℕ → Id → Type 0) (name : List ℕ) (target : Id) (suffixed : Bool) : Type 0 where
  pub bound : binds name target
  pub several : IsTrue suffixed ↔ HasOther binds name target
