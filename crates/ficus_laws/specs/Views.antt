-- Views of two histories compared.
use Rattle.std.specs.Prelude.{◌↔◌, ℕ, Bool, List}
use Rattle.ficus_ids.specs.declared.id.Id.{Id}
use Rattle.ficus_ids.specs.declared.kind.Kind.{Kind}
use Rattle.ficus_model.specs.declared.event.Event.{Event}
use Rattle.ficus_model.specs.View.{IsOrphan, IsDetached, ShowsName, IsShared, ShowsConflict, ShowsVersion}

-- the same view of two histories: the same names with the kinds of what they lead to, the same names and files in
-- conflict, versions, orphans and detached directories
pub record ShowSameView (H : List Event) (U : ℕ → Type 0) (K : List Event) (V : ℕ → Type 0) : Type 0 where
  pub names : (dir : Id) (name : List ℕ) (target : Id) (suffixed : Bool) (kind : Kind) →
      ShowsName H U dir name target suffixed kind ↔ ShowsName K V dir name target suffixed kind
  pub shared : (dir : Id) (name : List ℕ) → IsShared H U dir name ↔ IsShared K V dir name
  pub conflicts : (file : Id) → ShowsConflict H U file ↔ ShowsConflict K V file
  pub versions : (file : Id) (position : ℕ) → ShowsVersion H U file position ↔ ShowsVersion K V file position
  pub orphans : (object : Id) → IsOrphan H U object ↔ IsOrphan K V object
  pub detached : (object : Id) → IsDetached H U object ↔ IsDetached K V object
