-- `rename`: what it answers.
use Rattle.std.specs.Prelude.{Result, Ok}
use Rattle.ficus_ids.specs.declared.refusal.Refusal.{Refusal}
use Rattle.ficus_ids.specs.declared.refusal.Refusal.TheVariants.{IntoSelf, Exists, Spent}
use Rattle.ficus_model.specs.declared.event.Op.{Op}
use Rattle.ficus_model.specs.declared.event.Op.TheVariants.{Move}
use Rattle.ficus_path.specs.declared.path.Path.{Path}
use Rattle.ficus_rules.specs.Named.{AreNamedIn}
use Rattle.ficus_rules.specs.Rule.{Then, Unless, Tells}
use Rattle.ficus_rules.specs.View.{View, IsDirectoryIn, IsTakenIn, IsWithinIn}
use Rattle.ficus_rules.specs.Walk.{Places, PlacesRule, last_name}

-- the object is a directory: what is refused further is known once what lies below it is found, and that takes memory
pub record NeedsSearch (view : View) (from path : Path) : Type 0 where
  pub places : Places
  pub walked : PlacesRule view from path (Ok places)
  pub directory : IsDirectoryIn view places.found.object

-- both walks; `intoself`; `exists`; `spent`; else a Move of the named entries
abbrev pub RenameRule : View → Path → Path → Result Op Refusal → Type 0
RenameRule view from path =
    Then (PlacesRule view from path) (λ places.
    Unless (IsWithinIn view places.found.object places.dir) IntoSelf (
    Unless (IsTakenIn view places.dir (last_name path)) Exists (
    Unless view.spent Spent (
    Tells (λ entries. Move entries places.dir (last_name path) places.found.object)
    (AreNamedIn view places.found.dir (last_name from) places.found.object)))))
