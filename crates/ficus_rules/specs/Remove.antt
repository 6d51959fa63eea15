-- `remove`: what it answers.
use Rattle.std.specs.Prelude.{◌≡◌, ℕ, List, Result, Ok}
use Rattle.ficus_ids.specs.declared.id.Id.{Id}
use Rattle.ficus_ids.specs.declared.refusal.Refusal.{Refusal}
use Rattle.ficus_ids.specs.declared.refusal.Refusal.TheVariants.{NotEmpty, Spent}
use Rattle.ficus_model.specs.declared.event.Op.{Op}
use Rattle.ficus_model.specs.declared.event.Op.TheVariants.{Remove}
use Rattle.ficus_model.specs.Live.{ModelEntry}
use Rattle.ficus_path.specs.declared.path.Path.{Path}
use Rattle.ficus_rules.specs.Named.{AreNamedIn, HasOtherNameIn}
use Rattle.ficus_rules.specs.Rule.{Then, RefusedOr, Unless, Tells}
use Rattle.ficus_rules.specs.View.{View, IsDirectoryIn}
use Rattle.ficus_rules.specs.Walk.{EntryRule, Found, last_name}

-- a directory in which a live entry lies
pub record IsFullIn (view : View) (object : Id) : Type 0 where
  pub directory : IsDirectoryIn view object
  pub entry : ModelEntry
  pub live : view.live entry
  pub inside : entry.dir ≡ object

-- the object is such a directory: what is refused further is known once its other names are looked for, and that takes
-- memory
pub record NeedsNames (view : View) (path : Path) : Type 0 where
  pub found : Found
  pub walked : EntryRule view path (Ok found)
  pub full : IsFullIn view found.object

-- refused with `notempty` where a directory with something in it would lose its last name
abbrev pub KeepsNameRule : {B : Type 0} → View → Found → List ℕ → (Result B Refusal → Type 0) → Result B Refusal →
    Type 0
KeepsNameRule view found name rest =
    RefusedOr (IsFullIn view found.object × (HasOtherNameIn view found.dir name found.object → ⊥))
    (IsFullIn view found.object → HasOtherNameIn view found.dir name found.object) NotEmpty rest

-- the walk; `notempty`; `spent`; else a Remove of the named entries
abbrev pub RemoveRule : View → Path → Result Op Refusal → Type 0
RemoveRule view path =
    Then (EntryRule view path) (λ found.
    KeepsNameRule view found (last_name path) (
    Unless view.spent Spent (
    Tells (λ entries. Remove entries found.object) (AreNamedIn view found.dir (last_name path) found.object))))
