-- `conflicts`: what it answers.
use Rattle.std.specs.Prelude.{◌↔◌, Result, Contains}
use Rattle.ficus_ids.specs.Rising.{IsRisingBy}
use Rattle.ficus_ids.specs.declared.id.Id.{Id}
use Rattle.ficus_ids.specs.declared.refusal.Refusal.{Refusal}
use Rattle.ficus_names.specs.Clash.{AreNameClashes}
use Rattle.ficus_names.specs.declared.clash.Clashes.{Clashes}
use Rattle.ficus_commands.specs.declared.told.Told.{Told}
use Rattle.ficus_commands.specs.declared.told.Told.TheVariants.{Conflicts}
use Rattle.ficus_rules.specs.Rule.{Tells}
use Rattle.ficus_rules.specs.View.{View, IsBoundIn}

-- exactly the names that lead to several objects, by directory and name, and the visible files in conflict, rising
pub record AreClashesIn (view : View) (clashes : Clashes) : Type 0 where
  pub names : AreNameClashes (IsBoundIn view) clashes.names
  pub files : (file : Id) → Contains clashes.files file ↔ view.conflicts file
  pub rising : IsRisingBy (λ (id : Id). id) clashes.files

-- what is in conflict; never refused
abbrev pub ConflictsRule : View → Result Told Refusal → Type 0
ConflictsRule view = Tells Conflicts (AreClashesIn view)
