-- `list`: what it answers.
use Rattle.std.specs.Prelude.{◌≡◌, Result}
use Rattle.ficus_ids.specs.declared.refusal.Refusal.{Refusal}
use Rattle.ficus_path.specs.declared.path.Path.{Path}
use Rattle.ficus_rules.specs.Lines.{AreLines}
use Rattle.ficus_rules.specs.Rule.{Then, Tells}
use Rattle.ficus_commands.specs.declared.told.Told.{Told}
use Rattle.ficus_commands.specs.declared.told.Told.TheVariants.{Names}
use Rattle.ficus_rules.specs.View.{View}
use Rattle.ficus_rules.specs.Walk.{DirectoryRule}

-- the walk; `notdir`; else the shown names of the directory
abbrev pub ListRule : View → Path → Result Told Refusal → Type 0
ListRule view path =
    Then (DirectoryRule view path.base path.parts) (λ dir.
    Tells Names (AreLines view (λ shown. shown ≡ dir)))
