-- `read`: what it answers.
use Rattle.std.specs.Prelude.{Result}
use Rattle.ficus_ids.specs.declared.refusal.Refusal.{Refusal}
use Rattle.ficus_ids.specs.declared.refusal.Refusal.TheVariants.{Conflict}
use Rattle.ficus_commands.specs.declared.told.Told.{Told}
use Rattle.ficus_commands.specs.declared.told.Told.TheVariants.{Text}
use Rattle.ficus_path.specs.declared.path.Path.{Path}
use Rattle.ficus_rules.specs.Rule.{Then, Unless, Tells}
use Rattle.ficus_rules.specs.Text.{IsTextOf}
use Rattle.ficus_rules.specs.View.{View}
use Rattle.ficus_rules.specs.Walk.{VersionedRule}

-- the walk; `isdir`; `islink`; `conflict`; else the text of the file
abbrev pub ReadRule : View → Path → Result Told Refusal → Type 0
ReadRule view path =
    Then (VersionedRule view path) (λ file.
    Unless (view.conflicts file) Conflict (
    Tells Text (IsTextOf view file)))
