-- `readlink`: what it answers.
use Rattle.std.specs.Prelude.{Result}
use Rattle.ficus_ids.specs.declared.refusal.Refusal.{Refusal}
use Rattle.ficus_commands.specs.declared.told.Told.{Told}
use Rattle.ficus_commands.specs.declared.told.Told.TheVariants.{Text}
use Rattle.ficus_path.specs.declared.path.Path.{Path}
use Rattle.ficus_rules.specs.Rule.{Then, Tells}
use Rattle.ficus_rules.specs.Text.{IsTextOf}
use Rattle.ficus_rules.specs.View.{View}
use Rattle.ficus_rules.specs.Walk.{FixedRule}

-- the walk; `notlink`; else the text of the symbolic link
abbrev pub ReadLinkRule : View → Path → Result Told Refusal → Type 0
ReadLinkRule view path =
    Then (FixedRule view path) (λ object.
    Tells Text (IsTextOf view object))
