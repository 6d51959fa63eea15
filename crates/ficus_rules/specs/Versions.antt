-- `versions`: what it answers.
use Rattle.std.specs.Prelude.{Result}
use Rattle.ficus_ids.specs.declared.refusal.Refusal.{Refusal}
use Rattle.ficus_path.specs.declared.path.Path.{Path}
use Rattle.ficus_rules.specs.Rule.{Then, Tells}
use Rattle.ficus_commands.specs.declared.told.Told.{Told}
use Rattle.ficus_commands.specs.declared.told.Told.TheVariants.{Versions}
use Rattle.ficus_rules.specs.View.{View}
use Rattle.ficus_rules.specs.Walk.{VersionedRule}

-- the walk; `isdir`; `islink`; else the versions of the file
abbrev pub VersionsRule : View → Path → Result Told Refusal → Type 0
VersionsRule view path =
    Then (VersionedRule view path) (λ file.
    Tells (Versions view.members) (view.versions file))
