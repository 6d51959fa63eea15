-- `write`: what it answers.
use Rattle.std.specs.Prelude.{ℕ, List, length, Result}
use Rattle.ficus_ids.specs.declared.refusal.Refusal.{Refusal}
use Rattle.ficus_ids.specs.declared.refusal.Refusal.TheVariants.{Conflict}
use Rattle.ficus_model.specs.declared.event.Op.{Op}
use Rattle.ficus_model.specs.declared.event.Op.TheVariants.{Write}
use Rattle.ficus_path.specs.declared.path.Path.{Path}
use Rattle.ficus_rules.specs.Limits.{LimitsRule}
use Rattle.ficus_rules.specs.Rule.{Then, Unless, Gives}
use Rattle.ficus_rules.specs.View.{View}
use Rattle.ficus_rules.specs.Walk.{VersionedRule}

-- the walk; `isdir`; `islink`; `conflict`; the limits; else a Write
abbrev pub WriteRule : View → Path → List ℕ → Result Op Refusal → Type 0
WriteRule view path bytes =
    Then (VersionedRule view path) (λ file.
    Unless (view.conflicts file) Conflict (
    LimitsRule view (length bytes) (
    Gives (Write file bytes))))
