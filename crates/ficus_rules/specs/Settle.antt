-- `settle`: what it answers.
use Rattle.std.specs.Prelude.{ℕ, List, length, Result}
use Rattle.ficus_ids.specs.declared.refusal.Refusal.{Refusal}
use Rattle.ficus_ids.specs.declared.refusal.Refusal.TheVariants.{NoConflict}
use Rattle.ficus_model.specs.declared.event.Op.{Op}
use Rattle.ficus_model.specs.declared.event.Op.TheVariants.{Settle}
use Rattle.ficus_path.specs.declared.path.Path.{Path}
use Rattle.ficus_rules.specs.Limits.{LimitsRule}
use Rattle.ficus_rules.specs.Rule.{Then, Where, Gives}
use Rattle.ficus_rules.specs.View.{View}
use Rattle.ficus_rules.specs.Walk.{VersionedRule}

-- the walk; `isdir`; `islink`; `noconflict`; the limits; else a Settle
abbrev pub SettleRule : View → Path → List ℕ → Result Op Refusal → Type 0
SettleRule view path bytes =
    Then (VersionedRule view path) (λ file.
    Where (view.conflicts file) NoConflict (
    LimitsRule view (length bytes) (
    Gives (Settle file bytes))))
