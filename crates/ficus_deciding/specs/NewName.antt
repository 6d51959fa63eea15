-- The name that a change enters in a directory.
use Rattle.std.specs.Prelude.{ℕ, List, Result}
use Rattle.ficus_ids.specs.declared.id.Id.{Id}
use Rattle.ficus_ids.specs.declared.refusal.Refusal.{Refusal}
use Rattle.ficus_ids.specs.declared.refusal.Refusal.TheVariants.{Exists, Spent}
use Rattle.ficus_path.specs.declared.path.Path.{Path}
use Rattle.ficus_rules.specs.Rule.{Unless, Gives}
use Rattle.ficus_rules.specs.View.{View, IsTakenIn}
use Rattle.ficus_rules.specs.Walk.{last_name}

-- `exists`; `spent`; else the name of the new path
abbrev pub NewNameRule : View → Id → Path → Result (List ℕ) Refusal → Type 0
NewNameRule view dir path =
    Unless (IsTakenIn view dir (last_name path)) Exists (
    Unless view.spent Spent (
    Gives (last_name path)))
