-- `link`: what it answers.
use Rattle.std.specs.Prelude.{Result}
use Rattle.ficus_ids.specs.declared.refusal.Refusal.{Refusal}
use Rattle.ficus_ids.specs.declared.refusal.Refusal.TheVariants.{IsDir, Exists, Spent}
use Rattle.ficus_model.specs.declared.event.Op.{Op}
use Rattle.ficus_model.specs.declared.event.Op.TheVariants.{Link}
use Rattle.ficus_path.specs.declared.path.Path.{Path}
use Rattle.ficus_rules.specs.Rule.{Then, Unless, Gives}
use Rattle.ficus_rules.specs.View.{View, IsDirectoryIn, IsTakenIn}
use Rattle.ficus_rules.specs.Walk.{PlacesRule, last_name}

-- both walks; `isdir`; `exists`; `spent`; else a Link
abbrev pub LinkRule : View → Path → Path → Result Op Refusal → Type 0
LinkRule view from path =
    Then (PlacesRule view from path) (λ places.
    Unless (IsDirectoryIn view places.found.object) IsDir (
    Unless (IsTakenIn view places.dir (last_name path)) Exists (
    Unless view.spent Spent (
    Gives (Link places.dir (last_name path) places.found.object)))))
