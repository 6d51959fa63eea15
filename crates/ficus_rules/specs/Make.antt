-- `make`: what it answers.
use Rattle.std.specs.Prelude.{[], Result}
use Rattle.ficus_ids.specs.Kind.{FitsKind}
use Rattle.ficus_ids.specs.declared.kind.Kind.{Kind}
use Rattle.ficus_ids.specs.declared.refusal.Refusal.{Refusal}
use Rattle.ficus_ids.specs.declared.refusal.Refusal.TheVariants.{Exists, Spent}
use Rattle.ficus_model.specs.declared.event.Op.{Op}
use Rattle.ficus_model.specs.declared.event.Op.TheVariants.{Make}
use Rattle.ficus_path.specs.declared.path.Path.{Path}
use Rattle.ficus_rules.specs.Rule.{Then, Unless, GivesWhere}
use Rattle.ficus_rules.specs.View.{View, IsTakenIn}
use Rattle.ficus_rules.specs.Walk.{ParentRule, last_name}

-- the parent walk; `exists`; `spent`; else a Make without a text, of a kind that may have none
abbrev pub MakeRule : View → Path → Kind → Result Op Refusal → Type 0
MakeRule view path kind =
    Then (ParentRule view path) (λ dir.
    Unless (IsTakenIn view dir (last_name path)) Exists (
    Unless view.spent Spent (
    GivesWhere (FitsKind kind []) (Make dir (last_name path) kind []))))
