-- `discard`: what it answers.
use Rattle.std.specs.Prelude.{Result}
use Rattle.ficus_ids.specs.declared.id.Id.{Id}
use Rattle.ficus_ids.specs.declared.refusal.Refusal.{Refusal}
use Rattle.ficus_ids.specs.declared.refusal.Refusal.TheVariants.{NotOrphan, IsDir, Spent}
use Rattle.ficus_model.specs.declared.event.Op.{Op}
use Rattle.ficus_model.specs.declared.event.Op.TheVariants.{Discard}
use Rattle.ficus_rules.specs.Rule.{Unless, Where, Gives}
use Rattle.ficus_rules.specs.View.{View, IsDirectoryIn}

-- `notorphan`; `isdir`; `spent`; else a Discard
abbrev pub DiscardRule : View → Id → Result Op Refusal → Type 0
DiscardRule view orphan =
    Where (view.orphans orphan) NotOrphan (
    Unless (IsDirectoryIn view orphan) IsDir (
    Unless view.spent Spent (
    Gives (Discard orphan))))
