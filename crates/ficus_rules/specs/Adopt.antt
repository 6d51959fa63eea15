-- `adopt`: what it answers.
use Rattle.std.specs.Prelude.{Result, Ok}
use Rattle.ficus_ids.specs.declared.id.Id.{Id}
use Rattle.ficus_ids.specs.declared.refusal.Refusal.{Refusal}
use Rattle.ficus_ids.specs.declared.refusal.Refusal.TheVariants.{NotOrphan, IntoSelf, Exists, Spent}
use Rattle.ficus_model.specs.declared.event.Op.{Op}
use Rattle.ficus_model.specs.declared.event.Op.TheVariants.{Adopt}
use Rattle.ficus_path.specs.declared.path.Path.{Path}
use Rattle.ficus_rules.specs.Rule.{Then, Unless, Where, Gives}
use Rattle.ficus_rules.specs.View.{View, IsDirectoryIn, IsTakenIn, IsWithinIn}
use Rattle.ficus_rules.specs.Walk.{ParentRule, last_name}

-- the orphan is a directory: what is refused further is known once what lies below it is found, and that takes memory
pub record NeedsSearchBelow (view : View) (orphan : Id) (path : Path) : Type 0 where
  pub is : view.orphans orphan
  pub dir : Id
  pub walked : ParentRule view path (Ok dir)
  pub directory : IsDirectoryIn view orphan

-- `notorphan`; the parent walk of the new path; `intoself`; `exists`; `spent`; else an Adopt
abbrev pub AdoptRule : View → Id → Path → Result Op Refusal → Type 0
AdoptRule view orphan path =
    Where (view.orphans orphan) NotOrphan (
    Then (ParentRule view path) (λ dir.
    Unless (IsWithinIn view orphan dir) IntoSelf (
    Unless (IsTakenIn view dir (last_name path)) Exists (
    Unless view.spent Spent (
    Gives (Adopt orphan dir (last_name path)))))))
