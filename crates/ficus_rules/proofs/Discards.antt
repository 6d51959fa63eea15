-- `discard`: its answer is one, and the same over views that show the same.
use Rattle.ficus_ids.specs.declared.id.Id.{Id}
use Rattle.ficus_ids.specs.declared.refusal.Refusal.TheVariants.{NotOrphan, IsDir, Spent}
use Rattle.ficus_model.specs.declared.event.Op.TheVariants.{Discard}
use Rattle.ficus_rules.specs.Discard.{DiscardRule}
use Rattle.ficus_rules.specs.Rule.{Once, Along}
use Rattle.ficus_rules.specs.View.{View, SameView}
use Rattle.ficus_rules.proofs.Rules.{unless_once, where_once, gives_once, unless_along, where_along, gives_along}
use Rattle.ficus_rules.proofs.Views.{directory_same}

pub discard_once : (view : View) (orphan : Id) → Once (DiscardRule view orphan)
discard_once view orphan = where_once _ _ (unless_once _ _ (unless_once _ _ (gives_once _)))

pub discard_along : {one other : View} → SameView one other → (orphan : Id) →
    Along (DiscardRule one orphan) (DiscardRule other orphan)
discard_along same orphan =
    where_along NotOrphan (same.shown.orphans orphan) (unless_along IsDir (directory_same same.shown orphan)
    (unless_along Spent same.spent (gives_along (Discard orphan))))
