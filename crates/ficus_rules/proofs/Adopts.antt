-- `adopt`: its answer is one, and the same over views that show the same.
use Rattle.std.proofs.Common.{Ok}
use Rattle.ficus_ids.specs.declared.id.Id.{Id}
use Rattle.ficus_ids.specs.declared.refusal.Refusal.TheVariants.{NotOrphan, IntoSelf, Exists, Spent}
use Rattle.ficus_model.specs.declared.event.Op.TheVariants.{Adopt}
use Rattle.ficus_path.specs.declared.path.Path.{Path}
use Rattle.ficus_rules.specs.Adopt.{AdoptRule, NeedsSearchBelow}
use Rattle.ficus_rules.specs.Rule.{Once, Along}
use Rattle.ficus_rules.specs.View.{View, SameView}
use Rattle.ficus_rules.specs.Walk.{last_name}
use Rattle.ficus_rules.proofs.Rules.{then_once, unless_once, where_once, gives_once, then_along, unless_along, where_along, gives_along}
use Rattle.ficus_rules.proofs.Views.{directory_same, taken_same, within_same}
use Rattle.ficus_rules.proofs.Walks.{parent_once, parent_along}

pub adopt_once : (view : View) (orphan : Id) (path : Path) → Once (AdoptRule view orphan path)
adopt_once view orphan path =
    where_once _ _ (then_once (parent_once view path)
    (λ dir. unless_once _ _ (unless_once _ _ (unless_once _ _ (gives_once _)))))

pub adopt_along : {one other : View} → SameView one other → (orphan : Id) (path : Path) →
    Along (AdoptRule one orphan path) (AdoptRule other orphan path)
adopt_along same orphan path =
    where_along NotOrphan (same.shown.orphans orphan) (then_along (parent_along same.shown path)
    (λ dir led. unless_along IntoSelf (within_same same.shown orphan dir)
    (unless_along Exists (taken_same same.shown dir (last_name path))
    (unless_along Spent same.spent (gives_along (Adopt orphan dir (last_name path)))))))

pub search_below_there : {one other : View} → SameView one other → (orphan : Id) (path : Path) →
    NeedsSearchBelow one orphan path → NeedsSearchBelow other orphan path
search_below_there same orphan path needs = record {
  is = (same.shown.orphans orphan).0 needs.is;
  dir = needs.dir;
  walked = parent_along same.shown path (Ok needs.dir) needs.walked;
  directory = (directory_same same.shown orphan).0 needs.directory;
}
