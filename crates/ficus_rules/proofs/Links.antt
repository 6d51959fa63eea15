-- `link`: its answer is one, and the same over views that show the same.
use Rattle.ficus_ids.specs.declared.refusal.Refusal.TheVariants.{IsDir, Exists, Spent}
use Rattle.ficus_model.specs.declared.event.Op.TheVariants.{Link}
use Rattle.ficus_path.specs.declared.path.Path.{Path}
use Rattle.ficus_rules.specs.Link.{LinkRule}
use Rattle.ficus_rules.specs.Rule.{Once, Along}
use Rattle.ficus_rules.specs.View.{View, SameView}
use Rattle.ficus_rules.specs.Walk.{last_name}
use Rattle.ficus_rules.proofs.Rules.{then_once, unless_once, gives_once, then_along, unless_along, gives_along}
use Rattle.ficus_rules.proofs.Views.{directory_same, taken_same}
use Rattle.ficus_rules.proofs.Walks.{places_once, places_along}

pub link_once : (view : View) (from path : Path) → Once (LinkRule view from path)
link_once view from path =
    then_once (places_once view from path)
    (λ places. unless_once _ _ (unless_once _ _ (unless_once _ _ (gives_once _))))

pub link_along : {one other : View} → SameView one other → (from path : Path) →
    Along (LinkRule one from path) (LinkRule other from path)
link_along same from path =
    then_along (places_along same.shown from path)
    (λ places walked. unless_along IsDir (directory_same same.shown places.found.object)
    (unless_along Exists (taken_same same.shown places.dir (last_name path))
    (unless_along Spent same.spent (gives_along (Link places.dir (last_name path) places.found.object)))))
