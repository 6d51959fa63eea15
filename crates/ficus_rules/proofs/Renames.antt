-- `rename`: its answer is one, and the same over views that show the same.
use Rattle.std.proofs.Common.{Ok}
use Rattle.ficus_ids.specs.declared.refusal.Refusal.TheVariants.{IntoSelf, Exists, Spent}
use Rattle.ficus_model.specs.declared.event.Op.TheVariants.{Move}
use Rattle.ficus_path.specs.declared.path.Path.{Path}
use Rattle.ficus_rules.specs.Rename.{NeedsSearch, RenameRule}
use Rattle.ficus_rules.specs.Rule.{Once, Along}
use Rattle.ficus_rules.specs.View.{View, SameView}
use Rattle.ficus_rules.specs.Walk.{last_name}
use Rattle.ficus_rules.proofs.Named.{one_named, named_there}
use Rattle.ficus_rules.proofs.Rules.{then_once, unless_once, tells_once, then_along, unless_along, tells_along}
use Rattle.ficus_rules.proofs.Views.{directory_same, taken_same, within_same}
use Rattle.ficus_rules.proofs.Walks.{places_once, places_along}

pub rename_once : (view : View) (from path : Path) → Once (RenameRule view from path)
rename_once view from path =
    then_once (places_once view from path)
    (λ places. unless_once _ _ (unless_once _ _ (unless_once _ _
    (tells_once (λ entries. Move entries places.dir (last_name path) places.found.object)
    (one_named view places.found.dir (last_name from) places.found.object)))))

pub rename_along : {one other : View} → SameView one other → (from path : Path) →
    Along (RenameRule one from path) (RenameRule other from path)
rename_along same from path =
    then_along (places_along same.shown from path)
    (λ places walked. unless_along IntoSelf (within_same same.shown places.found.object places.dir)
    (unless_along Exists (taken_same same.shown places.dir (last_name path))
    (unless_along Spent same.spent
    (tells_along (λ entries. Move entries places.dir (last_name path) places.found.object) (named_there same.shown)))))

pub search_there : {one other : View} → SameView one other → (from path : Path) → NeedsSearch one from path →
    NeedsSearch other from path
search_there same from path needs = record {
  places = needs.places;
  walked = places_along same.shown from path (Ok needs.places) needs.walked;
  directory = (directory_same same.shown needs.places.found.object).0 needs.directory;
}
