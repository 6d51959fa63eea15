-- `make`: its answer is one, and the same over views that show the same.
use Rattle.std.specs.Prelude.{[]}
use Rattle.ficus_ids.specs.Kind.{FitsKind}
use Rattle.ficus_ids.specs.declared.kind.Kind.{Kind}
use Rattle.ficus_ids.specs.declared.refusal.Refusal.TheVariants.{Exists, Spent}
use Rattle.ficus_model.specs.declared.event.Op.TheVariants.{Make}
use Rattle.ficus_path.specs.declared.path.Path.{Path}
use Rattle.ficus_rules.specs.Make.{MakeRule}
use Rattle.ficus_rules.specs.Rule.{Once, Along}
use Rattle.ficus_rules.specs.View.{View, SameView}
use Rattle.ficus_rules.specs.Walk.{last_name}
use Rattle.ficus_rules.proofs.Rules.{then_once, unless_once, gives_where_once, then_along, unless_along, gives_where_along}
use Rattle.ficus_rules.proofs.Views.{taken_same}
use Rattle.ficus_rules.proofs.Walks.{parent_once, parent_along}

pub make_once : (view : View) (path : Path) (kind : Kind) → Once (MakeRule view path kind)
make_once view path kind = then_once (parent_once view path) (λ dir. unless_once _ _ (unless_once _ _ (gives_where_once _ _)))

pub make_along : {one other : View} → SameView one other → (path : Path) (kind : Kind) →
    Along (MakeRule one path kind) (MakeRule other path kind)
make_along same path kind =
    then_along (parent_along same.shown path)
    (λ dir walked. unless_along Exists (taken_same same.shown dir (last_name path))
    (unless_along Spent same.spent (gives_where_along (FitsKind kind []) (Make dir (last_name path) kind []))))
