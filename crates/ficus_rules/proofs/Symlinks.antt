-- `symlink`: its answer is one, and the same over views that show the same.
use Rattle.std.proofs.Common.{ℕ, List, length}
use Rattle.ficus_ids.specs.Kind.{FitsKind, most_fixed_bytes}
use Rattle.ficus_ids.specs.declared.kind.Kind.TheVariants.{Symlink}
use Rattle.ficus_ids.specs.declared.refusal.Refusal.TheVariants.{Exists}
use Rattle.ficus_model.specs.declared.event.Op.TheVariants.{Make}
use Rattle.ficus_path.specs.declared.path.Path.{Path}
use Rattle.ficus_rules.specs.Rule.{Once, Along}
use Rattle.ficus_rules.specs.Symlink.{SymlinkRule}
use Rattle.ficus_rules.specs.View.{View, SameView}
use Rattle.ficus_rules.specs.Walk.{last_name}
use Rattle.ficus_rules.proofs.Limits.{up_to_once, up_to_along}
use Rattle.ficus_rules.proofs.Rules.{then_once, unless_once, gives_where_once, then_along, unless_along, gives_where_along}
use Rattle.ficus_rules.proofs.Views.{taken_same}
use Rattle.ficus_rules.proofs.Walks.{parent_once, parent_along}

pub symlink_once : (view : View) (path : Path) (text : List ℕ) → Once (SymlinkRule view path text)
symlink_once view path text =
    then_once (parent_once view path) (λ dir. unless_once _ _ (up_to_once most_fixed_bytes view _ (gives_where_once _ _)))

pub symlink_along : {one other : View} → SameView one other → (path : Path) (text : List ℕ) →
    Along (SymlinkRule one path text) (SymlinkRule other path text)
symlink_along same path text =
    then_along (parent_along same.shown path)
    (λ dir walked. unless_along Exists (taken_same same.shown dir (last_name path))
    (up_to_along most_fixed_bytes same (length text) (gives_where_along (FitsKind Symlink text) (Make dir (last_name path) Symlink text))))
