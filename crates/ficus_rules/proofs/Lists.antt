-- `list`: its answer is one, and the same over views that show the same.
use Rattle.ficus_path.specs.declared.path.Path.{Path}
use Rattle.ficus_rules.specs.List.{ListRule}
use Rattle.ficus_rules.specs.Rule.{Once, Along}
use Rattle.ficus_commands.specs.declared.told.Told.TheVariants.{Names}
use Rattle.ficus_rules.specs.View.{View, SameShown}
use Rattle.ficus_rules.proofs.Listings.{lines_once, lines_along}
use Rattle.ficus_rules.proofs.Rules.{then_once, tells_once, then_along, tells_along}
use Rattle.ficus_rules.proofs.Sound.{IsSound}
use Rattle.ficus_rules.proofs.Walks.{directory_once, directory_along}

pub list_once : (view : View) → IsSound view → (path : Path) → Once (ListRule view path)
list_once view sound path = then_once (directory_once view path.base path.parts) (λ dir. tells_once Names (lines_once sound))

pub list_along : {one other : View} → SameShown one other → (path : Path) →
    Along (ListRule one path) (ListRule other path)
list_along same path =
    then_along (directory_along same path.base path.parts)
    (λ dir walked. tells_along Names (λ lines are. lines_along same (λ shown. (λ is. is, λ is. is)) are))
