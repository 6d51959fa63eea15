-- `tree`: its answer is one, and the same over views that show the same.
use Rattle.ficus_rules.specs.Rule.{Once, Along}
use Rattle.ficus_commands.specs.declared.told.Told.TheVariants.{Tree}
use Rattle.ficus_rules.specs.Tree.{TreeRule}
use Rattle.ficus_rules.specs.View.{View, SameShown}
use Rattle.ficus_rules.proofs.Listings.{lines_along, lines_once}
use Rattle.ficus_rules.proofs.Rules.{tells_once, tells_along}
use Rattle.ficus_rules.proofs.Sound.{IsSound}
use Rattle.ficus_rules.proofs.Views.{reached_same}

pub tree_once : {view : View} → IsSound view → Once (TreeRule view)
tree_once sound = tells_once Tree (lines_once sound)

pub tree_along : {one other : View} → SameShown one other → Along (TreeRule one) (TreeRule other)
tree_along same = tells_along Tree (λ lines are. lines_along same (reached_same same) are)
