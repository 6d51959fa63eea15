-- `readlink`: its answer is one, and the same over views that show the same.
use Rattle.ficus_commands.specs.declared.told.Told.TheVariants.{Text}
use Rattle.ficus_path.specs.declared.path.Path.{Path}
use Rattle.ficus_rules.specs.ReadLink.{ReadLinkRule}
use Rattle.ficus_rules.specs.Rule.{Once, Along}
use Rattle.ficus_rules.specs.View.{View, SameShown}
use Rattle.ficus_rules.proofs.Rules.{then_once, tells_once, then_along, tells_along}
use Rattle.ficus_rules.proofs.Sound.{IsSound}
use Rattle.ficus_rules.proofs.Texts.{text_once, text_along}
use Rattle.ficus_rules.proofs.Walks.{fixed_once, fixed_along}

pub readlink_once : (view : View) → IsSound view → (path : Path) → Once (ReadLinkRule view path)
readlink_once view sound path = then_once (fixed_once view path) (λ object. tells_once Text (text_once sound object))

pub readlink_along : {one other : View} → SameShown one other → (path : Path) →
    Along (ReadLinkRule one path) (ReadLinkRule other path)
readlink_along same path =
    then_along (fixed_along same path) (λ object walked. tells_along Text (text_along same object))
