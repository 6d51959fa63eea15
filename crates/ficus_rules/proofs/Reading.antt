-- `read`: its answer is one, and the same over views that show the same.
use Rattle.ficus_ids.specs.declared.refusal.Refusal.TheVariants.{Conflict}
use Rattle.ficus_commands.specs.declared.told.Told.TheVariants.{Text}
use Rattle.ficus_path.specs.declared.path.Path.{Path}
use Rattle.ficus_rules.specs.Read.{ReadRule}
use Rattle.ficus_rules.specs.Rule.{Once, Along}
use Rattle.ficus_rules.specs.View.{View, SameShown}
use Rattle.ficus_rules.proofs.Rules.{then_once, unless_once, tells_once, then_along, unless_along, tells_along}
use Rattle.ficus_rules.proofs.Sound.{IsSound}
use Rattle.ficus_rules.proofs.Texts.{text_once, text_along}
use Rattle.ficus_rules.proofs.Walks.{versioned_once, versioned_along}

pub read_once : (view : View) → IsSound view → (path : Path) → Once (ReadRule view path)
read_once view sound path =
    then_once (versioned_once view path) (λ file. unless_once _ _ (tells_once Text (text_once sound file)))

pub read_along : {one other : View} → SameShown one other → (path : Path) →
    Along (ReadRule one path) (ReadRule other path)
read_along same path =
    then_along (versioned_along same path)
    (λ file walked. unless_along Conflict (same.conflicts file) (tells_along Text (text_along same file)))
