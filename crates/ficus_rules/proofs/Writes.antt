-- `write`: its answer is one, and the same over views that show the same.
use Rattle.std.proofs.Common.{ℕ, List, length}
use Rattle.ficus_ids.specs.declared.refusal.Refusal.TheVariants.{Conflict}
use Rattle.ficus_model.specs.declared.event.Op.TheVariants.{Write}
use Rattle.ficus_path.specs.declared.path.Path.{Path}
use Rattle.ficus_rules.specs.Rule.{Once, Along}
use Rattle.ficus_rules.specs.View.{View, SameView}
use Rattle.ficus_rules.specs.Write.{WriteRule}
use Rattle.ficus_rules.proofs.Limits.{limits_once, limits_along}
use Rattle.ficus_rules.proofs.Rules.{then_once, unless_once, gives_once, then_along, unless_along, gives_along}
use Rattle.ficus_rules.proofs.Walks.{versioned_once, versioned_along}

pub write_once : (view : View) (path : Path) (bytes : List ℕ) → Once (WriteRule view path bytes)
write_once view path bytes = then_once (versioned_once view path) (λ file. unless_once _ _ (limits_once view _ (gives_once _)))

pub write_along : {one other : View} → SameView one other → (path : Path) (bytes : List ℕ) →
    Along (WriteRule one path bytes) (WriteRule other path bytes)
write_along same path bytes =
    then_along (versioned_along same.shown path)
    (λ file walked. unless_along Conflict (same.shown.conflicts file)
    (limits_along same (length bytes) (gives_along (Write file bytes))))
