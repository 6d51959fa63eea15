-- `settle`: its answer is one, and the same over views that show the same.
use Rattle.std.proofs.Common.{ℕ, List, length}
use Rattle.ficus_ids.specs.declared.refusal.Refusal.TheVariants.{NoConflict}
use Rattle.ficus_model.specs.declared.event.Op.TheVariants.{Settle}
use Rattle.ficus_path.specs.declared.path.Path.{Path}
use Rattle.ficus_rules.specs.Rule.{Once, Along}
use Rattle.ficus_rules.specs.Settle.{SettleRule}
use Rattle.ficus_rules.specs.View.{View, SameView}
use Rattle.ficus_rules.proofs.Limits.{limits_once, limits_along}
use Rattle.ficus_rules.proofs.Rules.{then_once, where_once, gives_once, then_along, where_along, gives_along}
use Rattle.ficus_rules.proofs.Walks.{versioned_once, versioned_along}

pub settle_once : (view : View) (path : Path) (bytes : List ℕ) → Once (SettleRule view path bytes)
settle_once view path bytes = then_once (versioned_once view path) (λ file. where_once _ _ (limits_once view _ (gives_once _)))

pub settle_along : {one other : View} → SameView one other → (path : Path) (bytes : List ℕ) →
    Along (SettleRule one path bytes) (SettleRule other path bytes)
settle_along same path bytes =
    then_along (versioned_along same.shown path)
    (λ file walked. where_along NoConflict (same.shown.conflicts file)
    (limits_along same (length bytes) (gives_along (Settle file bytes))))
