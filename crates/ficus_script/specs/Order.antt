-- The orders of sweeps, by word.
use Rattle.std.specs.Prelude.{ℕ, List, codes}
use Rattle.ficus_script.specs.declared.order.Order.{Order}
use Rattle.ficus_script.specs.declared.order.Order.TheVariants.{Star, Ring}

abbrev pub order_word : Order → List ℕ
order_word Star = codes "star"
order_word Ring = codes "ring"
