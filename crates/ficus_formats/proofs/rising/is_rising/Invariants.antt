use Rattle.std.proofs.Common.{◌≡◌}
use Rattle.std.specs.List.{AllAdjacentBelow}
use Rattle.std.specs.declared.cmp.Ordering.TheVariants.{Less}
use Rattle.ficus_ids.specs.Id.{id_cmp}
use Rattle.ficus_formats.proofs.rising.is_rising.Given as goal

abbrev pub invariant-loop-i : goal.invariant-loop-i
invariant-loop-i g l = AllAdjacentBelow (λ x y. id_cmp (g.S.RowSpelling.id_of x) (g.S.RowSpelling.id_of y) ≡ Less) l.values l.i
